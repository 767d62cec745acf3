-- What the parser of change words returns, unless out of memory.
use Rattle.std.specs.Prelude.{◌≡◌, Option, Some, None, Result, Ok, Err}
use Rattle.pep440_version.specs.declared.change_word.ChangeWordError.{ChangeWordError}
use Rattle.pep440_version.specs.declared.change_word.ChangeWordError.TheVariants as no

-- what holds of an error: this of `NotAChange`, nothing of `OutOfMemory`
abbrev pub Lacks : Type 0 → ChangeWordError → Type 0
Lacks P no.NotAChange = P
Lacks P no.OutOfMemory = Unit {0}

-- a parser returns what the string denotes, and `NotAChange` only if it denotes nothing, unless out of memory
abbrev pub ReadsAs : {X A : Type 0} → (X → A) → Result X ChangeWordError → Option A → Type 0
ReadsAs view (Ok x) read = read ≡ Some (view x)
ReadsAs view (Err e) read = Lacks (read ≡ None) e
