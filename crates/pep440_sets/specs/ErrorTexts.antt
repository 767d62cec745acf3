-- The messages of errors.
use Rattle.std.specs.Prelude.{ℕ, List, codes}
use Rattle.pep440_sets.specs.declared.error.SetError.{SetError}
use Rattle.pep440_sets.specs.declared.error.SetError.TheVariants.{ArbitraryEquality, OutOfMemory}

abbrev pub set_error_text : SetError → List ℕ
set_error_text ArbitraryEquality = codes "a list with === has no set, since === compares how versions are written"
set_error_text OutOfMemory = codes "out of memory"
