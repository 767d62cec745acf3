-- Changes of a version: each replaces one field. A list of changes is applied in order, up to the first that cannot be applied.
pub mod ChangeWords
pub mod ChangeWordResults
use Rattle.std.specs.Prelude.{ℕ, ◌+◌, ◌==◌, ◌||◌, List, [], ◌∷◌, length, is_some, Option, Result, Ok, Err, if◌then◌else◌, map}
use Rattle.pep440_version.specs.declared.change.Change.{Change}
use Rattle.pep440_version.specs.declared.change.Change.TheVariants as change
use Rattle.pep440_version.specs.declared.change.ChangeError.{ChangeError}
use Rattle.pep440_version.specs.declared.change.ChangeError.TheVariants as error
use Rattle.pep440_version.specs.declared.prerelease.Prerelease.{Prerelease}
use Rattle.pep440_version.specs.Record.{Record, LocalSegmentValue, from_release}
use Rattle.pep440_version.specs.Segments.{segment}

-- a change, apart from how it is stored
pub data Edit : Type 0 where
  Release : List ℕ → Edit
  Epoch : ℕ → Edit
  Pre : Option Prerelease → Edit
  Post : Option ℕ → Edit
  Dev : Option ℕ → Edit
  Local : List LocalSegmentValue → Edit
  WithoutLocal : Edit
  OnlyRelease : Edit
  Min : Option ℕ → Edit
  Max : Option ℕ → Edit

-- the change that a value of the enum stands for
abbrev pub edit : Change → Edit
edit (change.Release numbers) = Release numbers.items
edit (change.Epoch n) = Epoch n
edit (change.Pre p) = Pre p
edit (change.Post n) = Post n
edit (change.Dev n) = Dev n
edit (change.Local segments) = Local (map segment segments.items)
edit change.WithoutLocal = WithoutLocal
edit change.OnlyRelease = OnlyRelease
edit (change.Min n) = Min n
edit (change.Max n) = Max n

-- the record after one change, or the error with the position of the change
abbrev pub apply_edit : ℕ → Record → Edit → Result Record ChangeError
apply_edit position r (Release numbers) = if length numbers == 0 then Err (error.EmptyRelease position) else Ok (record r { release = numbers })
apply_edit position r (Epoch n) = Ok (record r { epoch = n })
apply_edit position r (Pre p) = Ok (record r { pre = p })
apply_edit position r (Post n) = Ok (record r { post = n })
apply_edit position r (Dev n) = Ok (record r { dev = n })
apply_edit position r (Local segments) = Ok (record r { local = segments })
apply_edit position r WithoutLocal = Ok (record r { local = [] })
apply_edit position r OnlyRelease = Ok (from_release r.release)
apply_edit position r (Min n) = if is_some r.pre || is_some r.dev then Err (error.MinNotAllowed position) else Ok (record r { min = n })
apply_edit position r (Max n) = if is_some r.post || is_some r.dev then Err (error.MaxNotAllowed position) else Ok (record r { max = n })

-- the next change, if those before it could be made
abbrev pub then_edit : Result Record ChangeError → (Record → Result Record ChangeError) → Result Record ChangeError
then_edit (Ok r) next = next r
then_edit (Err e) next = Err e

-- the record after all changes in order, of which the first has this position
abbrev pub apply_edits : ℕ → Record → List Edit → Result Record ChangeError
apply_edits position r [] = Ok r
apply_edits position r (c ∷ rest) = then_edit (apply_edit position r c) (λ q. apply_edits (position + 1) q rest)
