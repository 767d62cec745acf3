-- The value of a specifier, an operator and the record of a version; and how it is printed, ordered and hashed (PEP 440,
-- "Version specifiers").
pub mod SpecifierLaws
pub mod SpecifierGrammar
pub mod SpecifierReading
use Rattle.std.specs.Prelude.{◌≡◌, ◌<◌, ◌++◌, ℕ, List, [], codes, length, if◌then◌else◌}
use Rattle.std.specs.Hash.{HashWrites}
use Rattle.std.specs.Ordering.{on, then_cmp}
use Rattle.std.specs.declared.cmp.Ordering.{Ordering}
use Rattle.pep440_version.specs.Feed.{feed}
use Rattle.pep440_version.specs.Key.{record_cmp}
use Rattle.pep440_version.specs.Print.{print}
use Rattle.pep440_version.specs.Record.{Record}
use Rattle.pep440_rs.specs.Operators.{feed_operator, is_star, operator_cmp, operator_text}
use Rattle.pep440_rs.specs.declared.specifier.operator.Operator.{Operator}
use Rattle.pep440_rs.specs.declared.specifier.operator.Operator.TheVariants.{TildeEqual}

-- a specifier: its operator, and the record of its version
pub record Spec : Type 0 where
  pub operator : Operator
  pub version : Record

-- there is a release number, and two or more if the operator is `~=` (PEP 440, "Compatible release")
abbrev pub IsSpec : Spec → Type 0
IsSpec s = (0 < length s.version.release) × (s.operator ≡ TildeEqual → 1 < length s.version.release)

-- the operator, the version, and `.*` for a star form
abbrev pub print_spec : Spec → List ℕ
print_spec s = operator_text s.operator ++ (print s.version ++ (if is_star s.operator then codes ".*" else []))

-- by operator, then by version
abbrev pub spec_cmp : Spec → Spec → Ordering
spec_cmp = then_cmp (on (λ (s : Spec). s.operator) operator_cmp) (on (λ (s : Spec). s.version) record_cmp)

-- a hasher gets the operator, then the version
abbrev pub feed_spec : Spec → HashWrites
feed_spec s = feed_operator s.operator ++ feed s.version
