-- What a line asks for that is a requirement: a name, extras and a marker, each in its normal form, a pin or none, and its list.
use Rattle.std.specs.Prelude.{ℕ, List, Bool, true, false, Option, map}
use Rattle.std.specs.List.{All, list_any}
use Rattle.pep440_pick.specs.Names.{normal}
use Rattle.pep440_pick.specs.RequirementGrammar.{Needed}
use Rattle.pep440_rs.specs.Denoted.{IsDenotable}
use Rattle.pep440_rs.specs.Specifiers.{Spec}
use Rattle.pep440_rs.specs.declared.specifier.operator.Operator.{Operator}
use Rattle.pep440_rs.specs.declared.specifier.operator.Operator.TheVariants.{Equal, ExactEqual}
use Rattle.pyver_findings.specs.FileLines.{FileLine}

pub record Demand : Type 0 where
  pub line : FileLine
  pub name : List ℕ
  pub extras : List (List ℕ)
  pub marker : Option (List ℕ)
  pub pinned : Bool
  pub specifiers : List Spec

-- `==` and `===`
abbrev pub is_pin_operator : Operator → Bool
is_pin_operator Equal = true
is_pin_operator ExactEqual = true
is_pin_operator _ = false

-- some member of the list names one version
abbrev pub is_pinned : List Spec → Bool
is_pinned list = list_any (λ m. is_pin_operator m.operator) list

-- what the line asks for
abbrev pub line_demand : FileLine → Option (List ℕ) → Needed → Demand
line_demand line marker n = record { line = line; name = normal n.name; extras = map normal n.extras; marker = marker; pinned = is_pinned n.specifiers; specifiers = n.specifiers }

-- strings can give the members of its list
abbrev pub IsSound : Demand → Type 0
IsSound a = All IsDenotable a.specifiers
