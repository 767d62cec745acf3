-- How an operator and a pattern make a specifier: the star rule, the local rule and the two numbers for `~=`, in this order
-- (PEP 440, "Version specifiers").
use Rattle.std.specs.Prelude.{Bool, true, false, ◌&&◌, not, nat_lt, length, Result, Ok, Err, if◌then◌else◌}
use Rattle.pep440_version.specs.Record.{Record}
use Rattle.pep440_rs.specs.Matching.{has_local}
use Rattle.pep440_rs.specs.Operators.{allows_local}
use Rattle.pep440_rs.specs.Specifiers.{Spec}
use Rattle.pep440_rs.specs.declared.specifier.operator.Operator.{Operator}
use Rattle.pep440_rs.specs.declared.specifier.operator.Operator.TheVariants.{Equal, EqualStar, NotEqual, NotEqualStar, TildeEqual}

-- why an operator and a pattern are no specifier
pub data BuildRejection : Type 0 where
  OperatorLocalCombo : Operator → Record → BuildRejection
  OperatorWithStar : Operator → BuildRejection
  CompatibleRelease : BuildRejection

-- the operator `~=`
abbrev pub is_compatible : Operator → Bool
is_compatible TildeEqual = true
is_compatible _ = false

-- a specifier of an operator and a version: no local part beside an operator that does not allow it, and two release numbers
-- for `~=`
abbrev pub built : Operator → Record → Result Spec BuildRejection
built o r =
    if has_local r && not (allows_local o) then Err (OperatorLocalCombo o r)
    else if is_compatible o && nat_lt (length r.release) 2 then Err CompatibleRelease
    else Ok (record { operator = o; version = r })

-- a specifier of an operator and a pattern: of a pattern with a star, only plain `==` and `!=` make a specifier
abbrev pub built_pattern : Operator → Record → Bool → Result Spec BuildRejection
built_pattern o r false = built o r
built_pattern Equal r true = built EqualStar r
built_pattern NotEqual r true = built NotEqualStar r
built_pattern o r true = Err (OperatorWithStar o)
