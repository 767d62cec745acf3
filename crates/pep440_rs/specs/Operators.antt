-- The comparison operators: how each is written, its opposite, and which versions may follow it. A star form is written as its
-- plain form, and `.*` follows the version (PEP 440, "Version specifiers").
use Rattle.std.specs.Prelude.{◌≡◌, ℕ, List, Bool, true, false, Option, Some, None, codes}
use Rattle.std.specs.Hash.{HashWrites, u64}
use Rattle.std.specs.Ordering.{nat_cmp, on}
use Rattle.std.specs.declared.cmp.Ordering.{Ordering}
use Rattle.pep440_rs.specs.declared.specifier.operator.Operator.{Operator}
use Rattle.pep440_rs.specs.declared.specifier.operator.Operator.TheVariants.{Equal, EqualStar, ExactEqual, NotEqual, NotEqualStar, TildeEqual, LessThan, LessThanEqual, GreaterThan, GreaterThanEqual}

-- how an operator is written; a star form is written as its plain form
abbrev pub operator_text : Operator → List ℕ
operator_text Equal = codes "=="
operator_text EqualStar = codes "=="
operator_text ExactEqual = codes "==="
operator_text NotEqual = codes "!="
operator_text NotEqualStar = codes "!="
operator_text TildeEqual = codes "~="
operator_text LessThan = codes "<"
operator_text LessThanEqual = codes "<="
operator_text GreaterThan = codes ">"
operator_text GreaterThanEqual = codes ">="

-- `==` or `!=` with a star
abbrev pub is_star : Operator → Bool
is_star EqualStar = true
is_star NotEqualStar = true
is_star _ = false

-- `!=` with or without a star
abbrev pub is_exclusion : Operator → Bool
is_exclusion NotEqual = true
is_exclusion NotEqualStar = true
is_exclusion _ = false

-- the string is this operator, which is no star form
abbrev pub Spells : List ℕ → Operator → Type 0
Spells text o = (text ≡ operator_text o) × (is_star o ≡ false)

-- the operator with the opposite answer, if there is one: `==` and `!=`, `<` and `>=`, `>` and `<=`, and `!=` of `===`; None
-- for `~=`
abbrev pub negated : Operator → Option Operator
negated Equal = Some NotEqual
negated EqualStar = Some NotEqualStar
negated ExactEqual = Some NotEqual
negated NotEqual = Some Equal
negated NotEqualStar = Some EqualStar
negated TildeEqual = None
negated LessThan = Some GreaterThanEqual
negated LessThanEqual = Some GreaterThan
negated GreaterThan = Some LessThanEqual
negated GreaterThanEqual = Some LessThan

-- a specifier with this operator matches nothing below some version
abbrev pub has_lower_bound : Operator → Bool
has_lower_bound NotEqual = false
has_lower_bound NotEqualStar = false
has_lower_bound LessThan = false
has_lower_bound LessThanEqual = false
has_lower_bound _ = true

-- the version may have a local part
abbrev pub allows_local : Operator → Bool
allows_local Equal = true
allows_local ExactEqual = true
allows_local NotEqual = true
allows_local _ = false

-- the position in the enum, from 0
abbrev pub operator_rank : Operator → ℕ
operator_rank Equal = 0
operator_rank EqualStar = 1
operator_rank ExactEqual = 2
operator_rank NotEqual = 3
operator_rank NotEqualStar = 4
operator_rank TildeEqual = 5
operator_rank LessThan = 6
operator_rank LessThanEqual = 7
operator_rank GreaterThan = 8
operator_rank GreaterThanEqual = 9

-- operators in the order of the enum
abbrev pub operator_cmp : Operator → Operator → Ordering
operator_cmp = on operator_rank nat_cmp

-- what an operator gives a hasher
abbrev pub feed_operator : Operator → HashWrites
feed_operator o = u64 (operator_rank o)
