-- The normal form of environment markers: what `and` or `or` joins stands in the order of the bytes and once, however quotes, blanks,
-- parentheses and sides were written.
use Rattle.std.specs.Prelude.{ℕ, ◌==◌, List, [], ◌∷◌, ◌++◌, Option, Some, None, codes, if◌then◌else◌}
use Rattle.std.specs.BTreeSet.{insert_key}
use Rattle.std.specs.List.{flat_map, list_any}
use Rattle.std.specs.Cmp.Lexicographic.{slice_cmp}
use Rattle.std.specs.Ordering.{nat_cmp}
use Rattle.pyver_requirements.specs.MarkerTokens.{Constant, Invalid, Side, Variable}
use Rattle.pyver_requirements.specs.declared.marker_operator.MarkerOperator.{MarkerOperator}
use Rattle.pyver_requirements.specs.declared.marker_operator.MarkerOperator.TheVariants as operator

-- ---- comparisons

abbrev pub marker_operator_text : MarkerOperator → List ℕ
marker_operator_text operator.Less = codes "<"
marker_operator_text operator.LessOrEqual = codes "<="
marker_operator_text operator.NotEqual = codes "!="
marker_operator_text operator.Equal = codes "=="
marker_operator_text operator.GreaterOrEqual = codes ">="
marker_operator_text operator.Greater = codes ">"
marker_operator_text operator.Compatible = codes "~="
marker_operator_text operator.Arbitrary = codes "==="
marker_operator_text operator.In = codes "in"
marker_operator_text operator.NotIn = codes "not in"

-- the operator with both sides exchanged, if there is one
abbrev pub mirrored : MarkerOperator → Option MarkerOperator
mirrored operator.Less = Some operator.Greater
mirrored operator.LessOrEqual = Some operator.GreaterOrEqual
mirrored operator.NotEqual = Some operator.NotEqual
mirrored operator.Equal = Some operator.Equal
mirrored operator.GreaterOrEqual = Some operator.LessOrEqual
mirrored operator.Greater = Some operator.Less
mirrored _ = None

-- the quote around a string: a double one, unless one stands inside
abbrev pub quote_around : List ℕ → ℕ
quote_around text = if list_any (λ b. b == 34) text then 39 else 34

-- a variable, or a string in quotes
abbrev pub side_text : Side → List ℕ
side_text (Variable name) = name
side_text (Constant text) = quote_around text ∷ (text ++ quote_around text ∷ [])
side_text (Invalid f) = []

-- the sides as they stand
abbrev pub as_written : Side → MarkerOperator → Side → List ℕ
as_written left o right = side_text left ++ (codes " " ++ (marker_operator_text o ++ (codes " " ++ side_text right)))

-- the sides exchanged, by the mirrored operator; as they stand where there is none
abbrev pub exchanged : Side → MarkerOperator → Side → Option MarkerOperator → List ℕ
exchanged left o right (Some m) = as_written right m left
exchanged left o right None = as_written left o right

-- the comparison, with a string on its right side where the operator has a mirrored one
abbrev pub comparison_text : Side → MarkerOperator → Side → List ℕ
comparison_text (Constant text) o right = exchanged (Constant text) o right (mirrored o)
comparison_text left o right = as_written left o right

-- ---- terms

-- what `and` joins, and what `or` joins: as strings in the order of their bytes, each once
pub data Terms : Type 0 where
  All : List (List ℕ) → Terms
  Any : List (List ℕ) → Terms

-- the first terms and the second
abbrev pub union : List (List ℕ) → List (List ℕ) → List (List ℕ)
union terms [] = terms
union terms (t ∷ rest) = union (insert_key (slice_cmp nat_cmp) terms t) rest

-- the terms with this word between them
abbrev pub joined_terms : List ℕ → List (List ℕ) → List ℕ
joined_terms connective [] = []
joined_terms connective (t ∷ rest) = t ++ flat_map (λ u. connective ++ u) rest

-- a marker in its normal form
abbrev pub terms_text : Terms → List ℕ
terms_text (All terms) = joined_terms (codes " and ") terms
terms_text (Any terms) = joined_terms (codes " or ") terms

-- the terms as `and` joins them with others
abbrev pub under_and : Terms → List (List ℕ)
under_and (All terms) = terms
under_and (Any terms) = (codes "(" ++ (terms_text (Any terms) ++ codes ")")) ∷ []

-- the terms as `or` joins them with others
abbrev pub under_or : Terms → List (List ℕ)
under_or (All terms) = terms_text (All terms) ∷ []
under_or (Any terms) = terms

-- both by `and`, and both by `or`
abbrev pub both : Terms → Terms → Terms
both a b = All (union (under_and a) (under_and b))

abbrev pub either : Terms → Terms → Terms
either a b = Any (union (under_or a) (under_or b))
