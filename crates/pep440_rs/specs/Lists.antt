-- How a list of specifiers is printed and ordered.
pub mod ListResults
pub mod ListLaws
pub mod ListGrammar
pub mod ListReading
pub mod ListErrors
pub mod ListErrorTexts
use Rattle.std.specs.Prelude.{ℕ, List, [], ◌∷◌, ◌++◌, codes}
use Rattle.std.specs.Cmp.Lexicographic.{slice_cmp}
use Rattle.std.specs.List.{flat_map}
use Rattle.std.specs.declared.cmp.Ordering.{Ordering}
use Rattle.pep440_rs.specs.Specifiers.{Spec, spec_cmp, print_spec}

-- the normalized forms of the members, joined by this separator
abbrev pub joined : List ℕ → List Spec → List ℕ
joined between [] = []
joined between (s ∷ rest) = print_spec s ++ flat_map (λ t. between ++ print_spec t) rest

-- the normalized form of a list: its members, joined by `, `
abbrev pub print_list : List Spec → List ℕ
print_list list = joined (codes ", ") list

-- lists are compared member by member, a prefix below a longer list
abbrev pub list_cmp : List Spec → List Spec → Ordering
list_cmp = slice_cmp spec_cmp
