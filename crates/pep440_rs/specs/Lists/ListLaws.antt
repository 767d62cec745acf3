-- The order of lists is total, and lists that tie feed a hasher alike.
use Rattle.std.proofs.Common.{◌≡◌, ◌++◌, suc, List, [], ◌∷◌, length, refl, ap, true, sym}
use Rattle.std.proofs.lemmas.Bool.{true≢false}
use Rattle.std.specs.Cmp.{Equal-is, IsEquivalence, IsPartialOrder, IsTotalOrder, eq_by_cmp_equiv, po}
use Rattle.std.specs.Cmp.Lexicographic.{lists_total}
use Rattle.std.specs.Hash.{u64}
use Rattle.std.specs.List.{flat_map}
use Rattle.std.specs.Ordering.{as_partial_cmp, eq_by_cmp, is_eq}
use Rattle.std.specs.declared.cmp.Ordering.TheVariants.{Equal}
use Rattle.pep440_rs.specs.Lists.{list_cmp}
use Rattle.pep440_rs.specs.Specifiers.SpecifierLaws.{ties_first, ties_second, spec_total, specs_feed_alike}
use Rattle.pep440_rs.specs.Specifiers.{Spec, feed_spec, spec_cmp}
use Rattle.pep440_version.specs.Feed.{feed_items}

pub list_total : IsTotalOrder list_cmp
list_total = lists_total spec_total

pub list_equiv : IsEquivalence (eq_by_cmp list_cmp)
list_equiv = eq_by_cmp_equiv list_total

pub list_po : IsPartialOrder (eq_by_cmp list_cmp) (as_partial_cmp list_cmp)
list_po = po list_total (λ x y. refl)

-- as long, and member by member alike
members_alike : (xs ys : List Spec) → list_cmp xs ys ≡ Equal → (length xs ≡ length ys) × (flat_map feed_spec xs ≡ flat_map feed_spec ys)
members_alike [] [] e = (refl, refl)
members_alike [] (y ∷ ys) e = absurd (true≢false (sym (ap is_eq e)))
members_alike (x ∷ xs) [] e = absurd (true≢false (sym (ap is_eq e)))
members_alike (x ∷ xs) (y ∷ ys) e =
    let here = specs_feed_alike x y ((Equal-is (spec_cmp x y)).1 (ties_first _ _ e)) in
    let rest = members_alike xs ys (ties_second _ _ e) in
    (ap (λ n. suc n) rest.0, λ i. here i ++ rest.1 i)

pub lists_feed_alike : (x y : List Spec) → eq_by_cmp list_cmp x y ≡ true → feed_items feed_spec x ≡ feed_items feed_spec y
lists_feed_alike x y e =
    let same = members_alike x y ((Equal-is (list_cmp x y)).0 e) in
    λ i. u64 (same.0 i) ++ same.1 i
