-- The order of specifiers is total, and specifiers that tie feed a hasher alike.
use Rattle.std.proofs.Common.{◌≡◌, ◌++◌, refl, sym, ap, true}
use Rattle.std.proofs.lemmas.Bool.{true≢false}
use Rattle.std.specs.Cmp.{Equal-is, IsEquivalence, IsPartialOrder, IsTotalOrder, eq_by_cmp_equiv, on_total, po, then_total}
use Rattle.std.specs.Ordering.{as_partial_cmp, eq_by_cmp, is_eq, ordering_then}
use Rattle.std.specs.declared.cmp.Ordering.{Ordering}
use Rattle.std.specs.declared.cmp.Ordering.TheVariants.{Less, Equal, Greater}
use Rattle.pep440_version.specs.Key.{record_cmp}
use Rattle.pep440_version.specs.Key.KeyLaws.{record_total}
use Rattle.pep440_version.specs.Key.Ties.{feeds_alike}
use Rattle.pep440_rs.specs.OperatorLaws.{operator_total, same_operator}
use Rattle.pep440_rs.specs.Operators.{feed_operator}
use Rattle.pep440_rs.specs.Specifiers.{Spec, feed_spec, spec_cmp}

pub spec_total : IsTotalOrder spec_cmp
spec_total = then_total (on_total (λ (s : Spec). s.operator) operator_total) (on_total (λ (s : Spec). s.version) record_total)

pub spec_equiv : IsEquivalence (eq_by_cmp spec_cmp)
spec_equiv = eq_by_cmp_equiv spec_total

pub spec_po : IsPartialOrder (eq_by_cmp spec_cmp) (as_partial_cmp spec_cmp)
spec_po = po spec_total (λ x y. refl)

-- both parts of a comparison that ties tie
pub ties_first : (r s : Ordering) → ordering_then r s ≡ Equal → r ≡ Equal
ties_first Less s e = absurd (true≢false (sym (ap is_eq e)))
ties_first Equal s e = refl
ties_first Greater s e = absurd (true≢false (sym (ap is_eq e)))

pub ties_second : (r s : Ordering) → ordering_then r s ≡ Equal → s ≡ Equal
ties_second Less s e = absurd (true≢false (sym (ap is_eq e)))
ties_second Equal s e = e
ties_second Greater s e = absurd (true≢false (sym (ap is_eq e)))

pub specs_feed_alike : (x y : Spec) → eq_by_cmp spec_cmp x y ≡ true → feed_spec x ≡ feed_spec y
specs_feed_alike x y e =
    let same = (Equal-is (spec_cmp x y)).0 e in
    let operator = same_operator x.operator y.operator (ties_first _ _ same) in
    let version = feeds_alike x.version y.version ((Equal-is (record_cmp x.version y.version)).1 (ties_second _ _ same)) in
    λ i. feed_operator (operator i) ++ version i
