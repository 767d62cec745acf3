use Rattle.std.proofs.Common.{◌≡◌, ◌∙◌, ap, nat_eq, sym, true≢false}
use Rattle.std.proofs.lemmas.Cmp.{nat_list_eq_equiv}
use Rattle.std.specs.Cmp.Lexicographic.{pointwise, same_text}
use Rattle.pep440_compiled.proofs.Fronts.{alike_by_zeros, alike_not}
use Rattle.pep440_compiled.proofs.matching.matches_other.Goals as goal
use Rattle.pep440_keys.specs.SortKeys.{key_bytes}
use Rattle.pep440_rs.specs.Matching.{matches}

pub returns-then-eq : goal.returns-then-eq
returns-then-eq c s v parts other spec =
    let view = other.version in
    let same : key_bytes v ≡ key_bytes s = sym view.key ∙ same_text _ _ (sym c.if-eq.true ∙ c.eq.ensures) ∙ parts.version.key in
    (λ i. nat_eq (view.zeros i) (parts.version.zeros i)) ∙ alike_by_zeros s v parts.version.parsed view.parsed same ∙ ap (λ o. matches o s v) (sym c.in-ExactEqual.is)

pub returns-else-eq : goal.returns-else-eq
returns-else-eq c s v parts other spec =
    let view = other.version in
    c.if-eq.false
    ∙ alike_not s v parts.version.parsed view.parsed (λ same.
    true≢false (sym (nat_list_eq_equiv.refl (key_bytes v)) ∙ ap (pointwise nat_eq (key_bytes v)) same ∙ (λ i. pointwise nat_eq (sym view.key i) (sym parts.version.key i)) ∙ sym c.eq.ensures ∙ c.if-eq.false))
    ∙ ap (λ o. matches o s v) (sym c.in-ExactEqual.is)
