use Rattle.std.proofs.Common.{inl, subst, sym}
use Rattle.pep440_compiled.proofs.SetMerging.{err_kept}
use Rattle.pep440_compiled.proofs.set_forms.union.Goals as goal
use Rattle.pep440_compiled.specs.SetForms.{DenotesSet}
use Rattle.pep440_ranges.specs.Complement.{gaps}
use Rattle.pep440_ranges.specs.Intersection.{overlaps}
use Rattle.pep440_version.specs.Key.{record_cmp}

pub returns-in_err-outside_left-clause-err : goal.returns-in_err-outside_left-clause-err
returns-in_err-outside_left-clause-err c s t h k = err_kept c.from_residual.result _ c.from_residual.ensures.1 (c.in_err-outside_left.ensures.err s h)

pub returns-in_err-outside_right-clause-err : goal.returns-in_err-outside_right-clause-err
returns-in_err-outside_right-clause-err c s t h k =
    err_kept c.from_residual-in_err-outside_right.result _ c.from_residual-in_err-outside_right.ensures.1 (c.in_err-outside_right.ensures.err t k)

pub returns-in_err-neither-clause-err : goal.returns-in_err-neither-clause-err
returns-in_err-neither-clause-err c s t h k =
    let left = subst (λ b. DenotesSet b (gaps s)) (sym c.as_slice.ensures.value) (c.in_ok-outside_left.ensures.ok s h) in
    let right = subst (λ b. DenotesSet b (gaps t)) (sym c.as_slice-2.ensures.value) (c.in_ok-outside_right.ensures.ok t k) in
    err_kept c.from_residual-in_err-neither.result _ c.from_residual-in_err-neither.ensures.1 (c.in_err-neither.ensures.err (gaps s) (gaps t) (inl left) (inl right))

pub returns-clause-ok : goal.returns-clause-ok
returns-clause-ok c s t h k =
    let left = subst (λ b. DenotesSet b (gaps s)) (sym c.as_slice.ensures.value) (c.in_ok-outside_left.ensures.ok s h) in
    let right = subst (λ b. DenotesSet b (gaps t)) (sym c.as_slice-2.ensures.value) (c.in_ok-outside_right.ensures.ok t k) in
    let both = overlaps record_cmp (gaps s) (gaps t) in
    let neither = subst (λ b. DenotesSet b both) (sym c.as_slice-3.ensures.value) (c.in_ok-neither.ensures.ok (gaps s) (gaps t) (inl left) (inl right)) in
    c.complement-3.ensures.ok both (inl neither)

pub returns-clause-err : goal.returns-clause-err
returns-clause-err c s t h k =
    let left = subst (λ b. DenotesSet b (gaps s)) (sym c.as_slice.ensures.value) (c.in_ok-outside_left.ensures.ok s h) in
    let right = subst (λ b. DenotesSet b (gaps t)) (sym c.as_slice-2.ensures.value) (c.in_ok-outside_right.ensures.ok t k) in
    let both = overlaps record_cmp (gaps s) (gaps t) in
    let neither = subst (λ b. DenotesSet b both) (sym c.as_slice-3.ensures.value) (c.in_ok-neither.ensures.ok (gaps s) (gaps t) (inl left) (inl right)) in
    c.complement-3.ensures.err both (inl neither)
