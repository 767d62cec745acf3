use Rattle.std.proofs.Common.{◌∙◌, inl, subst, sym}
use Rattle.pep440_compiled.proofs.SetMerging.{err_kept, told, valid_set}
use Rattle.pep440_compiled.proofs.set_forms.is_subset.Goals as goal
use Rattle.pep440_compiled.specs.SetForms.{DenotesSet}
use Rattle.pep440_ranges.specs.Complement.{gaps}

pub returns-in_err-outside-clause-err : goal.returns-in_err-outside-clause-err
returns-in_err-outside-clause-err c s t h k = err_kept c.from_residual.result _ c.from_residual.ensures.1 (c.in_err-outside.ensures.err t k)

pub returns-in_err-rest-clause-err : goal.returns-in_err-rest-clause-err
returns-in_err-rest-clause-err c s t h k =
    let outside = subst (λ b. DenotesSet b (gaps t)) (sym c.as_slice.ensures.value) (c.in_ok-outside.ensures.ok t k) in
    err_kept c.from_residual-in_err-rest.result _ c.from_residual-in_err-rest.ensures.1 (c.in_err-rest.ensures.err s (gaps t) h (inl outside))

pub returns-clause-ok : goal.returns-clause-ok
returns-clause-ok c s t h k =
    let outside = subst (λ b. DenotesSet b (gaps t)) (sym c.as_slice.ensures.value) (c.in_ok-outside.ensures.ok t k) in
    told s t c.in_ok-rest.rest.items c.len.result (valid_set c.args.left.now s h) (valid_set c.args.right.now t k) (c.in_ok-rest.ensures.ok s (gaps t) h (inl outside)) (c.len.ensures ∙ c.in_ok-rest.rest.ok.0)
