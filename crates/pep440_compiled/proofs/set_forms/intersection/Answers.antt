use Rattle.pep440_compiled.proofs.SetMerging.{err_kept, intersection_denoted}
use Rattle.pep440_compiled.proofs.set_forms.intersection.Goals as goal

pub returns-in_default-clause-err : goal.returns-in_default-clause-err
returns-in_default-clause-err c s t h k _ = c.in_default.ensures.found s h

pub returns-in_default-view_set-clause-err : goal.returns-in_default-view_set-clause-err
returns-in_default-view_set-clause-err c s t h k _ = c.in_default-view_set.ensures.found t k

pub returns-in_err-push_overlaps-clause-err : goal.returns-in_err-push_overlaps-clause-err
returns-in_err-push_overlaps-clause-err c s t h k =
    err_kept c.from_residual-in_err-push_overlaps.result _ c.from_residual-in_err-push_overlaps.ensures.1
    (c.in_err-push_overlaps.ensures.err s t (c.in-Some.ensures.found s h) (c.in-Some-view_set.ensures.found t k))

pub returns-clause-ok : goal.returns-clause-ok
returns-clause-ok c s t h k =
    let left = c.in-Some.ensures.found s h in
    let right = c.in-Some-view_set.ensures.found t k in
    intersection_denoted c.in-Some.left_keys.now c.in-Some-view_set.right_keys.now c.in_ok-bytes.bytes.items c.push_overlaps.new.out.items s t left right c.in_ok-bytes.ensures
    (c.in_ok-push_overlaps.ensures.ok s t left right)
