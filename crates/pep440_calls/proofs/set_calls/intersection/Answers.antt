use Rattle.std.proofs.Common.{inr}
use Rattle.std.proofs.lemmas.Result.{err_from_is_err_and}
use Rattle.pep440_calls.proofs.Allowed.{invalid_or_memory, intersection_holds, is_taken, slice_gives}
use Rattle.pep440_calls.proofs.set_calls.intersection.Goals as goal
use Rattle.pep440_calls.specs.CallResults.{TwoSetFaults}

pub returns-in_err-intersection : goal.returns-in_err-intersection
returns-in_err-intersection c =
    let p = err_from_is_err_and c.from_residual-in_err-intersection.result c.from_residual-in_err-intersection.ensures.1 in
    rw p.1 (invalid_or_memory (TwoSetFaults c.args.left.now c.args.right.now) p.0 _ p.2 (λ is. inr (λ s t given also.
    let has = slice_gives c.args.left.now c.as_slice.result.now c.in_ok-left_form.left_form s c.in_ok-left_form.ensures c.as_slice.ensures given in
    let other = slice_gives c.args.right.now c.as_slice-2.result.now c.in_ok-right_form.right_form t c.in_ok-right_form.ensures c.as_slice-2.ensures also in
    c.in_err-intersection.ensures.err s t has other is)) tt)

pub returns : goal.returns
returns c = (
  is_taken c.args.left.now c.in_ok-left_form.left_form c.in_ok-left_form.ensures,
  is_taken c.args.right.now c.in_ok-right_form.right_form c.in_ok-right_form.ensures,
  λ s t given also.
      let has = slice_gives c.args.left.now c.as_slice.result.now c.in_ok-left_form.left_form s c.in_ok-left_form.ensures c.as_slice.ensures given in
      let other = slice_gives c.args.right.now c.as_slice-2.result.now c.in_ok-right_form.right_form t c.in_ok-right_form.ensures c.as_slice-2.ensures also in
      intersection_holds c.in_ok-intersection.field-0.items s t (c.in_ok-intersection.ensures.ok s t has other),
)
