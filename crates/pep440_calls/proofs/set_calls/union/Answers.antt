use Rattle.std.proofs.Common.{inr}
use Rattle.std.proofs.lemmas.Result.{err_from_is_err_and}
use Rattle.pep440_calls.proofs.Allowed.{invalid_or_memory, is_taken, slice_gives, union_holds}
use Rattle.pep440_calls.proofs.set_calls.union.Goals as goal
use Rattle.pep440_calls.specs.CallResults.{TwoSetFaults}

pub returns-in_err-union : goal.returns-in_err-union
returns-in_err-union c =
    let p = err_from_is_err_and c.from_residual-in_err-union.result c.from_residual-in_err-union.ensures.1 in
    rw p.1 (invalid_or_memory (TwoSetFaults c.args.left.now c.args.right.now) p.0 _ p.2 (λ is. inr (λ s t given also.
    let has = slice_gives c.args.left.now c.as_slice.result.now c.in_ok-left_form.left_form s c.in_ok-left_form.ensures c.as_slice.ensures given in
    let other = slice_gives c.args.right.now c.as_slice-2.result.now c.in_ok-right_form.right_form t c.in_ok-right_form.ensures c.as_slice-2.ensures also in
    c.in_err-union.ensures.err s t has other is)) tt)

pub returns : goal.returns
returns c = (
  is_taken c.args.left.now c.in_ok-left_form.left_form c.in_ok-left_form.ensures,
  is_taken c.args.right.now c.in_ok-right_form.right_form c.in_ok-right_form.ensures,
  λ s t given also.
      let has = slice_gives c.args.left.now c.as_slice.result.now c.in_ok-left_form.left_form s c.in_ok-left_form.ensures c.as_slice.ensures given in
      let other = slice_gives c.args.right.now c.as_slice-2.result.now c.in_ok-right_form.right_form t c.in_ok-right_form.ensures c.as_slice-2.ensures also in
      union_holds c.in_ok-union.field-0.items c.as_slice.result.now c.as_slice-2.result.now s t has other (c.in_ok-union.ensures.ok s t has other),
)
