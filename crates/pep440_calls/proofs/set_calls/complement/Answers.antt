use Rattle.std.proofs.Common.{inr}
use Rattle.std.proofs.lemmas.Result.{err_from_is_err_and}
use Rattle.pep440_calls.proofs.Allowed.{complement_holds, invalid_or_memory, is_taken, slice_gives}
use Rattle.pep440_calls.proofs.set_calls.complement.Goals as goal
use Rattle.pep440_calls.specs.CallResults.{SetFault}

pub returns-in_err-complement : goal.returns-in_err-complement
returns-in_err-complement c =
    let p = err_from_is_err_and c.from_residual-in_err-complement.result c.from_residual-in_err-complement.ensures.1 in
    rw p.1 (invalid_or_memory (SetFault c.args.set.now) p.0 _ p.2 (λ is. inr (λ s given. c.in_err-complement.ensures.err s (slice_gives c.args.set.now c.as_slice.result.now c.in_ok-form.form s c.in_ok-form.ensures c.as_slice.ensures given) is)) tt)

pub returns : goal.returns
returns c = (
  is_taken c.args.set.now c.in_ok-form.form c.in_ok-form.ensures,
  λ s given.
      let has = slice_gives c.args.set.now c.as_slice.result.now c.in_ok-form.form s c.in_ok-form.ensures c.as_slice.ensures given in
      complement_holds c.in_ok-complement.field-0.items c.as_slice.result.now s has (c.in_ok-complement.ensures.ok s has),
)
