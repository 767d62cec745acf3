use Rattle.std.proofs.Common.{◌∙◌, ap, inr, map, subst}
use Rattle.std.proofs.lemmas.Result.{err_from_is_err_and}
use Rattle.pep440_calls.proofs.Allowed.{invalid_or_memory, is_taken, slice_gives}
use Rattle.pep440_calls.proofs.set_calls.to_boundaries.Goals as goal
use Rattle.pep440_calls.specs.Statuses.{Joins}
use Rattle.pep440_calls.specs.CallResults.{SetFault}

pub returns-in_err-keys : goal.returns-in_err-keys
returns-in_err-keys c =
    let p = err_from_is_err_and c.from_residual-in_err-keys.result c.from_residual-in_err-keys.ensures.1 in
    rw p.1 (invalid_or_memory (SetFault c.args.set.now) p.0 _ p.2 (λ is. inr (λ s given. c.in_err-keys.ensures.err s (slice_gives c.args.set.now c.as_slice.result.now c.in_ok-form.form s c.in_ok-form.ensures c.as_slice.ensures given) is)) tt)

pub returns : goal.returns
returns c = (
  is_taken c.args.set.now c.in_ok-form.form c.in_ok-form.ensures,
  λ s given.
      let has = slice_gives c.args.set.now c.as_slice.result.now c.in_ok-form.form s c.in_ok-form.ensures c.as_slice.ensures given in
      subst (λ l. Joins l c.in_ok-join_keys.field-0.bytes.items c.in_ok-join_keys.field-0.ends.items)
      (ap (map (λ k. k.now)) c.as_slice-2.ensures.value ∙ c.in_ok-keys.ensures.ok s has) c.in_ok-join_keys.ensures,
)
