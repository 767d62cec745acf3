use Rattle.std.proofs.Common.{None, inl}
use Rattle.std.proofs.lemmas.Result.{err_from_is_err_and}
use Rattle.pyver_commands.proofs.whole_input.answer_sources.Goals as goal

pub returns-in_err-unopened-clause-stopped : goal.returns-in_err-unopened-clause-stopped
returns-in_err-unopened-clause-stopped g c =
    let front = c.in_err-unopened.ensures.stopped in
    let p = err_from_is_err_and c.from_residual.result c.from_residual.ensures.1 in
    rw (p.1, p.2) (record { input = record { sources = front.0; unopened = None }; reads = inl front.1; stops = front.2 })
