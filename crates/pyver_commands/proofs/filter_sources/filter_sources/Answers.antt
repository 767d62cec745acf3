use Rattle.std.proofs.lemmas.Result.{err_from_is_err_and}
use Rattle.pyver_commands.proofs.Filtering.{filter_finishes, stops_at_end, stops_at_last, stops_before}
use Rattle.pyver_commands.proofs.filter_sources.filter_sources.Goals as goal

pub returns-in_err-unopened-clause-stopped : goal.returns-in_err-unopened-clause-stopped
returns-in_err-unopened-clause-stopped g c =
    let p = err_from_is_err_and c.from_residual.result c.from_residual.ensures.1 in
    rw (p.1, p.2) (stops_before _ _ _ _ c.args.rule.now _ c.args.input.now c.filter_all_sources.new.input c.args.out.now c.filter_all_sources.new.out c.args.err.now c.filter_all_sources.new.err _ c.in_err-unopened.ensures.stopped)

pub returns-in_err-status-clause-stopped : goal.returns-in_err-status-clause-stopped
returns-in_err-status-clause-stopped g c =
    let p = err_from_is_err_and c.from_residual-in_err-status.result c.from_residual-in_err-status.ensures.1 in
    rw (p.1, p.2) (stops_at_end _ _ _ _ c.args.rule.now _ _ c.filter_all_sources.new.state c.args.input.now c.filter_all_sources.new.input c.args.out.now c.filter_all_sources.new.out c.args.err.now c.filter_all_sources.new.err c.in_ok-unopened.ensures.finished _ tt)

pub returns-in_err-write_both-clause-stopped : goal.returns-in_err-write_both-clause-stopped
returns-in_err-write_both-clause-stopped g c =
    let k = c.in_ok-unopened.ensures.finished in
    let p = err_from_is_err_and c.from_residual-in_err-write_both.result c.from_residual-in_err-write_both.ensures.1 in
    rw (p.1, p.2) (stops_at_last _ _ _ _ c.args.rule.now _ _ c.filter_all_sources.new.state c.args.input.now c.filter_all_sources.new.input c.args.out.now c.filter_all_sources.new.out c.args.err.now c.filter_all_sources.new.err k c.write_both.new.out c.write_both.new.err
    c.finish.new.self c.in_ok-status.status c.in_ok-status.ensures _ (c.in_err-write_both.ensures.failure _) (rw c.as_slice.ensures.value at c.write_both.ensures.output) (rw c.as_slice-2.ensures.value at c.write_both.ensures.errors))

pub returns-clause-finished : goal.returns-clause-finished
returns-clause-finished g c =
    let k = c.in_ok-unopened.ensures.finished in
    filter_finishes _ _ _ _ c.args.rule.now _ _ c.filter_all_sources.new.state c.args.input.now c.filter_all_sources.new.input c.args.out.now c.filter_all_sources.new.out c.args.err.now c.filter_all_sources.new.err k c.write_both.new.out c.write_both.new.err
    c.finish.new.self c.in_ok-status.status c.in_ok-status.ensures (rw c.as_slice.ensures.value at c.in_ok-write_both.ensures.whole.0) (rw c.as_slice-2.ensures.value at c.in_ok-write_both.ensures.whole.1)
