use Rattle.std.proofs.Common.{rules, Some, ap, option_map, refl}
use Rattle.std.proofs.lemmas.Result.{err_from_is_err_and}
use Rattle.pyver_commands.proofs.InputOutput.{newest_answers, stops_after, stops_within}
use Rattle.pyver_commands.specs.AnswerViews.{kept_line}
use Rattle.pyver_commands.proofs.newest.find_newest.Goals as goal

pub returns-in-Err-clause-stopped : goal.returns-in-Err-clause-stopped
returns-in-Err-clause-stopped g c =
    stops_within _ _ _ _ _ _ c.args.input.now c.filter_all_sources.new.input _ _ _ _ c.in-Err.failure c.without_writes.result c.in-Err.ensures.stopped c.without_writes.ensures.memory c.without_writes.ensures.of

pub returns-in_err-report_open_failure-clause-stopped : goal.returns-in_err-report_open_failure-clause-stopped
returns-in_err-report_open_failure-clause-stopped g c =
    let p = err_from_is_err_and c.from_residual.result c.from_residual.ensures.1 in
    rw (p.1, p.2) (stops_after _ _ _ _ c.args.rule c.takes_prereleases.result _ c.filter_all_sources.new.state c.args.input.now c.filter_all_sources.new.input _ _ _ _ _ c.in-Ok.ensures.finished)

pub returns-in_err-push_last-clause-stopped : goal.returns-in_err-push_last-clause-stopped
returns-in_err-push_last-clause-stopped g c =
    let p = err_from_is_err_and c.from_residual-in_err-push_last.result c.from_residual-in_err-push_last.ensures.1 in
    rw (p.1, p.2) (stops_after _ _ _ _ c.args.rule c.takes_prereleases.result _ c.filter_all_sources.new.state c.args.input.now c.filter_all_sources.new.input _ _ _ _ _ c.in-Ok.ensures.finished)

pub returns-in_err-print_newest-clause-stopped : goal.returns-in_err-print_newest-clause-stopped
returns-in_err-print_newest-clause-stopped g c =
    let p = err_from_is_err_and c.from_residual-in_err-print_newest.result c.from_residual-in_err-print_newest.ensures.1 in
    rw (p.1, p.2) (stops_after _ _ _ _ c.args.rule c.takes_prereleases.result _ c.filter_all_sources.new.state c.args.input.now c.filter_all_sources.new.input _ _ _ _ _ c.in-Ok.ensures.finished)

pub returns-clause-finished : goal.returns-clause-finished
returns-clause-finished g c =
    rw c.in_ok-print_newest.ensures (newest_answers _ _ _ _ c.args.rule c.takes_prereleases.result _ c.filter_all_sources.new.state c.args.input.now c.filter_all_sources.new.input _ _ _ _ _ c.in-Ok.ensures.finished (search rules) c.filter_all_sources.new.err.items c.push_last.new.errors.items
    (ap Some c.new-errors.ensures.items) refl c.in_ok-push_last.ensures (option_map kept_line c.take_line.result) (search rules) c.takes_prereleases.ensures c.take_line.ensures)
