use Rattle.std.proofs.Common.{◌∙◌, sym}
use Rattle.std.proofs.lemmas.Result.{err_from_is_err_and}
use Rattle.pyver_commands.proofs.Filtering.{file_stops, input_stops}
use Rattle.pyver_commands.specs.Sources.SourceViews.{origin_of}
use Rattle.pyver_commands.proofs.filter_sources.open_and_filter.Goals as goal

pub returns-in_err-filter_input-clause-stopped : goal.returns-in_err-filter_input-clause-stopped
returns-in_err-filter_input-clause-stopped g c =
    let p = err_from_is_err_and c.from_residual.result c.from_residual.ensures.1 in
    rw (p.1, p.2) (input_stops _ _ _ _ c.args.rule.now (origin_of c.args.origin) c.args.state.now c.args.input.now c.filter_input.new.input c.args.out.now c.filter_input.new.out c.args.err.now c.filter_input.new.err _
    (sym c.is_input.ensures ∙ c.if-is_input.true) c.in_err-filter_input.ensures.stopped c.in_err-filter_input.ensures.failure)

pub returns-in_err-filter_input-in-Ok-clause-stopped : goal.returns-in_err-filter_input-in-Ok-clause-stopped
returns-in_err-filter_input-in-Ok-clause-stopped g c =
    let p = err_from_is_err_and c.from_residual-in_err-filter_input-in-Ok.result c.from_residual-in_err-filter_input-in-Ok.ensures.1 in
    rw (p.1, p.2) (file_stops _ _ _ _ c.args.rule.now (origin_of c.args.origin) c.args.state.now _ c.in-Ok.file c.filter_input-in-Ok.new.input c.args.input.now c.args.out.now c.filter_input-in-Ok.new.out
    c.args.err.now c.filter_input-in-Ok.new.err _ (sym c.is_input.ensures ∙ c.if-is_input.false) c.in-Ok.ensures.opened c.in_err-filter_input-in-Ok.ensures.stopped c.in_err-filter_input-in-Ok.ensures.failure)
