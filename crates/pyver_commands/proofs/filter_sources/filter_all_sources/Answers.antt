use Rattle.std.proofs.Common.{◌≡◌, ◌∙◌, [], map, string_bytes, sym}
use Rattle.std.proofs.lemmas.Result.{err_from_is_err_and}
use Rattle.pyver_commands.proofs.Filtering.{alone_finishes, alone_stops, none_names}
use Rattle.pyver_commands.proofs.filter_sources.filter_all_sources.Goals as goal

pub returns-in_err-filter_input-clause-stopped : goal.returns-in_err-filter_input-clause-stopped
returns-in_err-filter_input-clause-stopped g c =
    let none : map string_bytes c.args.names.now ≡ [] = none_names string_bytes c.args.names.now (sym c.is_empty.ensures ∙ c.if-not-is_empty.false) in
    let p = err_from_is_err_and c.from_residual.result c.from_residual.ensures.1 in
    rw (p.1, p.2) (alone_stops _ _ _ _ c.args.rule.now (map string_bytes c.args.names.now) c.args.state.now c.args.input.now c.filter_input.new.input c.args.out.now c.filter_input.new.out c.args.err.now
    c.filter_input.new.err _ none c.requires.new.1 c.requires.new.2 c.requires.new.3 c.requires.new.4 c.in_err-filter_input.ensures.stopped c.in_err-filter_input.ensures.failure)

pub returns-clause-finished : goal.returns-clause-finished
returns-clause-finished g c =
    let none : map string_bytes c.args.names.now ≡ [] = none_names string_bytes c.args.names.now (sym c.is_empty.ensures ∙ c.if-not-is_empty.false) in
    alone_finishes _ _ _ _ c.args.rule.now (map string_bytes c.args.names.now) c.args.state.now c.filter_input.new.state c.args.input.now c.filter_input.new.input c.args.out.now c.filter_input.new.out c.args.err.now
    c.filter_input.new.err none c.requires.new.1 c.requires.new.2 c.requires.new.3 c.requires.new.4 c.in_ok-filter_input.ensures.finished
