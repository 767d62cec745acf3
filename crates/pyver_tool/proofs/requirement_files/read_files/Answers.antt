use Rattle.std.proofs.Common.{map, string_bytes}
use Rattle.std.proofs.lemmas.Result.{err_from_is_err_and}
use Rattle.pyver_tool.proofs.RunEnds.{group_stops_at_once}
use Rattle.pyver_tool.proofs.requirement_files.read_files.Goals as goal

pub returns-in_err-push_sources-clause-stopped : goal.returns-in_err-push_sources-clause-stopped
returns-in_err-push_sources-clause-stopped g c =
    let p = err_from_is_err_and c.from_residual.result c.from_residual.ensures.1 in
    rw (p.1, p.2) (group_stops_at_once c.args.kind _ _ _ c.args.seeks_locks (map string_bytes c.args.words.now) c.args.input.now)
