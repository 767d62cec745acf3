use Rattle.std.proofs.Common.{map}
use Rattle.pep440_version.specs.Changes.{apply_edits, edit}
use Rattle.pep440_tool.proofs.Runs.{told_change}
use Rattle.pep440_tool.proofs.edit.apply_changes.Goals as goal

pub returns-in-Err : goal.returns-in-Err
returns-in-Err c = told_change c.in-Err.error (apply_edits 1 c.args.version (map edit c.args.changes.now)) c.in-Err.ensures.err
