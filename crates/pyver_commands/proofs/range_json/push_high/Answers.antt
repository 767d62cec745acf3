use Rattle.std.proofs.Common.{codes}
use Rattle.pep440_sets.specs.SetLines.{is_closed_end}
use Rattle.pyver_commands.proofs.InputOutput.{appended_more}
use Rattle.pyver_commands.specs.CommonRanges.{json_bound, json_truth}
use Rattle.pyver_commands.proofs.range_json.push_high.Goals as goal

pub returns : goal.returns
returns c =
    let bound = c.args.bound.now in
    appended_more c.args.bytes.now.items (codes "\"high\":") _ _ _ c.in_ok-push_text.ensures
    (appended_more _ (json_bound bound) _ _ _ c.in_ok-push_bound.ensures
    (appended_more _ (codes ",\"high_included\":") (json_truth (is_closed_end bound)) _ _ c.in_ok-push_text-2.ensures (rw c.is_closed_end.ensures at c.in_ok-push_truth.ensures)))
