use Rattle.std.proofs.Common.{codes}
use Rattle.pep440_sets.specs.SetLines.{is_closed_start}
use Rattle.pyver_commands.proofs.InputOutput.{appended_more}
use Rattle.pyver_commands.specs.CommonRanges.{json_bound, json_truth}
use Rattle.pyver_commands.proofs.range_json.push_low.Goals as goal

pub returns : goal.returns
returns c =
    let bound = c.args.bound.now in
    appended_more c.args.bytes.now.items (codes "\"low\":") _ _ _ c.in_ok-push_text.ensures
    (appended_more _ (json_bound bound) _ _ _ c.in_ok-push_bound.ensures
    (appended_more _ (codes ",\"low_included\":") (json_truth (is_closed_start bound)) _ _ c.in_ok-push_text-2.ensures (rw c.is_closed_start.ensures at c.in_ok-push_truth.ensures)))
