use Rattle.std.proofs.Common.{codes}
use Rattle.pyver_commands.proofs.InputOutput.{appended_more}
use Rattle.pyver_commands.specs.JsonObjects.{json_array, json_numbers, next_name, number_member}
use Rattle.pyver_commands.proofs.version_json.push_release.Goals as goal

pub returns : goal.returns
returns c =
    let r = c.args.version.now in
    appended_more c.args.bytes.now.items (number_member (codes "epoch") r.epoch) _ _ _ (rw c.epoch.ensures at c.in_ok-push_number_member.ensures)
    (appended_more _ (next_name (codes "release")) _ _ _ c.in_ok-push_name.ensures
    (appended_more _ (json_array r.release) (json_numbers r) _ _ (rw c.release.ensures.value at c.in_ok-push_array.ensures) c.in_ok-push_first_numbers.ensures))
