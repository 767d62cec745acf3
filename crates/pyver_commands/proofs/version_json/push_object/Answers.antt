use Rattle.std.proofs.Common.{codes}
use Rattle.pep440_version.specs.Print.{print}
use Rattle.pyver_commands.proofs.InputOutput.{appended_more}
use Rattle.pyver_commands.specs.JsonObjects.{in_quotes, json_members}
use Rattle.pyver_commands.proofs.version_json.push_object.Goals as goal

pub returns : goal.returns
returns c =
    let r = c.args.version.now in
    appended_more c.args.bytes.now.items (codes "{\"version\":") _ _ _ c.in_ok-push_text.ensures
    (appended_more _ (in_quotes (print r)) _ _ _ (rw c.in_ok-to_string.ensures.ok at (rw c.as_str.ensures.value at c.in_ok-push_in_quotes.ensures))
    (appended_more _ (json_members r) (codes "}") _ _ c.in_ok-push_members.ensures c.in_ok-push_text-2.ensures))
