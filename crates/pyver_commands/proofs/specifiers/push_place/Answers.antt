use Rattle.std.proofs.Common.{codes}
use Rattle.pyver_commands.proofs.InputOutput.{three_appended}
use Rattle.pyver_commands.proofs.specifiers.push_place.Goals as goal

pub returns : goal.returns
returns c =
    three_appended c.args.errors.now.items (codes "pyver: SPECS comes first: ") c.args.usage.now _ (codes "\n") _ _ _ c.in_ok-extend_from_slice.ensures.items c.in_ok-extend_from_slice-2.ensures.items c.as_bytes.ensures.value
    c.in_ok-push.ensures.items
