use Rattle.std.proofs.Common.{codes}
use Rattle.std.specs.Fmt.{decimal}
use Rattle.pyver_commands.proofs.InputOutput.{appended_more}
use Rattle.cli_io.specs.Escapes.{escaped}
use Rattle.pyver_commands.proofs.extent.push_marker_message.Goals as goal

pub returns : goal.returns
returns c =
    appended_more c.args.errors.now.items (codes "pyver: '") _ _ _ c.in_ok-extend_from_slice.ensures.items
    (appended_more _ (escaped c.args.word.now) _ _ _ (rw c.as_bytes.ensures.value at c.in_ok-push_escaped.ensures)
    (appended_more _ (codes "' is not a marker: byte ") _ _ _ c.in_ok-extend_from_slice-2.ensures.items
    (appended_more _ (decimal c.args.byte) _ _ _ (rw c.in_ok-to_string.ensures.ok at (rw c.as_bytes-2.ensures.value at c.in_ok-extend_from_slice-3.ensures.items))
    (appended_more _ (codes ": ") _ _ _ c.in_ok-extend_from_slice-4.ensures.items
    (appended_more _ c.args.reason.now (codes "\n") _ _ (rw c.as_bytes-3.ensures.value at c.in_ok-extend_from_slice-5.ensures.items) c.in_ok-push.ensures.items)))))
