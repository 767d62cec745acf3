use Rattle.std.proofs.Common.{◌∙◌, ◌++◌, ap, codes, drop}
use Rattle.cli_io.specs.Escapes.{escaped, escaped_lines}
use Rattle.pyver_commands.proofs.InputOutput.{appended_more}
use Rattle.pyver_commands.proofs.specifiers.push_list_message.Goals as goal

pub returns : goal.returns
returns c =
    appended_more c.args.errors.now.items (codes "pyver: '") _ _ _ c.in_ok-extend_from_slice.ensures.items
    (appended_more _ (escaped c.args.word.now) _ _ _ (rw c.as_bytes.ensures.value at c.in_ok-push_escaped.ensures)
    (appended_more _ (codes "' is not a list of specifiers: ") (escaped_lines (drop 25 c.args.message.now)) _ _ c.in_ok-extend_from_slice-2.ensures.items
    (c.in_ok-push_escaped_lines.ensures ∙ ap (λ m. c.extend_from_slice-2.new.self.items ++ escaped_lines m) (c.without_first_words.ensures ∙ ap (drop 25) c.as_bytes-2.ensures.value))))
