use Rattle.std.proofs.Common.{◌∙◌, sym}
use Rattle.pyver_commands.proofs.InputOutput.{told}
use Rattle.pyver_commands.proofs.reading.parse_version.Goals as goal

pub returns-in_ok-to_string-in-Err : goal.returns-in_ok-to_string-in-Err
returns-in_ok-to_string-in-Err c = told c.args.text.now _ _ _ (sym c.is_out_of_memory.ensures ∙ c.if-is_out_of_memory.false) c.in-Err.ensures.refused c.in-Err.ensures.message c.in_ok-to_string-in-Err.ensures.ok
