use Rattle.std.proofs.Common.{◌∙◌, ap, map, string_bytes, sym}
use Rattle.pyver_tool.proofs.RunEnds.{operands_end}
use Rattle.pyver_tool.specs.Tasks.{by_last}
use Rattle.pyver_tool.proofs.command.parse_bump.Goals as goal

pub returns-in-Some : goal.returns-in-Some
returns-in-Some c =
    c.parse_bump_last.ensures ∙ ap (by_last c.args.to (map string_bytes c.args.words.now) (map string_bytes c.in-Some.before.now)) c.as_str.ensures.value
    ∙ sym (operands_end string_bytes c.args.to c.args.words.now c.in-Some.before.now c.in-Some.last.now c.in-Some.ensures.cases.0)
