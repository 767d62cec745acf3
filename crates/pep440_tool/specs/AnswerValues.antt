-- The values of the program's own types, apart from their address in memory.
use Rattle.std.specs.Prelude.{map, Result, string_bytes}
use Rattle.pep440_tool.specs.declared.command.Command.{Command}
use Rattle.pep440_tool.specs.declared.command.Command.TheVariants as command
use Rattle.pep440_tool.specs.declared.error.CommandError.{CommandError}
use Rattle.pep440_tool.specs.declared.output.Answer.{Answer}
use Rattle.pep440_tool.specs.Answers.{ToolAnswer}
use Rattle.pep440_tool.specs.CommandErrors.{HoldsOrPrints}
use Rattle.pep440_tool.specs.Commands.{CommandRequest, Show, Compare, Match, Edit, Range, Filter, Pick, Usage}

-- the bytes of the output, and the status
abbrev pub answer_value : Answer → ToolAnswer
answer_value a = record { output = a.output.items; status = a.status }

abbrev pub request : Command → CommandRequest
request (command.Show v) = Show v.now
request (command.Compare v w) = Compare v.now w.now
request (command.Match list v) = Match list.now v.now
request (command.Edit v changes) = Edit v.now (map string_bytes changes.now)
request (command.Range list) = Range list.now
request (command.Filter list) = Filter list.now
request (command.Pick name candidates) = Pick name.now (map string_bytes candidates.now)
request command.Usage = Usage

-- what holds of the answer, given or printed by the error
abbrev pub HoldsOfAnswer : (ToolAnswer → Type 0) → Result Answer CommandError → Type 0
HoldsOfAnswer P = HoldsOrPrints (λ a. P (answer_value a)) P
