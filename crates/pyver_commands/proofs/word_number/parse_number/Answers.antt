use Rattle.std.proofs.Common.{◌∙◌}
use Rattle.pyver_commands.proofs.CommandLaws.{number_when}
use Rattle.pyver_commands.proofs.word_number.parse_number.Goals as goal

pub returns : goal.returns
returns c = c.ok.ensures.value ∙ number_when c.args.text.now c.parse.result (cc) c.parse.ensures.value.0
