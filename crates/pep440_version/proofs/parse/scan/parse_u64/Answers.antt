use Rattle.std.proofs.Common.{◌∙◌}
use Rattle.pep440_version.proofs.Reading.Digits.{value_of}
use Rattle.pep440_version.proofs.parse.scan.parse_u64.Goals as goal

pub returns : goal.returns
returns c = c.ok.ensures.value ∙ value_of c.args.digits.now c.parse.result c.requires.all c.requires.some c.parse.ensures.value.0
