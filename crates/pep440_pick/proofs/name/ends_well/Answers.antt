use Rattle.std.proofs.Common.{◌∙◌, sym, arith}
use Rattle.std.specs.Char.{is_ascii_alphanumeric}
use Rattle.pep440_rs.proofs.Blanks.{ends_last}
use Rattle.pep440_pick.proofs.name.ends_well.Goals as goal

pub returns-in-len1-up : goal.returns-in-len1-up
returns-in-len1-up c = c.is_ascii_alphanumeric.ensures.value ∙ sym (ends_last is_ascii_alphanumeric c.args.text.now 0 (omega arith))
