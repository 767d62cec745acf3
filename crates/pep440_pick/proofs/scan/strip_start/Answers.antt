use Rattle.std.proofs.lemmas.Str.Pattern.{strip_prefix_char}
use Rattle.pep440_pick.proofs.Joined.{prefix_is}
use Rattle.pep440_pick.proofs.scan.strip_start.Goals as goal

pub returns : goal.returns
returns c = prefix_is c.args.character c.args.text.now c.strip_prefix.result (strip_prefix_char c.args.character c.args.text.now c.strip_prefix.result c.strip_prefix.ensures.cases c.requires)
