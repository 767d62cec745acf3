use Rattle.std.proofs.lemmas.Str.Pattern.{strip_suffix_char}
use Rattle.pep440_pick.proofs.Joined.{end_is}
use Rattle.pep440_pick.proofs.scan.strip_end.Goals as goal

pub returns : goal.returns
returns c = end_is c.args.character c.args.text.now c.strip_suffix.result (strip_suffix_char c.args.character c.args.text.now c.strip_suffix.result c.strip_suffix.ensures.cases c.requires)
