use Rattle.pep440_version.proofs.ChangeWords.Texts.{after_is}
use Rattle.pep440_version.proofs.change_word.strip_spelling.Goals as goal

pub returns : goal.returns
returns c = after_is c.args.spelling.now c.args.text.now c.strip_prefix.result c.strip_prefix.ensures.cases
