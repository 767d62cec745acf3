use Rattle.std.proofs.Common.{sym}
use Rattle.pep440_version.proofs.Reading.WordAsPrefix.{begins_short}
use Rattle.pep440_version.proofs.parse.scan.starts_with_word.Goals as goal

pub returns-then-text-word : goal.returns-then-text-word
returns-then-text-word c = sym (begins_short c.args.word.now c.args.text.now c.if-text-word.true)
