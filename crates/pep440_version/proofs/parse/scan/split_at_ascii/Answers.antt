use Rattle.pep440_version.proofs.Reading.Prefixes.{split_after_ascii}
use Rattle.pep440_version.proofs.parse.scan.split_at_ascii.Goals as goal

pub split_at-requires : goal.split_at-requires
split_at-requires c = split_after_ascii c.args.text.now c.args.at c.utf8.text c.requires.inside c.requires.ascii
