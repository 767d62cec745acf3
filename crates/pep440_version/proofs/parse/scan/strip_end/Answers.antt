use Rattle.pep440_version.proofs.Reading.Endings.{seam}
use Rattle.pep440_version.proofs.parse.scan.strip_end.Goals as goal

pub split_at-requires : goal.split_at-requires
split_at-requires c = seam c.args.text.now c.args.end.now c.requires c.utf8.end
