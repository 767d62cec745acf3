use Rattle.pep440_version.proofs.Reading.Endings.{ends_blanks}
use Rattle.pep440_version.proofs.parse.parse_end.Goals as goal

pub strip_end-requires : goal.strip_end-requires
strip_end-requires c = rw c.skip_blanks-after.ensures (ends_blanks c.args.text.now c.args.rest.now c.requires)
