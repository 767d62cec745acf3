use Rattle.pep440_version.proofs.Reading.Endings.{ends_then}
use Rattle.pep440_version.proofs.Reading.Agreement.{parts_end}
use Rattle.pep440_version.proofs.parse.parse_after_release.Goals as goal

pub parse_end-requires : goal.parse_end-requires
parse_end-requires c = ends_then c.args.text.now c.args.rest.now c.in_ok-version.after.now c.requires.at_end
    (parts_end c.args.epoch c.args.release c.args.rest.now (c.in_ok-version.version, c.in_ok-version.after.now) c.in_ok-version.ensures.reads)
