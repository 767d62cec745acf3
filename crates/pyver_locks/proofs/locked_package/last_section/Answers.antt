use Rattle.pyver_locks.proofs.Readings.{section_is}
use Rattle.pyver_locks.proofs.locked_package.last_section.Goals as goal

pub returns-in-Some : goal.returns-in-Some
returns-in-Some c = section_is c.args.path.now c.rsplit_once.result c.rsplit_once.ensures.cases (c.in-Some.field-0-0, c.in-Some.section) c.in-Some.is
