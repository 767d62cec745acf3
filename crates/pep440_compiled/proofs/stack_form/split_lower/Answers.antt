use Rattle.pep440_compiled.proofs.stack_form.split_lower.Goals as goal
use Rattle.pep440_version.proofs.Reading.Prefixes.{lead-all, past-stops}
use Rattle.pep440_version.specs.RoundTrip.{is_lower}

pub returns-clause-lower : goal.returns-clause-lower
returns-clause-lower c = rw (c.split_at.ensures.front, c.count_lower.ensures.count) (lead-all is_lower c.args.text.now)

pub returns-clause-ended : goal.returns-clause-ended
returns-clause-ended c = rw (c.split_at.ensures.back, c.count_lower.ensures.count) (past-stops is_lower c.args.text.now)
