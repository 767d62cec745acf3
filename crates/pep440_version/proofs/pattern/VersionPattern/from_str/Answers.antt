use Rattle.pep440_version.proofs.Reading.Agreement.{only_pattern}
use Rattle.pep440_version.proofs.Reading.PublicAnswers.{is_pattern_found, is_pattern_only, is_pattern_refused, is_pattern_decided, is_pattern_told}
use Rattle.pep440_version.proofs.pattern.VersionPattern.from_str.Goals as goal

pub returns-clause-found : goal.returns-clause-found
returns-clause-found c = is_pattern_found c.args.text.now _ c.parse_any.ensures.reads

pub returns-clause-only : goal.returns-clause-only
returns-clause-only c = is_pattern_only c.args.text.now _ c.parse_any.ensures.reads

pub returns-clause-refused : goal.returns-clause-refused
returns-clause-refused c = is_pattern_refused c.args.text.now _ c.parse_any.ensures.reads

pub returns-clause-decided : goal.returns-clause-decided
returns-clause-decided c = is_pattern_decided c.args.text.now _ c.parse_any.ensures.reads

pub returns-clause-message : goal.returns-clause-message
returns-clause-message c = is_pattern_told c.args.text.now _ c.parse_any.ensures.reads

pub returns-clause-memory : goal.returns-clause-memory
returns-clause-memory c = λ r star d fits. c.parse_any.ensures.memory (r, star) (only_pattern c.args.text.now r star d) fits
