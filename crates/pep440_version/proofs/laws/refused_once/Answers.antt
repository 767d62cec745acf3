use Rattle.pep440_version.proofs.Rejections.ExactlyOne.{one_refusal, one_pattern_refusal, not_both, not_both_pattern, one_or_other, one_or_other_pattern}
use Rattle.pep440_version.proofs.laws.refused_once.Goals as goal

pub returns-clause-version : goal.returns-clause-version
returns-clause-version c = one_refusal

pub returns-clause-either : goal.returns-clause-either
returns-clause-either c = one_or_other

pub returns-clause-derived : goal.returns-clause-derived
returns-clause-derived c = not_both

pub returns-clause-pattern : goal.returns-clause-pattern
returns-clause-pattern c = one_pattern_refusal

pub returns-clause-either_pattern : goal.returns-clause-either_pattern
returns-clause-either_pattern c = one_or_other_pattern

pub returns-clause-derived_pattern : goal.returns-clause-derived_pattern
returns-clause-derived_pattern c = not_both_pattern
