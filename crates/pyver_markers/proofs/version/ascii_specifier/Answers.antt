use Rattle.std.proofs.Common.{◌∙◌, ap}
use Rattle.std.specs.Prelude.{is_none}
use Rattle.pep440_rs.proofs.Denoted.{is_denotable}
use Rattle.pep440_rs.specs.Errors.{specifier_rejection_of}
use Rattle.pyver_markers.proofs.Readings.{no_specifier_read, specifier_read}
use Rattle.pyver_markers.proofs.version.ascii_specifier.Goals as goal

pub returns-in-Ok-clause-value : goal.returns-in-Ok-clause-value
returns-in-Ok-clause-value c = specifier_read _ _ _ c.in-Some.ensures.ascii c.in-Ok.ensures.found

pub returns-in-Ok-clause-denotable : goal.returns-in-Ok-clause-denotable
returns-in-Ok-clause-denotable c = is_denotable _ (_, c.in-Ok.ensures.found)

pub returns-else-is_memory-clause-value : goal.returns-else-is_memory-clause-value
returns-else-is_memory-clause-value c = no_specifier_read _ _ _ _ c.in-Some.ensures.ascii c.in-Err.ensures.refused (c.is_memory.ensures ∙ ap (λ k. is_none (specifier_rejection_of k)) c.kind.ensures) c.if-is_memory.false
