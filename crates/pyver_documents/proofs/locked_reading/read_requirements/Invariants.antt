use Rattle.std.proofs.Common.{map, take}
use Rattle.std.specs.List.{AllZip}
use Rattle.pyver_documents.specs.Meanings.{IsRequirementReading}
use Rattle.pyver_findings.specs.Views.{line_meaning_of}
use Rattle.pyver_locks.specs.LockContents.{requirement_of}
use Rattle.pyver_documents.proofs.locked_reading.read_requirements.Given as goal

abbrev pub invariant-loop-requirement : goal.invariant-loop-requirement
invariant-loop-requirement l = AllZip (IsRequirementReading l.file) (map requirement_of (take l.requirement-index l.requirements)) (map line_meaning_of l.readings.items)
