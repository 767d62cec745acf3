use Rattle.std.proofs.Common.{map, take}
use Rattle.std.specs.List.{AllZip}
use Rattle.pyver_documents.specs.Meanings.{IsFileReading}
use Rattle.pyver_findings.specs.Views.{line_meaning_of}
use Rattle.pyver_locks.specs.LockContents.{locked_file_of}
use Rattle.pyver_documents.proofs.locked_reading.read_files.Given as goal

abbrev pub invariant-loop-locked : goal.invariant-loop-locked
invariant-loop-locked l = AllZip (IsFileReading l.name) (map locked_file_of (take l.locked-index l.files)) (map line_meaning_of l.readings.items)
