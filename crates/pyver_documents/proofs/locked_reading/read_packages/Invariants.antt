use Rattle.std.proofs.Common.{map, take}
use Rattle.std.specs.List.{AllZip}
use Rattle.pyver_documents.specs.DocumentViews.{locked_reading_of}
use Rattle.pyver_documents.specs.Meanings.{IsLockedReading}
use Rattle.pyver_locks.specs.LockContents.{locked_of}
use Rattle.pyver_documents.proofs.locked_reading.read_packages.Given as goal

abbrev pub invariant-loop-locked : goal.invariant-loop-locked
invariant-loop-locked l = AllZip (IsLockedReading l.file) (map locked_of (take l.locked-index l.packages)) (map locked_reading_of l.readings.items)
