use Rattle.std.proofs.Common.{map, take}
use Rattle.std.specs.List.{AllZip}
use Rattle.pyver_documents.specs.DocumentViews.{extra_reading_of}
use Rattle.pyver_documents.specs.Meanings.{IsExtraReading}
use Rattle.pyver_locks.specs.LockContents.{locked_extra_of}
use Rattle.pyver_documents.proofs.document_reading.read_extras.Given as goal

abbrev pub invariant-loop-extra : goal.invariant-loop-extra
invariant-loop-extra l = AllZip (IsExtraReading l.file) (map locked_extra_of (take l.extra-index l.extras)) (map extra_reading_of l.readings.items)
