use Rattle.std.proofs.Common.{◌≡◌, drop, map}
use Rattle.pyver_documents.specs.Comparing.{leaves_out_all}
use Rattle.pyver_documents.specs.DocumentViews.{locked_reading_of}
use Rattle.pyver_locks.specs.LockContents.{parts_of}
use Rattle.pyver_documents.proofs.lack.leaves_out_all.Given as goal

abbrev pub invariant-loop-locked : goal.invariant-loop-locked
invariant-loop-locked l = leaves_out_all (parts_of l.parts) (map (λ y. locked_reading_of y.now) l.taken) l.environment ≡ leaves_out_all (parts_of l.parts) (map (λ y. locked_reading_of y.now) (drop l.locked-index l.taken)) l.environment
