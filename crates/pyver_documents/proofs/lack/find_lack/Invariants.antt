use Rattle.std.proofs.Common.{◌≡◌, drop, map}
use Rattle.std.specs.List.{find}
use Rattle.pyver_documents.specs.Comparing.{leaves_out_all}
use Rattle.pyver_documents.specs.DocumentViews.{locked_reading_of}
use Rattle.pyver_locks.specs.KnownEnvironments.{known_environments}
use Rattle.pyver_locks.specs.LockContents.{parts_of}
use Rattle.pyver_documents.proofs.lack.find_lack.Given as goal

abbrev pub invariant-loop-environment : goal.invariant-loop-environment
invariant-loop-environment l =
    let is_lack = leaves_out_all (parts_of l.parts) (map (λ y. locked_reading_of y.now) l.taken) in
    find is_lack known_environments ≡ find is_lack (drop l.environment-index l.environment-items)
