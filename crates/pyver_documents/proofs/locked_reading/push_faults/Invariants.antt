use Rattle.std.proofs.Common.{◌≡◌, ◌++◌, drop, map}
use Rattle.pyver_documents.specs.Meanings.{fault_meaning}
use Rattle.pyver_findings.specs.Views.{line_meaning_of}
use Rattle.pyver_locks.specs.LockContents.{fault_of}
use Rattle.pyver_documents.proofs.locked_reading.push_faults.Given as goal

abbrev pub invariant-loop-fault : goal.invariant-loop-fault
invariant-loop-fault l =
    map line_meaning_of l.readings.items ++ map (fault_meaning l.name) (map fault_of (drop l.fault-index l.faults))
    ≡ map line_meaning_of l.initial.readings.items ++ map (fault_meaning l.name) (map fault_of l.faults)
