use Rattle.std.proofs.Common.{◌≡◌, drop, map}
use Rattle.std.specs.List.{list_any}
use Rattle.pyver_locks.specs.KnownEnvironments.{is_true_in}
use Rattle.pyver_locks.specs.LockContents.{parts_of}
use Rattle.pyver_locks.proofs.known_environment.has_true_marker.Given as goal

abbrev pub invariant-loop-marker : goal.invariant-loop-marker
invariant-loop-marker l =
    list_any (is_true_in (parts_of l.parts) l.environment) (map (λ m. m.items) l.markers) ≡ list_any (is_true_in (parts_of l.parts) l.environment) (map (λ m. m.items) (drop l.marker-index l.markers))
