use Rattle.std.proofs.Common.{◌≡◌, List, [], ℕ, bytes_eq, map, take}
use Rattle.std.specs.HashMap.{get_by}
use Rattle.std.specs.List.{filter}
use Rattle.std.specs.Option.{option_map_or}
use Rattle.pyver_documents.specs.DocumentViews.{locked_reading_of}
use Rattle.pyver_documents.specs.Meanings.{LockedReading}
use Rattle.pyver_documents.proofs.lock_comparison.PackageIndex.new.Given as goal

abbrev pub invariant-loop-locked : goal.invariant-loop-locked
invariant-loop-locked l =
    (q : List ℕ) → map (λ y. locked_reading_of y.now) (option_map_or (λ g. g.items) (get_by (λ k. bytes_eq q k.now) l.by_name) []) ≡ filter (λ (y : LockedReading). bytes_eq q y.name) (map locked_reading_of (take l.locked-index l.packages))
