use Rattle.std.proofs.Common.{◌≡◌, ◌++◌, drop, map, option_map, string_bytes}
use Rattle.std.specs.List.{flat_map}
use Rattle.toml.specs.View.{view}
use Rattle.pyver_locks.specs.LockContents.{fault_of, locked_extra_of, locked_file_of, locked_of, parts_of, requirement_of}
use Rattle.pyver_locks.specs.LockedFiles.{package_faults, files_from}
use Rattle.pyver_locks.specs.Locks.{numbered_tables, package_from}
use Rattle.pyver_locks.specs.PackageRequirements.{entries_from, extras_from, requirements_from}
use Rattle.pyver_projects.specs.ProjectStrings.{indexed_names}
use Rattle.pyver_locks.proofs.toml_lock.read_tables.Given as goal

abbrev pub invariant-loop-index : goal.invariant-loop-index
invariant-loop-index l =
    (map locked_of l.packages.items ++ flat_map (package_from (option_map string_bytes l.counted.python)) (numbered_tables l.lines l.index (map view (drop l.index l.tables))) ≡ flat_map (package_from (option_map string_bytes l.counted.python)) (numbered_tables l.lines 0 (map view l.tables)))
    × (map requirement_of l.requirements.items ++ flat_map (requirements_from l.counted.kind (parts_of l.parts)) (numbered_tables l.lines l.index (map view (drop l.index l.tables))) ≡ flat_map (requirements_from l.counted.kind (parts_of l.parts)) (numbered_tables l.lines 0 (map view l.tables)))
    × (map locked_extra_of l.extras.items ++ flat_map (extras_from (parts_of l.parts)) (numbered_tables l.lines l.index (map view (drop l.index l.tables))) ≡ flat_map (extras_from (parts_of l.parts)) (numbered_tables l.lines 0 (map view l.tables)))
    × (map requirement_of l.entries.items ++ flat_map (entries_from l.counted.kind) (numbered_tables l.lines l.index (map view (drop l.index l.tables))) ≡ flat_map (entries_from l.counted.kind) (numbered_tables l.lines 0 (map view l.tables)))
    × (map locked_file_of l.files.items ++ flat_map files_from (numbered_tables l.lines l.index (map view (drop l.index l.tables))) ≡ flat_map files_from (numbered_tables l.lines 0 (map view l.tables)))
    × (map fault_of l.faults.items ++ flat_map (package_faults l.counted.kind l.counted.has_markers (indexed_names l.counted.names)) (numbered_tables l.lines l.index (map view (drop l.index l.tables)))
    ≡ map fault_of l.initial.faults.items ++ flat_map (package_faults l.counted.kind l.counted.has_markers (indexed_names l.counted.names)) (numbered_tables l.lines 0 (map view l.tables)))
