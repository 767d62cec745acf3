use Rattle.std.proofs.Common.{◌≡◌, ◌++◌, drop, map}
use Rattle.toml.specs.View.{view}
use Rattle.pyver_locks.specs.LockContents.{locked_file_of}
use Rattle.pyver_locks.specs.LockedFiles.{files_after}
use Rattle.pyver_locks.proofs.locked_package.push_files.Given as goal
use denote.Shadow.{shadow}
use denote.Text.{Utf8}

abbrev pub invariant-loop-item : goal.invariant-loop-item
invariant-loop-item l =
    (map locked_file_of l.files.items ++ files_after l.named.line l.named.name.now l.named.version.now l.last (map view (drop l.item-index l.list))
    ≡ map locked_file_of l.initial.files.items ++ files_after l.named.line l.named.name.now l.named.version.now l.named.version.now (map view l.list)) × shadow (Utf8 l.last)
