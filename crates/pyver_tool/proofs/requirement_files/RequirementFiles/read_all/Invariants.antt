use Rattle.std.proofs.Common.{◌≡◌, ◌≤◌, ◌+◌, ◌-◌, ◌*◌, length, take}
use Rattle.pyver_tool.specs.RequirementFiles.{HasNames, HasReads, ReadsFilesInTurn, names_of_files, none_read, read_of}
use Rattle.pyver_tool.proofs.requirement_files.RequirementFiles.read_all.Given as goal

abbrev pub invariant-loop-index : goal.invariant-loop-index
invariant-loop-index g l =
    ReadsFilesInTurn l.kind (g.F.Files.known l.initial.files) (g.F.Files.path l.initial.files) g.R.Read.remaining (take l.index (names_of_files l.self)) none_read (read_of l.self) l.initial.input l.input
    × HasNames (names_of_files l.initial.self) l.self × (g.F.Files.known l.files ≡ g.F.Files.known l.initial.files) × (g.F.Files.path l.files ≡ g.F.Files.path l.initial.files)
    × HasReads l.self × (l.count ≡ length l.self.names.items) × (l.index ≤ l.count)

abbrev pub decreases-loop-index : goal.decreases-loop-index
decreases-loop-index g l = (562949953421312 - l.self.read_count) * 18446744073709551616 + (l.count - l.index)
