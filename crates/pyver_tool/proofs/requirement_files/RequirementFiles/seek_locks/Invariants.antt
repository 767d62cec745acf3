use Rattle.std.proofs.Common.{◌≡◌, drop, map}
use Rattle.pyver_tool.proofs.RunEnds.{SearchContinues}
use Rattle.pyver_tool.specs.RequirementFiles.{HasReads, read_of, search_of}
use Rattle.pyver_tool.proofs.requirement_files.RequirementFiles.seek_locks.Given as goal

abbrev pub invariant-loop-search : goal.invariant-loop-search
invariant-loop-search g l =
    SearchContinues l.kind (g.F.Files.known l.initial.files) (g.F.Files.path l.initial.files) g.R.Read.remaining (map search_of l.search-items) (map search_of (drop l.search-index l.search-items))
    (read_of l.initial.self) (read_of l.self) l.initial.input l.input
    × HasReads l.self × (g.F.Files.known l.files ≡ g.F.Files.known l.initial.files) × (g.F.Files.path l.files ≡ g.F.Files.path l.initial.files)
