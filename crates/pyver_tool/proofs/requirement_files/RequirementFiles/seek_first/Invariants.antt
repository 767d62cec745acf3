use Rattle.std.proofs.Common.{◌≡◌, drop, map}
use Rattle.pyver_tool.proofs.RunEnds.{SeekContinues}
use Rattle.pyver_tool.specs.RequirementFiles.{read_of, search_of}
use Rattle.pyver_tool.proofs.requirement_files.RequirementFiles.seek_first.Given as goal

abbrev pub invariant-loop-name : goal.invariant-loop-name
invariant-loop-name g l =
    SeekContinues l.kind (g.F.Files.known l.initial.files) (g.F.Files.path l.initial.files) g.R.Read.remaining (search_of l.search) (map (λ name. name.items) (drop l.name-index l.search.names.items)) (read_of l.initial.self) l.initial.input
    × (l.self ≡ l.initial.self) × (l.input ≡ l.initial.input) × (g.F.Files.known l.files ≡ g.F.Files.known l.initial.files) × (g.F.Files.path l.files ≡ g.F.Files.path l.initial.files)
