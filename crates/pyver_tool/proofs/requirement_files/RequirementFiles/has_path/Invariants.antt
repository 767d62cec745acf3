use Rattle.std.proofs.Common.{◌≡◌, bytes_eq, drop, map, string_bytes}
use Rattle.std.specs.List.{list_any}
use Rattle.pyver_tool.specs.RequirementFiles.{has_path, read_of}
use Rattle.pyver_tool.proofs.requirement_files.RequirementFiles.has_path.Given as goal

abbrev pub invariant-loop-other : goal.invariant-loop-other
invariant-loop-other l = has_path (read_of l.self) l.path ≡ list_any (bytes_eq l.path) (map string_bytes (drop l.other-index l.self.paths.items))
