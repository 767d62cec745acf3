use Rattle.std.proofs.Common.{◌≡◌, ◌++◌, drop, map}
use Rattle.std.specs.List.{flat_map}
use Rattle.pyver_tool.specs.Checks.{unopened_text}
use Rattle.pyver_tool.specs.RequirementFiles.{unopened_file_of}
use Rattle.pyver_tool.proofs.check.push_unopened_messages.Given as goal

abbrev pub invariant-loop-file : goal.invariant-loop-file
invariant-loop-file l = l.bytes.items ++ flat_map unopened_text (map unopened_file_of (drop l.file-index l.unopened)) ≡ l.initial.bytes.items ++ flat_map unopened_text (map unopened_file_of l.unopened)
