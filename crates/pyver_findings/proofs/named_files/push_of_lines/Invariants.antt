use Rattle.std.proofs.Common.{◌≡◌, ◌++◌, drop, map}
use Rattle.std.specs.List.{flat_map}
use Rattle.pyver_findings.specs.NamedFiles.{named_in}
use Rattle.pyver_findings.specs.Views.{named_file_of}
use Rattle.pyver_requirements.specs.LineKinds.{logical_line_of}
use Rattle.pyver_findings.proofs.named_files.push_of_lines.Given as goal

abbrev pub invariant-loop-line : goal.invariant-loop-line
invariant-loop-line l =
    map named_file_of l.names.items ++ flat_map (named_in l.file) (map logical_line_of (drop l.line-index l.lines))
    ≡ map named_file_of l.initial.names.items ++ flat_map (named_in l.file) (map logical_line_of l.lines)
