use Rattle.std.proofs.Common.{◌≡◌, ◌++◌, drop, map}
use Rattle.std.specs.List.{flat_map}
use Rattle.pyver_findings.specs.Hashes.{is_known_name, lacking_by}
use Rattle.pyver_findings.specs.Views.{demand_of, finding_of}
use Rattle.pyver_findings.proofs.hashes.push_lacking_of_lines.Given as goal

abbrev pub invariant-loop-line : goal.invariant-loop-line
invariant-loop-line l =
    let lacks = lacking_by (is_known_name l.files) (is_known_name l.names.pinned) (is_known_name l.names.hashed) in
    map finding_of l.findings.items ++ flat_map lacks (map demand_of (drop l.line-index l.lines)) ≡ map finding_of l.initial.findings.items ++ flat_map lacks (map demand_of l.lines)
