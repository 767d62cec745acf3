use Rattle.std.proofs.Common.{◌≡◌, ◌++◌, take}
use Rattle.std.specs.List.{flat_map}
use Rattle.pyver_findings.specs.SarifLogs.{path_byte}
use Rattle.pyver_findings.proofs.report_sarif.push_path_bytes.Given as goal

abbrev pub invariant-loop-byte : goal.invariant-loop-byte
invariant-loop-byte l = l.bytes.items ≡ l.initial.bytes.items ++ flat_map path_byte (take l.byte-index l.path)
