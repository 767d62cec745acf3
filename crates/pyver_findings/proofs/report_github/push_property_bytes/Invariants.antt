use Rattle.std.proofs.Common.{◌≡◌, ◌++◌, take}
use Rattle.std.specs.List.{flat_map}
use Rattle.pyver_findings.specs.ReportTexts.{property_byte}
use Rattle.pyver_findings.proofs.report_github.push_property_bytes.Given as goal

abbrev pub invariant-loop-byte : goal.invariant-loop-byte
invariant-loop-byte l = l.bytes.items ≡ l.initial.bytes.items ++ flat_map property_byte (take l.byte-index l.property)
