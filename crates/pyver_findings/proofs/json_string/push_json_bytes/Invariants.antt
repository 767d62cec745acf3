use Rattle.std.proofs.Common.{◌≡◌, ◌++◌, take}
use Rattle.std.specs.List.{flat_map}
use Rattle.pyver_findings.specs.ReportTexts.{json_byte}
use Rattle.pyver_findings.proofs.json_string.push_json_bytes.Given as goal

abbrev pub invariant-loop-byte : goal.invariant-loop-byte
invariant-loop-byte l = l.text.items ≡ l.initial.text.items ++ flat_map (json_byte l.in_utf8) (take l.byte-index l.bytes)
