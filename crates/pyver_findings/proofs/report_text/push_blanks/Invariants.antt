use Rattle.std.proofs.Common.{◌≡◌, ◌++◌, drop, map}
use Rattle.pyver_findings.proofs.report_text.push_blanks.Given as goal

abbrev pub invariant-loop-character : goal.invariant-loop-character
invariant-loop-character l = l.bytes.items ++ map (λ _. 32) (drop l._character-index l.characters) ≡ l.initial.bytes.items ++ map (λ _. 32) l.characters
