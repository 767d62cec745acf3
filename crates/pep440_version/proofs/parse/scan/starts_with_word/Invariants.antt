use Rattle.std.proofs.Common.{◌≡◌, drop}
use Rattle.pep440_version.specs.Suffixes.{starts_with_word}
use Rattle.pep440_version.proofs.parse.scan.starts_with_word.Given as goal

abbrev pub invariant-loop-i : goal.invariant-loop-i
invariant-loop-i l = starts_with_word l.word l.text ≡ starts_with_word (drop l.i l.word) (drop l.i l.text)
