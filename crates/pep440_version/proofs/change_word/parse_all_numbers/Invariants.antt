use Rattle.std.proofs.Common.{◌≡◌, drop, map}
use Rattle.pep440_version.proofs.ChangeWords.Items.{before}
use Rattle.pep440_version.specs.Changes.ChangeWords.{all_of, number_of}
use Rattle.pep440_version.proofs.change_word.parse_all_numbers.Given as goal

abbrev pub invariant-loop-i : goal.invariant-loop-i
invariant-loop-i l =
    all_of number_of (map (λ p. p.now) l.pieces) ≡ before l.numbers.items (all_of number_of (drop l.i (map (λ p. p.now) l.pieces)))
