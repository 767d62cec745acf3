use Rattle.std.proofs.Common.{◌≡◌, drop, map}
use Rattle.pep440_version.specs.Segments.{segment}
use Rattle.pep440_version.proofs.ChangeWords.Items.{before}
use Rattle.pep440_version.specs.Changes.ChangeWords.{all_of, local_segment_of}
use Rattle.pep440_version.proofs.change_word.parse_all_segments.Given as goal

abbrev pub invariant-loop-i : goal.invariant-loop-i
invariant-loop-i l =
    all_of local_segment_of (map (λ p. p.now) l.pieces) ≡ before (map segment l.segments.items) (all_of local_segment_of (drop l.i (map (λ p. p.now) l.pieces)))
