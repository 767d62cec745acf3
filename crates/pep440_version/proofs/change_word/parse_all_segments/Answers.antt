use Rattle.std.proofs.Common.{[], ◌∷◌, get_or, map, refl}
use Rattle.std.proofs.lemmas.List.{map-append}
use Rattle.pep440_version.specs.Segments.{segment}
use Rattle.pep440_version.proofs.ChangeWords.Items.{more, no_text, stop, not_read}
use Rattle.pep440_version.specs.Changes.ChangeWords.{local_segment_of}
use Rattle.pep440_version.proofs.change_word.parse_all_segments.Goals as goal

pub returns-in_err-segment : goal.returns-in_err-segment
returns-in_err-segment c =
    not_read _ _ _ c.in_err-segment.field-0.0 c.from_residual.result c.in_err-segment.ensures
    (λ none. stop local_segment_of (λ p. p.now) c.args.pieces.now c.loop-i.i (get_or c.args.pieces.now c.loop-i.i no_text) no_text (map segment c.loop-i.segments.items)
    c.loop-i-test.true refl none c.loop-i.invariant)
    c.from_residual.ensures.1

pub loop-i-preserved : goal.loop-i-preserved
loop-i-preserved c =
    rw (c.in_ok-push.ensures.items, map-append segment c.loop-i.segments.items (c.in_ok-segment.segment ∷ []))
    (more local_segment_of (λ p. p.now) c.args.pieces.now c.loop-i.i (get_or c.args.pieces.now c.loop-i.i no_text) no_text (map segment c.loop-i.segments.items) (segment c.in_ok-segment.segment)
    c.loop-i-test.true refl c.in_ok-segment.ensures c.loop-i.invariant)
