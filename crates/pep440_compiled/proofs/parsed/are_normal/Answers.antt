use Rattle.std.proofs.Common.{◌≡◌, refl, sym, subst, true, true≢false, List, map, take_all}
use Rattle.std.specs.List.{All}
use Rattle.pep440_compiled.proofs.Checking.{one_of}
use Rattle.pep440_compiled.proofs.parsed.are_normal.Goals as goal
use Rattle.pep440_version.specs.RoundTrip.{SegmentRoundTrips}
use Rattle.pep440_version.specs.Segments.{segment}
use Rattle.pep440_version.specs.declared.segment.LocalSegment.{LocalSegment}

pub returns-then-not-is_normal : goal.returns-then-not-is_normal
returns-then-not-is_normal c = (
  λ e. absurd (true≢false (sym e)),
  λ all.
      let normal : c.is_normal.result ≡ true = c.is_normal.ensures.1 (one_of c.args.local.now c.loop-part.part-index c.part-item.result c.part-item.is c.loop-part-test.true all) in
      absurd (cc),
)

pub returns : goal.returns
returns c = (
  λ e. subst (λ (l : List LocalSegment). All SegmentRoundTrips (map segment l)) (take_all c.loop-part.part-index c.args.local.now c.loop-part-test.false) c.loop-part.invariant,
  λ all. refl,
)
