use Rattle.std.proofs.Common.{◌≡◌, ◌∙◌, ◌++◌, ◌∷◌, [], List, ap, length, refl, sym}
use Rattle.std.proofs.lemmas.Bool.{eq-eqb, eqb-true}
use Rattle.std.proofs.lemmas.List.{nil_from_length}
use Rattle.std.proofs.lemmas.List.Elements.{recursion_from_All}
use Rattle.std.specs.List.{All, AllByRecursion, flat_map}
use Rattle.pep440_compiled.proofs.Checking.{IsParsedSegment, one_more, segments_fit, segments_reread}
use Rattle.pep440_compiled.proofs.Loops.{end_of_segments, leads_first, next_segment, not_nil}
use Rattle.pep440_compiled.proofs.Rewritten.{none_coded, one_coded}
use Rattle.pep440_compiled.proofs.checked_version.is_local_part.Goals as goal
use Rattle.pep440_keys.specs.SortKeys.{segment_bytes}
use Rattle.pep440_version.specs.Record.{LocalSegmentValue, SegmentFits}
use Rattle.pep440_version.specs.RoundTrip.{SegmentRoundTrips}

each : (local : List LocalSegmentValue) → All SegmentFits local → All SegmentRoundTrips local → AllByRecursion IsParsedSegment local
each local fits rereads = recursion_from_All IsParsedSegment local (λ k d below. (fits k d below, rereads k d below))

pub loop-first-init : goal.loop-first-init
loop-first-init c = record { seen = []; fit = tt; leads = leads_first IsParsedSegment segment_bytes c.args.bytes.now; coded = refl }

pub returns-then-first-eq0-clause-found : goal.returns-then-first-eq0-clause-found
returns-then-first-eq0-clause-found c local fits rereads e =
    let left = c.loop-first.invariant.leads local [] (each local fits rereads) e in
    let end = end_of_segments c.in-Some.first.now c.loop-first.left.now c.in-Some.later.now [] left.0 c.in-Some.ensures.cases.0 c.if-first-eq0.true left.2 in
    c.is_empty.ensures ∙ eq-eqb _ 0 (ap length end.1)

pub returns-then-first-eq0-clause-exact : goal.returns-then-first-eq0-clause-exact
returns-then-first-eq0-clause-exact c is =
    let s = c.loop-first.invariant in
    let none : length c.in-Some.later.now ≡ 0 = eqb-true _ 0 (sym c.is_empty.ensures ∙ is) in (
      s.seen,
      segments_fit s.seen s.fit,
      segments_reread s.seen s.fit,
      none_coded segment_bytes c.args.bytes.now c.loop-first.left.now c.in-Some.later.now s.seen c.in-Some.first.now s.coded c.in-Some.ensures.cases.0 c.if-first-eq0.true
          ∙ ap (λ l. flat_map segment_bytes s.seen ++ 0 ∷ l) (nil_from_length c.in-Some.later.now none),
    )

pub returns-in_default-check_segment-clause-found : goal.returns-in_default-check_segment-clause-found
returns-in_default-check_segment-clause-found c local fits rereads e =
    let left = c.loop-first.invariant.leads local [] (each local fits rereads) e in
    let next = next_segment IsParsedSegment c.in-Some.first.now c.loop-first.left.now c.in-Some.later.now [] left.0 left.1 c.in-Some.ensures.cases.0 c.if-first-eq0.false left.2 in
    absurd (c.in_default-check_segment.ensures.found next.0 _ next.2.0 next.2.1 next.5)

pub loop-first-preserved : goal.loop-first-preserved
loop-first-preserved c =
    let s = c.loop-first.invariant in
    let rest = c.in-Some-check_segment.rest.now in
    let tested = c.in-Some-check_segment.ensures.exact in
    let segment = tested.0 in
    record {
      seen = s.seen ++ segment ∷ [];
      fit = one_more IsParsedSegment s.seen segment s.fit (tested.1, tested.2);
      leads = λ local after all e.
          let left = s.leads local after all e in
          let next = next_segment IsParsedSegment c.in-Some.first.now c.loop-first.left.now c.in-Some.later.now after left.0 left.1 c.in-Some.ensures.cases.0 c.if-first-eq0.false left.2 in
          let read = c.in-Some-check_segment.ensures.found next.0 _ next.2.0 next.2.1 next.5 in
          (next.1, next.3, read);
      coded = one_coded segment_bytes c.args.bytes.now c.loop-first.left.now rest s.seen (s.seen ++ segment ∷ []) segment s.coded (c.in-Some.ensures.cases.0 ∙ tested.3) refl;
    }

pub returns-clause-found : goal.returns-clause-found
returns-clause-found c local fits rereads e =
    let left = c.loop-first.invariant.leads local [] (each local fits rereads) e in
    absurd (not_nil segment_bytes c.loop-first.left.now [] left.0 c.in_default.ensures.cases left.2)
