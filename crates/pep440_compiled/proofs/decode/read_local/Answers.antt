use Rattle.std.proofs.Common.{◌≡◌, ◌∙◌, ◌<◌, ◌++◌, ◌∷◌, [], List, ap, arith, length, map, rules}
use Rattle.std.proofs.lemmas.List.{map-append, nil_from_length}
use Rattle.std.proofs.lemmas.List.Elements.{recursion_from_All}
use Rattle.std.specs.List.{All, AllByRecursion, flat_map}
use Rattle.pep440_compiled.proofs.Checking.{all_read, one_read}
use Rattle.pep440_compiled.proofs.Loops.{end_of_segments, next_segment, not_nil}
use Rattle.pep440_compiled.proofs.Rewritten.{none_coded, one_coded}
use Rattle.pep440_compiled.proofs.decode.read_local.Goals as goal
use Rattle.pep440_keys.specs.SortKeys.{segment_bytes}
use Rattle.pep440_version.specs.Record.{LocalSegmentValue, SegmentFits}
use Rattle.pep440_version.specs.RoundTrip.{SegmentRoundTrips}
use Rattle.pep440_version.specs.Segments.{segment}

abbrev IsParsedSegment : LocalSegmentValue → Type 0
IsParsedSegment s = SegmentFits s × SegmentRoundTrips s

each : (local : List LocalSegmentValue) → All SegmentFits local → All SegmentRoundTrips local → AllByRecursion IsParsedSegment local
each local fits rereads = recursion_from_All IsParsedSegment local (λ k d below. (fits k d below, rereads k d below))

pub returns-then-first-eq0-clause-found : goal.returns-then-first-eq0-clause-found
returns-then-first-eq0-clause-found c local fits rereads e =
    let left = c.loop-first.invariant.reads local [] (each local fits rereads) e in
    let end = end_of_segments c.in-Some.first.now c.loop-first.left.now c.in-Some.later.now [] left.0 c.in-Some.ensures.cases.0 c.if-first-eq0.true left.3 in
    all_read local (map segment c.loop-first.segments.items) left.0 left.2 end.0

pub returns-then-not-is_empty-clause-found : goal.returns-then-not-is_empty-clause-found
returns-then-not-is_empty-clause-found c local fits rereads e =
    let left = c.loop-first.invariant.reads local [] (each local fits rereads) e in
    let end = end_of_segments c.in-Some.first.now c.loop-first.left.now c.in-Some.later.now [] left.0 c.in-Some.ensures.cases.0 c.if-first-eq0.true left.3 in
    let some : 0 < length c.in-Some.later.now = search rules in
    absurd (omega (arith, some, ap length end.1))

pub returns-then-first-eq0-clause-exact : goal.returns-then-first-eq0-clause-exact
returns-then-first-eq0-clause-exact c =
    let none : length c.in-Some.later.now ≡ 0 = search rules in
    none_coded segment_bytes c.args.bytes.now c.loop-first.left.now c.in-Some.later.now (map segment c.loop-first.segments.items) c.in-Some.first.now c.loop-first.invariant.coded c.in-Some.ensures.cases.0 c.if-first-eq0.true
    ∙ ap (λ l. flat_map segment_bytes (map segment c.loop-first.segments.items) ++ 0 ∷ l) (nil_from_length c.in-Some.later.now none)

pub returns-in_default-2-clause-found : goal.returns-in_default-2-clause-found
returns-in_default-2-clause-found c local fits rereads e =
    let left = c.loop-first.invariant.reads local [] (each local fits rereads) e in
    let next = next_segment IsParsedSegment c.in-Some.first.now c.loop-first.left.now c.in-Some.later.now [] left.0 left.1 c.in-Some.ensures.cases.0 c.if-first-eq0.false left.3 in
    rw c.in_default-2.is at (c.in_ok-part.ensures.found next.0 _ next.2.0 next.2.1 next.5)

pub loop-first-preserved : goal.loop-first-preserved
loop-first-preserved c =
    let items : map segment c.push.new.self.items ≡ map segment c.loop-first.segments.items ++ segment c.in-Some-2.part ∷ [] = ap (map segment) c.in_ok-push.ensures.items ∙ map-append segment c.loop-first.segments.items (c.in-Some-2.part ∷ []) in
    let coded = rw c.in-Some-2.is at c.in_ok-part.ensures.exact in
    record {
      reads = λ local rest all e.
          let left = c.loop-first.invariant.reads local rest all e in
          let next = next_segment IsParsedSegment c.in-Some.first.now c.loop-first.left.now c.in-Some.later.now rest left.0 left.1 c.in-Some.ensures.cases.0 c.if-first-eq0.false left.3 in
          let read = rw c.in-Some-2.is at (c.in_ok-part.ensures.found next.0 _ next.2.0 next.2.1 next.5) in
          (next.1, next.3, one_read local (map segment c.loop-first.segments.items) left.0 next.1 (map segment c.push.new.self.items) next.0 (segment c.in-Some-2.part) left.2 next.4 read.0 items, read.1);
      coded = one_coded segment_bytes c.args.bytes.now c.loop-first.left.now c.in-Some-2.rest.now (map segment c.loop-first.segments.items) (map segment c.push.new.self.items) (segment c.in-Some-2.part) c.loop-first.invariant.coded (c.in-Some.ensures.cases.0 ∙ coded) items;
    }

pub returns-clause-found : goal.returns-clause-found
returns-clause-found c local fits rereads e =
    let left = c.loop-first.invariant.reads local [] (each local fits rereads) e in
    not_nil segment_bytes c.loop-first.left.now [] left.0 c.in_default.ensures.cases left.3
