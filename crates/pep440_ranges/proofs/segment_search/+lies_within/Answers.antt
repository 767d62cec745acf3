use Rattle.std.proofs.Common.{◌∙◌, ◌/◌, length, sym}
use Rattle.pep440_ranges.proofs.Searching.{first_part, last_part}
use Rattle.pep440_ranges.proofs.segment_search.+lies_within.Goals as goal

pub returns-then-not-is_from_start : goal.returns-then-not-is_from_start
returns-then-not-is_from_start g t c = λ rises.
    let segments = c.args.segments.now in
    let part =
    first_part g.met.V.Ord.total c.args.value.now segments c.split_at.result.0.now c.in-Some.segment.now c.in-Some.back.now (length segments / 2) c.split_at.ensures.front
    (sym c.split_at.ensures.back ∙ c.in-Some.ensures.cases.0) rises (sym c.is_from_start.ensures ∙ c.if-not-is_from_start.true) in
    c.lies_within.ensures part.range ∙ sym part.same

pub returns-else-is_up_to_end : goal.returns-else-is_up_to_end
returns-else-is_up_to_end g t c = λ rises.
    let segments = c.args.segments.now in
    let part =
    last_part g.met.V.Ord.total c.args.value.now segments c.split_at.result.0.now c.in-Some.segment.now c.in-Some.back.now (length segments / 2) c.split_at.ensures.front
    (sym c.split_at.ensures.back ∙ c.in-Some.ensures.cases.0) rises (sym c.is_up_to_end.ensures ∙ c.if-is_up_to_end.false) in
    c.lies_within-else-is_up_to_end.ensures part.range ∙ sym part.same
