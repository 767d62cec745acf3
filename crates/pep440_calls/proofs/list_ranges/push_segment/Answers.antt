use Rattle.std.proofs.Common.{◌∙◌}
use Rattle.pep440_calls.proofs.Placed.{segment_more}
use Rattle.pep440_calls.proofs.list_ranges.push_segment.Goals as goal

pub returns : goal.returns
returns c = λ range joins.
    segment_more range c.args.low.now c.args.high.now c.as_slice.result.now c.as_slice-2.result.now c.args.found.now.bytes.items c.push.new.self.bytes.items c.push-2.new.self.bytes.items
    c.args.found.now.ends.items c.push.new.self.ends.items c.push-2.new.self.ends.items (c.as_slice.ensures.value ∙ c.in_ok-low.ensures)
    (c.as_slice-2.ensures.value ∙ c.in_ok-high.ensures) c.in_ok-push.ensures.bytes c.in_ok-push.ensures.ends
    c.in_ok-push-2.ensures.bytes c.in_ok-push-2.ensures.ends joins
