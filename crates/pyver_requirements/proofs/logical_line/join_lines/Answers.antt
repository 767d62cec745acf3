use Rattle.std.proofs.Common.{◌∙◌, ap, arith, sym}
use Rattle.std.proofs.lemmas.Result.{IfOk-weaker}
use Rattle.pyver_requirements.proofs.Lines.{lines_left, room_more, room_none}
use Rattle.pyver_requirements.specs.LineKinds.{lines_with}
use Rattle.pyver_requirements.specs.LogicalLines.{filled, joined_from, physical_lines}
use Rattle.pyver_requirements.proofs.logical_line.join_lines.Goals as goal

pub loop-rest-init : goal.loop-rest-init
loop-rest-init c = record {
  lines = c.new-joiner.ensures.lines (physical_lines c.after_mark.result.now) ∙ ap (λ t. filled (joined_from 1 (physical_lines t))) c.after_mark.ensures;
  room = room_none c.after_mark.result c.new-joiner.result.next c.new-joiner.ensures.next (omega arith);
}

pub push-requires : goal.push-requires
push-requires c = omega (arith, c.loop-rest.invariant.room c.in-Some.left c.in-Some.is)

pub loop-rest-preserved : goal.loop-rest-preserved
loop-rest-preserved c = record {
  lines = c.in_ok-push.ensures.lines (lines_left c.split_line.result.1) ∙ ap (lines_with c.loop-rest.joiner) (sym c.split_line.ensures.lines ∙ ap lines_left (sym c.in-Some.is)) ∙ c.loop-rest.invariant.lines;
  room = room_more c.loop-rest.joiner.next c.push.new.self.next c.loop-rest.rest c.in-Some.left c.split_line.result.1 c.in-Some.is c.in_ok-push.ensures.next c.split_line.ensures.shorter c.loop-rest.invariant.room;
}

pub returns : goal.returns
returns c = IfOk-weaker c.finish.result _ _ (λ lines h. h ∙ ap (λ r. lines_with c.loop-rest.joiner (lines_left r)) (sym c.in_default.is) ∙ c.loop-rest.invariant.lines) c.finish.ensures
