use Rattle.std.proofs.Common.{◌<◌, ◌≡◌, ◌∙◌, inl, inr, length, rules, sym}
use Rattle.pep440_compiled.proofs.SetMerging.{head, left_first, merge_begun, merge_ended, right_first}
use Rattle.pep440_compiled.proofs.set_operations.push_overlaps.Goals as goal
use Rattle.pep440_compiled.specs.SetBytes.{set_bytes}

pub loop-left_rest-init : goal.loop-left_rest-init
loop-left_rest-init c s t h k = merge_begun s t c.args.out.now.items c.args.left.now c.args.right.now h k

pub returns-in_default-clause-err : goal.returns-in_default-clause-err
returns-in_default-clause-err c s t h k _ =
    let at = c.loop-left_rest.invariant s t h k in
    let some : 0 < length c.loop-left_rest.left_rest.now = search rules in
    let first = head c.loop-left_rest.left_rest.now at.left_set some at.left_is in
    c.in_default.ensures.found first.first (set_bytes first.more) first.sized first.bytes_are

pub returns-in_default-split_interval-clause-err : goal.returns-in_default-split_interval-clause-err
returns-in_default-split_interval-clause-err c s t h k _ =
    let at = c.loop-left_rest.invariant s t h k in
    let some : 0 < length c.loop-left_rest.right_rest.now = search rules in
    let first = head c.loop-left_rest.right_rest.now at.right_set some at.right_is in
    c.in_default-split_interval.ensures.found first.first (set_bytes first.more) first.sized first.bytes_are

pub loop-left_rest-preserved-then-ends_before : goal.loop-left_rest-preserved-then-ends_before
loop-left_rest-preserved-then-ends_before c s t h k =
    let at = c.loop-left_rest.invariant s t h k in
    let some : 0 < length c.loop-left_rest.left_rest.now = search rules in
    let some_right : 0 < length c.loop-left_rest.right_rest.now = search rules in
    let first = head c.loop-left_rest.left_rest.now at.left_set some at.left_is in
    let second = head c.loop-left_rest.right_rest.now at.right_set some_right at.right_is in
    let read = c.in-Some.ensures.found first.first (set_bytes first.more) first.sized first.bytes_are in
    let other = c.in-Some-split_interval.ensures.found second.first (set_bytes second.more) second.sized second.bytes_are in
    right_first s t c.args.out.now.items c.loop-left_rest.out.items c.push_valid.new.out.items c.loop-left_rest.left_rest.now c.loop-left_rest.right_rest.now c.in-Some-split_interval.right_others.now c.later_start-low.result.now c.in-Some.s_low.now c.in-Some.s_high.now c.in-Some-split_interval.t_low.now c.in-Some-split_interval.t_high.now
    at first second read.0 read.1 other.0 other.1 c.later_start-low.ensures (sym c.ends_before.ensures ∙ c.if-ends_before.true) c.in_ok-push_valid.ensures other.2

pub loop-left_rest-preserved : goal.loop-left_rest-preserved
loop-left_rest-preserved c s t h k =
    let at = c.loop-left_rest.invariant s t h k in
    let some : 0 < length c.loop-left_rest.left_rest.now = search rules in
    let some_right : 0 < length c.loop-left_rest.right_rest.now = search rules in
    let first = head c.loop-left_rest.left_rest.now at.left_set some at.left_is in
    let second = head c.loop-left_rest.right_rest.now at.right_set some_right at.right_is in
    let read = c.in-Some.ensures.found first.first (set_bytes first.more) first.sized first.bytes_are in
    let other = c.in-Some-split_interval.ensures.found second.first (set_bytes second.more) second.sized second.bytes_are in
    left_first s t c.args.out.now.items c.loop-left_rest.out.items c.push_valid-else-ends_before.new.out.items c.loop-left_rest.left_rest.now c.loop-left_rest.right_rest.now c.in-Some.left_others.now c.later_start-low.result.now c.in-Some.s_low.now c.in-Some.s_high.now c.in-Some-split_interval.t_low.now c.in-Some-split_interval.t_high.now
    at first second read.0 read.1 other.0 other.1 c.later_start-low.ensures (sym c.ends_before.ensures ∙ c.if-ends_before.false) c.in_ok-push_valid-2.ensures read.2

pub returns-else-not-is_empty-clause-ok : goal.returns-else-not-is_empty-clause-ok
returns-else-not-is_empty-clause-ok c s t h k =
    let none : length c.loop-left_rest.right_rest.now ≡ 0 = search rules in
    merge_ended s t c.args.out.now.items c.loop-left_rest.out.items c.loop-left_rest.left_rest.now c.loop-left_rest.right_rest.now (c.loop-left_rest.invariant s t h k) (inr none)

pub returns-after-loop-left_rest-clause-ok : goal.returns-after-loop-left_rest-clause-ok
returns-after-loop-left_rest-clause-ok c s t h k =
    let none : length c.loop-left_rest.left_rest.now ≡ 0 = search rules in
    merge_ended s t c.args.out.now.items c.loop-left_rest.out.items c.loop-left_rest.left_rest.now c.loop-left_rest.right_rest.now (c.loop-left_rest.invariant s t h k) (inl none)
