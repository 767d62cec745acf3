use Rattle.std.proofs.Common.{◌<◌, ◌≡◌, length, rules, subst, sym}
use Rattle.pep440_compiled.proofs.SetMerging.{Collecting, collect_begun, collect_done, first_gap, two_more}
use Rattle.pep440_compiled.proofs.set_operations.collect_keys.Goals as goal
use Rattle.pep440_compiled.specs.SetBytes.{set_bytes}

pub loop-left-init : goal.loop-left-init
loop-left-init c s all e = subst (λ k. Collecting s k c.args.set.now) (sym c.new-keys.ensures.items) (collect_begun s c.args.set.now all e)

pub returns-in_default-clause-err : goal.returns-in_default-clause-err
returns-in_default-clause-err c s all e _ =
    let at = c.loop-left.invariant s all e in
    let some : 0 < length c.loop-left.left.now = search rules in
    let first = first_gap c.loop-left.left.now at.more some at.sized at.left_is in
    c.in_default.ensures.found first.first (set_bytes first.more) first.sized first.bytes_are

pub loop-left-preserved : goal.loop-left-preserved
loop-left-preserved c s all e =
    let at = c.loop-left.invariant s all e in
    let some : 0 < length c.loop-left.left.now = search rules in
    let first = first_gap c.loop-left.left.now at.more some at.sized at.left_is in
    let read = c.in-Some.ensures.found first.first (set_bytes first.more) first.sized first.bytes_are in
    two_more s c.loop-left.keys.items c.push.new.self.items c.push-in-loop-left.new.self.items c.in-Some.low c.in-Some.high c.loop-left.left.now c.in-Some.rest.now at first read.0 read.1 read.2 c.in_ok-push.ensures.items c.in_ok-push-2.ensures.items

pub returns-clause-ok : goal.returns-clause-ok
returns-clause-ok c s all e =
    let none : length c.loop-left.left.now ≡ 0 = search rules in
    collect_done s c.loop-left.keys.items c.loop-left.left.now none (c.loop-left.invariant s all e)
