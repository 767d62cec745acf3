use Rattle.std.proofs.Common.{◌≡◌, ◌<◌, ◌≤◌, arith, length, rules, subst, sym, true≢false}
use Rattle.pep440_compiled.proofs.SetKeys.{all_fronts, first_interval, first_long, has_room, read_next}
use Rattle.pep440_compiled.proofs.set_bytes.read_fronts.Goals as goal
use Rattle.pep440_compiled.specs.SetBytes.{IsFront, IsLong, high_bytes, low_bytes}
use Rattle.pep440_keys.specs.RangeKeys.{segment_interval}

pub returns-in_err-low-clause-some : goal.returns-in_err-low-clause-some
returns-in_err-low-clause-some c segments sized e few long =
    let at = c.loop-left.invariant segments sized e in
    let some : 0 < length c.loop-left.left.now = search rules in
    let first = first_interval c.loop-left.left.now at.more some at.sized at.bytes in
    absurd (c.in_err-low.ensures.found (low_bytes (segment_interval first.segment)) _ first.sized.0 first.bytes)

pub returns-in_err-high-clause-some : goal.returns-in_err-high-clause-some
returns-in_err-high-clause-some c segments sized e few long =
    let at = c.loop-left.invariant segments sized e in
    let some : 0 < length c.loop-left.left.now = search rules in
    let first = first_interval c.loop-left.left.now at.more some at.sized at.bytes in
    let low = c.in_ok-low.ensures.found (low_bytes (segment_interval first.segment)) _ first.sized.0 first.bytes in
    absurd (c.in_err-high.ensures.found (high_bytes (segment_interval first.segment)) _ first.sized.1 low.1)

pub returns-in_err-low_front-clause-some : goal.returns-in_err-low_front-clause-some
returns-in_err-low_front-clause-some c segments sized e few long =
    let at = c.loop-left.invariant segments sized e in
    let some : 0 < length c.loop-left.left.now = search rules in
    let first = first_interval c.loop-left.left.now at.more some at.sized at.bytes in
    let low = c.in_ok-low.ensures.found (low_bytes (segment_interval first.segment)) _ first.sized.0 first.bytes in
    absurd (true≢false (sym (c.in_err-low_front.ensures.long (subst IsLong (sym low.0) (first_long segments c.loop-left.fronts.items c.loop-left.left.now at first long).0))))

pub returns-in_err-high_front-clause-some : goal.returns-in_err-high_front-clause-some
returns-in_err-high_front-clause-some c segments sized e few long =
    let at = c.loop-left.invariant segments sized e in
    let some : 0 < length c.loop-left.left.now = search rules in
    let first = first_interval c.loop-left.left.now at.more some at.sized at.bytes in
    let low = c.in_ok-low.ensures.found (low_bytes (segment_interval first.segment)) _ first.sized.0 first.bytes in
    let high = c.in_ok-high.ensures.found (high_bytes (segment_interval first.segment)) _ first.sized.1 low.1 in
    absurd (true≢false (sym (c.in_err-high_front.ensures.long (subst IsLong (sym high.0) (first_long segments c.loop-left.fronts.items c.loop-left.left.now at first long).1))))

pub returns-then-is_full-clause-some : goal.returns-then-is_full-clause-some
returns-then-is_full-clause-some c segments sized e few long =
    let at = c.loop-left.invariant segments sized e in
    let some : 0 < length c.loop-left.left.now = search rules in
    let first = first_interval c.loop-left.left.now at.more some at.sized at.bytes in
    let full : 8 ≤ length c.loop-left.fronts.items = search rules in
    absurd (omega (arith, full, has_room segments c.loop-left.fronts.items c.loop-left.left.now at first few))

pub loop-left-preserved : goal.loop-left-preserved
loop-left-preserved c segments sized e =
    let at = c.loop-left.invariant segments sized e in
    let some : 0 < length c.loop-left.left.now = search rules in
    let first = first_interval c.loop-left.left.now at.more some at.sized at.bytes in
    let low = c.in_ok-low.ensures.found (low_bytes (segment_interval first.segment)) _ first.sized.0 first.bytes in
    let high = c.in_ok-high.ensures.found (high_bytes (segment_interval first.segment)) _ first.sized.1 low.1 in
    let low_front = c.in_ok-low_front.low_front in
    let high_front = c.in_ok-high_front.high_front in
    read_next segments c.loop-left.fronts.items c.push.new.self.items c.loop-left.left.now c.in_ok-high.rest.now (low_front, high_front) at first
    (subst (IsFront 0 low_front) low.0 c.in_ok-low_front.ensures.front, subst (IsFront 18446744073709551615 high_front) high.0 c.in_ok-high_front.ensures.front) high.1 c.push.ensures.items

pub returns-clause-fronts : goal.returns-clause-fronts
returns-clause-fronts c segments sized e =
    let none : length c.loop-left.left.now ≡ 0 = search rules in
    all_fronts segments c.loop-left.fronts.items c.loop-left.left.now none (c.loop-left.invariant segments sized e)
