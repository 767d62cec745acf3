use Rattle.std.proofs.Common.{◌≡◌, ◌∙◌, ◌||◌, ◌<◌, Some, ap, length, refl, rules, sym}
use Rattle.std.proofs.lemmas.List.Elements.{recursion_from_All}
use Rattle.std.specs.List.{list_any}
use Rattle.pep440_compiled.proofs.SetKeys.{decided, first_interval, none_left}
use Rattle.pep440_compiled.proofs.set_bytes.holds_key.Goals as goal
use Rattle.pep440_compiled.specs.SetBytes.{IsSized, high_bytes, low_bytes}
use Rattle.pep440_keys.specs.RangeKeys.{is_within, segment_interval}

pub loop-left-init : goal.loop-left-init
loop-left-init c segments sized e = (segments, recursion_from_All IsSized segments sized, e, refl)

pub returns-in_err-low : goal.returns-in_err-low
returns-in_err-low c segments sized e =
    let left = c.loop-left.invariant segments sized e in
    let some : 0 < length c.loop-left.left.now = search rules in
    let first = first_interval c.loop-left.left.now left.0 some left.1 left.2 in
    absurd (c.in_err-low.ensures.found (low_bytes (segment_interval first.segment)) _ first.sized.0 first.bytes)

pub returns-in_err-high : goal.returns-in_err-high
returns-in_err-high c segments sized e =
    let left = c.loop-left.invariant segments sized e in
    let some : 0 < length c.loop-left.left.now = search rules in
    let first = first_interval c.loop-left.left.now left.0 some left.1 left.2 in
    let low = c.in_ok-low.ensures.found (low_bytes (segment_interval first.segment)) _ first.sized.0 first.bytes in
    absurd (c.in_err-high.ensures.found (high_bytes (segment_interval first.segment)) _ first.sized.1 low.1)

pub returns-then-is_between : goal.returns-then-is_between
returns-then-is_between c segments sized e =
    let left = c.loop-left.invariant segments sized e in
    let some : 0 < length c.loop-left.left.now = search rules in
    let first = first_interval c.loop-left.left.now left.0 some left.1 left.2 in
    let low = c.in_ok-low.ensures.found (low_bytes (segment_interval first.segment)) _ first.sized.0 first.bytes in
    let high = c.in_ok-high.ensures.found (high_bytes (segment_interval first.segment)) _ first.sized.1 low.1 in
    let within = decided first.segment c.args.key.now c.in_ok-low.low.now c.in_ok-high.high.now c.is_between.result low.0 high.0 c.is_between.ensures ∙ c.if-is_between.true in
    ap Some (sym (left.3 ∙ ap (list_any (λ s. is_within (segment_interval s) c.args.key.now)) first.split ∙ ap (λ b. b || list_any (λ s. is_within (segment_interval s) c.args.key.now) first.more) within))

pub loop-left-preserved : goal.loop-left-preserved
loop-left-preserved c segments sized e =
    let left = c.loop-left.invariant segments sized e in
    let some : 0 < length c.loop-left.left.now = search rules in
    let first = first_interval c.loop-left.left.now left.0 some left.1 left.2 in
    let low = c.in_ok-low.ensures.found (low_bytes (segment_interval first.segment)) _ first.sized.0 first.bytes in
    let high = c.in_ok-high.ensures.found (high_bytes (segment_interval first.segment)) _ first.sized.1 low.1 in
    let within = decided first.segment c.args.key.now c.in_ok-low.low.now c.in_ok-high.high.now c.is_between.result low.0 high.0 c.is_between.ensures ∙ c.if-is_between.false in
    (first.more, first.all, high.1, left.3 ∙ ap (list_any (λ s. is_within (segment_interval s) c.args.key.now)) first.split ∙ ap (λ b. b || list_any (λ s. is_within (segment_interval s) c.args.key.now) first.more) within)

pub returns : goal.returns
returns c segments sized e =
    let left = c.loop-left.invariant segments sized e in
    let none : length c.loop-left.left.now ≡ 0 = search rules in
    ap Some (sym (left.3 ∙ ap (list_any (λ s. is_within (segment_interval s) c.args.key.now)) (none_left c.loop-left.left.now left.0 none left.2)))
