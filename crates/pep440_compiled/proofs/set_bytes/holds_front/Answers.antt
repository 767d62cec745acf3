use Rattle.std.proofs.Common.{◌≡◌, ◌≢◌, ◌∙◌, ◌||◌, ap, arith, length, refl, rules, subst, sym, take}
use Rattle.std.specs.List.{list_any}
use Rattle.std.specs.Slice.Scan.{big_endian}
use Rattle.pep440_compiled.proofs.SetKeys.{at_front, first_fronts, fronts_decide, no_fronts, off_front, other_first}
use Rattle.pep440_compiled.proofs.set_bytes.holds_front.Goals as goal
use Rattle.pep440_keys.specs.RangeKeys.{is_within, segment_interval}

pub loop-range-init : goal.loop-range-init
loop-range-init c = record { held = λ segments h. (segments, h, refl); some = λ others. others }

pub returns-then-is_at_front-clause-some : goal.returns-then-is_at_front-clause-some
returns-then-is_at_front-clause-some c long others =
    let range = c.in-Some.range.now in
    let first = other_first (big_endian 0 (take 8 c.args.key.now)) c.loop-range.left.now c.in-Some.rest.now range c.in-Some.ensures.cases.0 (c.loop-range.invariant.some others) in
    absurd (at_front c.read_word-front.result range.0 range.1 (sym c.is_at_front.ensures ∙ c.if-is_at_front.true) (subst (λ n. (n ≢ range.0) × (n ≢ range.1)) (sym c.read_word-front.ensures) first.0))

pub returns-then-is_between_fronts-clause-held : goal.returns-then-is_between_fronts-clause-held
returns-then-is_between_fronts-clause-held c segments h =
    let key = c.args.key.now in
    let range = c.in-Some.range.now in
    let left = c.loop-range.invariant.held segments h in
    let first = first_fronts c.loop-range.left.now c.in-Some.rest.now range left.0 c.in-Some.ensures.cases.0 left.1 in
    let off = off_front c.read_word-front.result range.0 range.1 (sym c.is_at_front.ensures ∙ c.if-is_at_front.false) in
    let decided = fronts_decide first.segment key range c.read_word-front.result first.both (omega (arith, c.if-key-lt8.false)) (λ k. omega (arith, c.type_inv.key k)) c.read_word-front.ensures (omega arith) off.0 off.1 in
    sym (left.2 ∙ ap (list_any (λ s. is_within (segment_interval s) key)) first.split ∙ ap (λ b. b || list_any (λ s. is_within (segment_interval s) key) first.more) (decided ∙ sym c.is_between_fronts.ensures ∙ c.if-is_between_fronts.true))

pub loop-range-preserved : goal.loop-range-preserved
loop-range-preserved c = record {
  held = λ segments h.
      let key = c.args.key.now in
      let range = c.in-Some.range.now in
      let left = c.loop-range.invariant.held segments h in
      let first = first_fronts c.loop-range.left.now c.in-Some.rest.now range left.0 c.in-Some.ensures.cases.0 left.1 in
      let off = off_front c.read_word-front.result range.0 range.1 (sym c.is_at_front.ensures ∙ c.if-is_at_front.false) in
      let decided = fronts_decide first.segment key range c.read_word-front.result first.both (omega (arith, c.if-key-lt8.false)) (λ k. omega (arith, c.type_inv.key k)) c.read_word-front.ensures (omega arith) off.0 off.1 in
      (first.more, first.others, left.2 ∙ ap (list_any (λ s. is_within (segment_interval s) key)) first.split ∙ ap (λ b. b || list_any (λ s. is_within (segment_interval s) key) first.more) (decided ∙ sym c.is_between_fronts.ensures ∙ c.if-is_between_fronts.false));
  some = λ others. (other_first (big_endian 0 (take 8 c.args.key.now)) c.loop-range.left.now c.in-Some.rest.now c.in-Some.range.now c.in-Some.ensures.cases.0 (c.loop-range.invariant.some others)).1;
}

pub returns-clause-held : goal.returns-clause-held
returns-clause-held c segments h =
    let left = c.loop-range.invariant.held segments h in
    let none : length c.loop-range.left.now ≡ 0 = search rules in
    sym (left.2 ∙ ap (list_any (λ s. is_within (segment_interval s) c.args.key.now)) (no_fronts c.loop-range.left.now left.0 none left.1))
