use Rattle.std.proofs.Common.{◌≡◌, ◌-◌, ◌+◌, ◌∙◌, suc, sym, arith, length, map, eqb-true, ℕ}
use Rattle.std.specs.Char.{is_ascii_alphanumeric}
use Rattle.pep440_version.specs.Reading.{lead}
use Rattle.pep440_version.specs.Segments.{segment}
use Rattle.pep440_version.proofs.Reading.LocalAgrees.{segments_end, segments_on, no_segment, no_fuel, lead_empty}
use Rattle.pep440_version.proofs.parse.local.parse_segments.Goals as goal

pub returns-then-is_empty : goal.returns-then-is_empty
returns-then-is_empty c =
    let text = c.args.text.now in
    let rest = c.loop-round.rest.now in
    let none : length c.split_alphanumerics.result.0.now ≡ 0 = eqb-true _ 0 (sym c.is_empty.ensures ∙ c.if-is_empty.true) in
    let empty : length (lead is_ascii_alphanumeric rest) ≡ 0 = rw (sym c.split_alphanumerics.ensures.prefix) none in
    rw c.make_local_empty.ensures (sym c.loop-round.invariant.1 ∙ no_segment (length text - c.loop-round.round) c.loop-round.precursor rest (map segment c.loop-round.segments.items) (lead_empty is_ascii_alphanumeric rest empty))

pub returns-in-None : goal.returns-in-None
returns-in-None c =
    let left : ℕ = length c.args.text.now - (c.loop-round.round + 1) in
    let fuel : length c.args.text.now - c.loop-round.round ≡ suc left = omega arith in
    let some = sym c.is_empty.ensures ∙ c.if-is_empty.false in
    sym c.loop-round.invariant.1 ∙ rw (fuel, c.in_ok-push_segment.ensures)
    (segments_end segment c.loop-round.segments.items c.in_ok-parse_segment.field-0 left c.loop-round.precursor c.loop-round.rest.now c.split_alphanumerics.result.0.now c.split_alphanumerics.result.1.now
    c.split_alphanumerics.ensures.prefix c.split_alphanumerics.ensures.back some c.in-None.ensures c.in_ok-parse_segment.ensures)

pub loop-round-preserved : goal.loop-round-preserved
loop-round-preserved c =
    let left : ℕ = length c.args.text.now - (c.loop-round.round + 1) in
    let fuel : length c.args.text.now - c.loop-round.round ≡ suc left = omega arith in
    let some = sym c.is_empty.ensures ∙ c.if-is_empty.false in (
      c.skip_ascii-rest.utf8,
      rw (c.in_ok-push_segment.ensures, c.skip_ascii-rest.ensures)
          (sym (segments_on segment c.loop-round.segments.items c.in_ok-parse_segment.field-0 left c.loop-round.precursor c.in-Some.separator c.loop-round.rest.now c.split_alphanumerics.result.0.now c.split_alphanumerics.result.1.now
          c.split_alphanumerics.ensures.prefix c.split_alphanumerics.ensures.back some c.in-Some.ensures c.in_ok-parse_segment.ensures) ∙ rw (sym fuel) c.loop-round.invariant.1),
    )

pub returns : goal.returns
returns c =
    let text = c.args.text.now in
    rw c.make_local_empty-2.ensures (sym c.loop-round.invariant.1 ∙ no_fuel (length text - c.loop-round.round) c.loop-round.precursor c.loop-round.rest.now (map segment c.loop-round.segments.items) (omega arith))
