use Rattle.std.proofs.Common.{◌≡◌, ◌==◌, ◌+◌, ◌-◌, ◌∙◌, ◌∷◌, ◌++◌, All, ap, append-nil, arith, drop, false, length, subst, sym, take, take_all}
use Rattle.std.proofs.lemmas.Bool.{ne_eqb}
use Rattle.std.proofs.lemmas.List.Elements.{All-more}
use Rattle.std.proofs.lemmas.List.Splits.{slice_split_none}
use Rattle.std.proofs.lemmas.Str.{IsCharBoundary-end}
use Rattle.std.specs.Str.{IsCharBoundary}
use Rattle.pep440_rs.specs.Lists.ListGrammar.{pieces}
use Rattle.pep440_rs.proofs.Reading.Pieces.{at_comma, comma_boundary, piece_boundary, piece_read}
use Rattle.pep440_rs.proofs.list.read.split_piece.Goals as goal

pub loop-at-preserved : goal.loop-at-preserved
loop-at-preserved c = All-more (λ b. (b == 44) ≡ false) c.as_bytes-bytes.result.now c.loop-at.at 0 c.loop-at-test.true c.loop-at.invariant (ne_eqb _ 44 c.if-byte-eq44.false)

pub range-requires-clause-end_boundary : goal.range-requires-clause-end_boundary
range-requires-clause-end_boundary c = piece_boundary c.args.text.now c.as_bytes-bytes.result.now c.loop-at.at c.as_bytes-bytes.ensures.value c.loop-at-test.true c.if-byte-eq44.true

pub range_from-requires : goal.range_from-requires
range_from-requires c = λ _. comma_boundary c.args.text.now c.as_bytes-bytes.result.now c.loop-at.at c.as_bytes-bytes.ensures.value c.utf8.text c.loop-at-test.true c.if-byte-eq44.true

pub returns-then-byte-eq44-clause-pieces : goal.returns-then-byte-eq44-clause-pieces
returns-then-byte-eq44-clause-pieces c =
    let e = c.as_bytes-bytes.ensures.value in
    let all : c.loop-at.at - 0 ≡ c.loop-at.at = omega arith in
    let front : take c.loop-at.at c.args.text.now ≡ c.range.result.now = ap (λ n. take n c.args.text.now) (sym all) ∙ sym c.range.ensures.value in
    let found = subst (λ t. pieces t ≡ take c.loop-at.at t ∷ pieces (drop (c.loop-at.at + 1) t)) e (piece_read c.as_bytes-bytes.result.now c.loop-at.at c.loop-at-test.true c.if-byte-eq44.true c.loop-at.invariant) in
    found ∙ (λ i. front i ∷ pieces (sym c.range_from.ensures.value i))

pub returns-then-byte-eq44-clause-whole : goal.returns-then-byte-eq44-clause-whole
returns-then-byte-eq44-clause-whole c =
    let e = c.as_bytes-bytes.ensures.value in
    let all : c.loop-at.at - 0 ≡ c.loop-at.at = omega arith in
    let front : take c.loop-at.at c.args.text.now ≡ c.range.result.now = ap (λ n. take n c.args.text.now) (sym all) ∙ sym c.range.ensures.value in
    let found = subst (λ t. t ≡ take c.loop-at.at t ++ (44 ∷ drop (c.loop-at.at + 1) t)) e (at_comma c.as_bytes-bytes.result.now c.loop-at.at c.loop-at-test.true c.if-byte-eq44.true) in
    found ∙ (λ i. front i ++ (44 ∷ sym c.range_from.ensures.value i))

pub returns-then-byte-eq44-clause-boundary : goal.returns-then-byte-eq44-clause-boundary
returns-then-byte-eq44-clause-boundary c =
    let long : length c.range.result.now ≡ c.loop-at.at = omega (arith, c.range.ensures.len) in
    subst (IsCharBoundary c.args.text.now) (sym long) (piece_boundary c.args.text.now c.as_bytes-bytes.result.now c.loop-at.at c.as_bytes-bytes.ensures.value c.loop-at-test.true c.if-byte-eq44.true)

pub returns-clause-pieces : goal.returns-clause-pieces
returns-clause-pieces c =
    let none = rw (take_all _ _ c.loop-at-test.false) at c.loop-at.invariant in
    slice_split_none (λ b. b == 44) c.args.text.now (subst (All (λ b. (b == 44) ≡ false)) c.as_bytes-bytes.ensures.value none)

pub returns-clause-whole : goal.returns-clause-whole
returns-clause-whole c = sym (append-nil c.args.text.now)

pub returns-clause-boundary : goal.returns-clause-boundary
returns-clause-boundary c = IsCharBoundary-end c.args.text.now
