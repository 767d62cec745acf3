use Rattle.std.proofs.Common.{◌≡◌, ◌∙◌, ◌-◌, ◌++◌, ◌∷◌, ap, arith, drop, get_or, length, refl, subst, sym, true≢false}
use Rattle.pep440_compiled.proofs.Checking.{text_split}
use Rattle.pep440_compiled.proofs.Loops.{after_text}
use Rattle.pep440_compiled.proofs.Rewritten.{coded_again, text_again}
use Rattle.pep440_compiled.proofs.checked_version.check_segment.Goals as goal
use Rattle.pep440_keys.proofs.Order.{no_zero}
use Rattle.pep440_version.specs.Record.{Number, Text}
use Rattle.pep440_version.specs.RoundTrip.{SegmentRoundTrips}

pub returns-then-first-gt1-clause-exact : goal.returns-then-first-gt1-clause-exact
returns-then-first-gt1-clause-exact c =
    let tested = c.in_ok-rest.ensures.exact in
    (Number tested.0, tested.1, tt, coded_again 2 (c.args.first ∷ c.args.bytes.now) c.args.bytes.now c.in_ok-rest.rest.now c.args.first (c.args.first - 2) tested.0 refl (omega (arith, c.if-first-gt1.true)) tested.2 tested.3)

pub returns-in_err-end-clause-found : goal.returns-in_err-end-clause-found
returns-in_err-end-clause-found c s rest fits rereads e =
    let one : c.args.first ≡ 1 = omega (arith, c.requires, c.if-first-gt1.false) in
    let text = after_text c.args.first c.args.bytes.now rest s (no_zero s rereads) one e in
    let split = text_split c.args.bytes.now c.split_lower.result.0.now c.split_lower.result.1.now text.0 rest c.split_lower.ensures.joined c.split_lower.ensures.lower c.split_lower.ensures.ended (subst SegmentRoundTrips text.2 rereads) text.3 in
    absurd (omega (arith, c.in_err-end.ensures.cases, ap length split.1))

pub returns-then-end-ne0-clause-found : goal.returns-then-end-ne0-clause-found
returns-then-end-ne0-clause-found c s rest fits rereads e =
    let one : c.args.first ≡ 1 = omega (arith, c.requires, c.if-first-gt1.false) in
    let text = after_text c.args.first c.args.bytes.now rest s (no_zero s rereads) one e in
    let split = text_split c.args.bytes.now c.split_lower.result.0.now c.split_lower.result.1.now text.0 rest c.split_lower.ensures.joined c.split_lower.ensures.lower c.split_lower.ensures.ended (subst SegmentRoundTrips text.2 rereads) text.3 in
    let end : c.in_ok-end.end.now ≡ 0 = ap (λ l. get_or l 0 0) (sym c.in_ok-end.ensures.cases.0 ∙ split.1) in
    absurd (c.if-end-ne0.true end)

pub returns-then-not-is_normal_lower-clause-found : goal.returns-then-not-is_normal_lower-clause-found
returns-then-not-is_normal_lower-clause-found c s rest fits rereads e =
    let one : c.args.first ≡ 1 = omega (arith, c.requires, c.if-first-gt1.false) in
    let text = after_text c.args.first c.args.bytes.now rest s (no_zero s rereads) one e in
    let again : SegmentRoundTrips (Text text.0) = subst SegmentRoundTrips text.2 rereads in
    let split = text_split c.args.bytes.now c.split_lower.result.0.now c.split_lower.result.1.now text.0 rest c.split_lower.ensures.joined c.split_lower.ensures.lower c.split_lower.ensures.ended again text.3 in
    let normal : SegmentRoundTrips (Text c.split_lower.result.0.now) = subst (λ t. SegmentRoundTrips (Text t)) (sym split.0) again in
    absurd (true≢false (sym (c.is_normal_lower.ensures.1 normal) ∙ c.if-not-is_normal_lower.true))

pub returns-clause-found : goal.returns-clause-found
returns-clause-found c s rest fits rereads e =
    let one : c.args.first ≡ 1 = omega (arith, c.requires, c.if-first-gt1.false) in
    let text = after_text c.args.first c.args.bytes.now rest s (no_zero s rereads) one e in
    let split = text_split c.args.bytes.now c.split_lower.result.0.now c.split_lower.result.1.now text.0 rest c.split_lower.ensures.joined c.split_lower.ensures.lower c.split_lower.ensures.ended (subst SegmentRoundTrips text.2 rereads) text.3 in
    ap (drop 1) (sym c.in_ok-end.ensures.cases.0 ∙ split.1)

pub returns-clause-exact : goal.returns-clause-exact
returns-clause-exact c =
    let one : c.args.first ≡ 1 = omega (arith, c.requires, c.if-first-gt1.false) in
    let text = c.split_lower.result.0.now in
    let end : c.in_ok-end.end.now ≡ 0 = omega (arith, c.if-end-ne0.false) in
    let joined = c.split_lower.ensures.joined ∙ ap (λ l. text ++ l) (c.in_ok-end.ensures.cases.0 ∙ ap (λ b. b ∷ c.in_ok-end.rest.now) end) in
    (Text text, tt, c.is_normal_lower.ensures.0 c.if-not-is_normal_lower.false, text_again c.args.first c.args.bytes.now text c.in_ok-end.rest.now one joined)
