use Rattle.std.proofs.Common.{◌≡◌, ◌∙◌, ◌++◌, ◌∷◌, ◌-◌, ap, arith, refl, subst, sym}
use Rattle.std.specs.Prelude.{string_bytes}
use Rattle.std.specs.Str.{IsUtf8}
use Rattle.pep440_compiled.proofs.Checking.{lower_utf8}
use Rattle.pep440_compiled.proofs.Loops.{after_text}
use Rattle.pep440_compiled.proofs.Rewritten.{coded_again, text_again}
use Rattle.pep440_compiled.proofs.decode.read_segment.Goals as goal
use Rattle.pep440_keys.proofs.Order.{no_zero}
use Rattle.pep440_version.specs.Record.{LocalSegmentValue, Text}
use Rattle.pep440_version.specs.RoundTrip.{SegmentRoundTrips}

pub returns-in_default-from_utf8-clause-found : goal.returns-in_default-from_utf8-clause-found
returns-in_default-from_utf8-clause-found c s rest fits rereads e =
    let one : c.args.first ≡ 1 = omega (arith, c.requires, c.if-first-gt1.false) in
    let text = after_text c.args.first c.args.bytes.now rest s (no_zero s rereads) one e in
    let found = c.in-Some-split_text.ensures.found text.0 rest text.1 text.3 in
    c.in_default-from_utf8.ensures.cases.0 (subst IsUtf8 (sym found.0) (lower_utf8 text.0 (subst (λ (s : LocalSegmentValue). SegmentRoundTrips s) text.2 rereads).1))

pub returns-clause-found : goal.returns-clause-found
returns-clause-found c s rest fits rereads e =
    let one : c.args.first ≡ 1 = omega (arith, c.requires, c.if-first-gt1.false) in
    let same = c.in_ok-from_str.ensures.ok ∙ c.in-Ok.ensures.cases.0 in
    let text = after_text c.args.first c.args.bytes.now rest s (no_zero s rereads) one e in
    let found = c.in-Some-split_text.ensures.found text.0 rest text.1 text.3 in
    (ap Text (same ∙ found.0) ∙ sym text.2, found.1)

pub returns-then-first-gt1-clause-exact : goal.returns-then-first-gt1-clause-exact
returns-then-first-gt1-clause-exact c =
    coded_again 2 (c.args.first ∷ c.args.bytes.now) c.args.bytes.now c.in-Some.rest.now c.args.first (c.args.first - 2) c.in-Some.number refl (omega (arith, c.if-first-gt1.true)) c.in-Some.ensures.exact.0 c.in-Some.ensures.exact.1

pub returns-clause-exact : goal.returns-clause-exact
returns-clause-exact c =
    let one : c.args.first ≡ 1 = omega (arith, c.requires, c.if-first-gt1.false) in
    let same = c.in_ok-from_str.ensures.ok ∙ c.in-Ok.ensures.cases.0 in
    text_again c.args.first c.args.bytes.now (string_bytes c.in_ok-from_str.field-0) c.in-Some-split_text.rest.now one (c.in-Some-split_text.ensures.exact ∙ ap (λ l. l ++ 0 ∷ c.in-Some-split_text.rest.now) (sym same))
