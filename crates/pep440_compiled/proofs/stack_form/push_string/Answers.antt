use Rattle.std.proofs.Common.{◌∙◌, ◌+◌, ◌++◌, ◌≤◌, ap, arith, eqb-true, length, subst, sym}
use Rattle.std.proofs.lemmas.Bool.{false≢true}
use Rattle.pep440_compiled.proofs.WrittenForm.{some_bytes, string_is, string_segment}
use Rattle.pep440_compiled.proofs.stack_form.push_string.Goals as goal
use Rattle.pep440_keys.specs.SortKeys.{segment_bytes}
use Rattle.pep440_version.specs.Record.{Text}
use Rattle.pep440_version.specs.RoundTrip.{SegmentRoundTrips}

pub returns-clause-appended : goal.returns-clause-appended
returns-clause-appended c =
    let split = c.split_lower.ensures in
    let segment = c.split_lower.result.0.now in
    (segment, Text segment, string_segment c.args.text.now segment c.split_lower.result.1.now c.requires split.joined (some_bytes segment (sym c.is_empty.ensures ∙ c.if-is_empty.false)) split.lower split.ended, split.joined, c.in_ok-push_text.ensures.appended)

pub returns-then-is_empty-clause-fits : goal.returns-then-is_empty-clause-fits
returns-then-is_empty-clause-fits c = λ s rest printed fits.
    let split = c.split_lower.ensures in
    let same = string_is c.args.text.now c.split_lower.result.0.now c.split_lower.result.1.now c.requires split.joined split.lower split.ended s rest printed in
    let some = (subst SegmentRoundTrips same.0 printed.round_trips).0 in
    absurd (omega (arith, some, eqb-true _ 0 (sym c.is_empty.ensures ∙ c.if-is_empty.true)))

pub returns-in_err-push_text-clause-fits : goal.returns-in_err-push_text-clause-fits
returns-in_err-push_text-clause-fits c = λ s rest printed fits.
    let split = c.split_lower.ensures in
    let same = string_is c.args.text.now c.split_lower.result.0.now c.split_lower.result.1.now c.requires split.joined split.lower split.ended s rest printed in
    absurd (false≢true (c.in_err-push_text.ensures.fits (subst (λ v. length c.args.form.now.items + length (segment_bytes v) ≤ 64) same.0 fits)))

pub returns-clause-fits : goal.returns-clause-fits
returns-clause-fits c = λ s rest printed fits.
    let split = c.split_lower.ensures in
    let same = string_is c.args.text.now c.split_lower.result.0.now c.split_lower.result.1.now c.requires split.joined split.lower split.ended s rest printed in
    (same.1, c.in_ok-push_text.ensures.appended ∙ ap (λ v. c.args.form.now.items ++ segment_bytes v) (sym same.0))
