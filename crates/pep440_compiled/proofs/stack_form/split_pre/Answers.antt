use Rattle.std.proofs.Common.{◌≡◌, ◌∙◌, ◌++◌, List, [], Some, None, ap, refl, subst, ℕ}
use Rattle.std.proofs.lemmas.List.{append_assoc}
use Rattle.std.specs.Char.{is_ascii_digit}
use Rattle.std.specs.Fmt.{decimal}
use Rattle.pep440_compiled.proofs.PrintedParts.{after_pre, no_kind, no_separator, number_no_separator, pre_ends, pre_no_separator}
use Rattle.pep440_compiled.proofs.WrittenForm.{pre_spelled}
use Rattle.pep440_compiled.proofs.stack_form.split_pre.Goals as goal
use Rattle.pep440_version.proofs.Reading.ReadIsDerived.{number_first}
use Rattle.pep440_version.proofs.RoundTrip.PrintIsRead.{decimal_number}
use Rattle.pep440_version.specs.Grammar.{IsSeparator, starts}
use Rattle.pep440_version.specs.Print.{prerelease_kind_text}

pub returns-in_default-clause-pre : goal.returns-in_default-clause-pre
returns-in_default-clause-pre c = ([], refl, refl)

pub returns-clause-pre : goal.returns-clause-pre
returns-clause-pre c =
    pre_spelled c.args.text.now c.skip_separator.result.now c.in-Some.after.now c.skip_separator-2.result.now c.in_ok-number.rest.now c.in-Some.kind c.in_ok-number.number c.skip_separator.ensures c.in-Some.ensures.kind
    c.skip_separator-2.ensures c.in_ok-number.ensures.number c.in_ok-number.ensures.ended

pub returns-in_default-clause-printed : goal.returns-in_default-clause-printed
returns-in_default-clause-printed c None post dev local fits e = (refl, e)
returns-in_default-clause-printed c (Some p) post dev local fits e =
    let more = after_pre post dev local in
    let digits = decimal p.number ++ more in
    let whole = e ∙ append_assoc (prerelease_kind_text p.kind) (decimal p.number) more in
    let kept = no_separator c.args.text.now c.skip_separator.result.now c.skip_separator.ensures (pre_no_separator p.kind digits whole) in
    absurd (c.in_default.ensures.printed p.kind digits (number_first (decimal p.number) more p.number (decimal_number p.number fits)) (kept ∙ whole))

pub returns-in_err-number-clause-printed : goal.returns-in_err-number-clause-printed
returns-in_err-number-clause-printed c None post dev local fits e =
    let rest = c.skip_separator.result.now in
    let kind = c.in-Some.ensures.kind in
    absurd (no_kind post dev local rest (subst (λ t. (separator : List ℕ) × IsSeparator separator × (t ≡ separator ++ rest)) e c.skip_separator.ensures) kind.0 c.in-Some.after.now c.in-Some.kind kind.1 kind.2)
returns-in_err-number-clause-printed c (Some p) post dev local fits e =
    let more = after_pre post dev local in
    let digits = decimal p.number ++ more in
    let number = decimal_number p.number fits in
    let digit = number_first (decimal p.number) more p.number number in
    let whole = e ∙ append_assoc (prerelease_kind_text p.kind) (decimal p.number) more in
    let kept = no_separator c.args.text.now c.skip_separator.result.now c.skip_separator.ensures (pre_no_separator p.kind digits whole) in
    let kind = c.in-Some.ensures.printed p.kind digits digit (kept ∙ whole) in
    let after = no_separator c.in-Some.after.now c.skip_separator-2.result.now c.skip_separator-2.ensures (number_no_separator c.in-Some.after.now (ap (starts is_ascii_digit) kind.1 ∙ digit)) in
    absurd (c.in_err-number.ensures.found (decimal p.number) more p.number number (pre_ends post dev local).0.0 (after ∙ kind.1))

pub returns-clause-printed : goal.returns-clause-printed
returns-clause-printed c None post dev local fits e =
    let rest = c.skip_separator.result.now in
    let kind = c.in-Some.ensures.kind in
    absurd (no_kind post dev local rest (subst (λ t. (separator : List ℕ) × IsSeparator separator × (t ≡ separator ++ rest)) e c.skip_separator.ensures) kind.0 c.in-Some.after.now c.in-Some.kind kind.1 kind.2)
returns-clause-printed c (Some p) post dev local fits e =
    let more = after_pre post dev local in
    let digits = decimal p.number ++ more in
    let number = decimal_number p.number fits in
    let digit = number_first (decimal p.number) more p.number number in
    let whole = e ∙ append_assoc (prerelease_kind_text p.kind) (decimal p.number) more in
    let kept = no_separator c.args.text.now c.skip_separator.result.now c.skip_separator.ensures (pre_no_separator p.kind digits whole) in
    let kind = c.in-Some.ensures.printed p.kind digits digit (kept ∙ whole) in
    let after = no_separator c.in-Some.after.now c.skip_separator-2.result.now c.skip_separator-2.ensures (number_no_separator c.in-Some.after.now (ap (starts is_ascii_digit) kind.1 ∙ digit)) in
    let found = c.in_ok-number.ensures.found (decimal p.number) more p.number number (pre_ends post dev local).0.0 (after ∙ kind.1) in
    ((λ i. Some (record { kind = kind.0 i; number = found.0 i })), found.1)
