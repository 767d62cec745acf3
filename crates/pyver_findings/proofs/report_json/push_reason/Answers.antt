use Rattle.std.proofs.Common.{◌∙◌, ◌++◌, ap, append_assoc, codes}
use Rattle.std.specs.Fmt.{decimal}
use Rattle.pyver_findings.specs.ReportTexts.{json_string}
use Rattle.pyver_findings.proofs.report_json.push_reason.Goals as goal

pub returns : goal.returns
returns c =
    let reason = (rw c.as_bytes.ensures.value at c.in_ok-push_json_string.ensures) ∙ ap (λ t. t ++ json_string c.args.reason.now) c.in_ok-push_text.ensures in
    let named = c.in_ok-push_text-2.ensures ∙ ap (λ t. t ++ codes ",\"column\":") reason in
    c.in_ok-push_number.ensures ∙ ap (λ t. t ++ decimal c.args.column) named ∙ simp append_assoc
