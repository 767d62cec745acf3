use Rattle.std.proofs.Common.{◌≡◌, ◌++◌}
use Rattle.std.proofs.lemmas.Result.{IfOk-weaker}
use Rattle.pyver_findings.specs.ReportTexts.{left_out_text, left_out_lines}
use Rattle.pyver_requirements.specs.declared.cause.Cause.TheVariants as cause
use Rattle.pyver_requirements.proofs.Grouped.{six_parts}
use Rattle.pyver_findings.proofs.report_text.push_lines_left_out.Goals as goal

pub returns : goal.returns
returns c =
    let text = left_out_text c.args.causes.now in
    IfOk-weaker c.push_left_out-6.result (λ _. c.push_left_out-6.new.bytes.items ≡ c.push_left_out-5.new.bytes.items ++ text cause.OtherSyntax) (λ _. c.push_left_out-6.new.bytes.items ≡ c.args.bytes.now.items ++ left_out_lines c.args.causes.now)
    (λ _ e. six_parts c.args.bytes.now.items (text cause.Editable) (text cause.PipOption) (text cause.Variable) (text cause.Location) (text cause.Url) (text cause.OtherSyntax) c.push_left_out.new.bytes.items c.push_left_out-2.new.bytes.items
    c.push_left_out-3.new.bytes.items c.push_left_out-4.new.bytes.items c.push_left_out-5.new.bytes.items c.push_left_out-6.new.bytes.items c.in_ok-push_left_out.ensures c.in_ok-push_left_out-2.ensures c.in_ok-push_left_out-3.ensures
    c.in_ok-push_left_out-4.ensures c.in_ok-push_left_out-5.ensures e)
    c.push_left_out-6.ensures
