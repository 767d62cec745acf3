use Rattle.std.proofs.Common.{◌∙◌, IfOk, ap, subst}
use Rattle.pyver_findings.specs.LineMeanings.{extras_faults}
use Rattle.pyver_findings.specs.Views.{AddsFindings, file_line_of}
use Rattle.pyver_requirements.specs.LineParts.{LineParts, pip_parts}
use Rattle.pyver_findings.proofs.constraints.push_requirement_fault.Goals as goal

pub returns : goal.returns
returns c =
    subst (λ (p : LineParts). IfOk c.push_extras_fault.result (λ _. AddsFindings c.args.findings.now.items c.push_extras_fault.new.findings.items (extras_faults (file_line_of c.args.line.now) p.requirement)))
    (c.split_pip_line-parts.ensures ∙ ap pip_parts c.as_slice.ensures.value) c.push_extras_fault.ensures
