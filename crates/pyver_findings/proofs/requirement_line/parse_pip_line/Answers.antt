use Rattle.std.proofs.Common.{◌∙◌, IfOk, ap, subst}
use Rattle.pyver_findings.specs.LineMeanings.{IsPartsMeaning}
use Rattle.pyver_findings.specs.Views.{file_line_of, line_meaning_of}
use Rattle.pyver_requirements.specs.LineParts.{LineParts, pip_parts}
use Rattle.pyver_findings.proofs.requirement_line.parse_pip_line.Goals as goal

pub returns : goal.returns
returns c = subst (λ (p : LineParts). IfOk c.parse_parts.result (λ x. IsPartsMeaning (file_line_of c.args.line.now) p (line_meaning_of x))) (c.split_pip_line.ensures ∙ ap pip_parts c.as_slice.ensures.value) c.parse_parts.ensures
