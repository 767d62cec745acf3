use Rattle.std.proofs.Common.{◌∙◌, ◌==◌, ◌∷◌, [], Bool, IfOk, ◌≡◌, codes, not, true, sym, subst, if◌then◌else◌}
use Rattle.std.specs.List.{prefix_len}
use Rattle.pyver_findings.specs.FileLines.{NoRequirement}
use Rattle.pyver_findings.specs.LineMeanings.{has_extras}
use Rattle.pyver_findings.specs.Views.{AddsFindings, file_line_of}
use Rattle.pyver_findings.proofs.constraints.push_extras_fault.Goals as goal

pub returns : goal.returns
returns c =
    let line = file_line_of c.args.line.now in
    let requirement = c.args.requirement.now in
    let holds : has_extras requirement ≡ true = sym c.has_extras.ensures ∙ c.if-not-has_extras.false in
    subst (λ (b : Bool). IfOk c.push_fault.result (λ _. AddsFindings c.args.findings.now.items c.push_fault.new.findings.items
    (if b then NoRequirement line (codes "constraints cannot have extras") (prefix_len (λ x. not (x == 91)) requirement) ∷ [] else []))) (sym holds)
    (rw c.count_before_bracket-column.ensures.count at c.push_fault.ensures)
