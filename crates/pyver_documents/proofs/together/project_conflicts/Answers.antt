use Rattle.std.proofs.Common.{◌∙◌, [], ap, map, refl, subst}
use Rattle.pyver_documents.proofs.Agreeing.{parts_found}
use Rattle.pyver_documents.specs.DocumentViews.{string_reading_of}
use Rattle.pyver_documents.specs.Together.{FindsOfPart, FindsOfParts}
use Rattle.pyver_findings.proofs.MarkedConflicts.{nothing_found}
use Rattle.pyver_findings.specs.MarkedConflicts.{FindsOfEach}
use Rattle.pyver_findings.specs.Views.{AddsFound}
use Rattle.pyver_projects.specs.ProjectStrings.{section_of}
use Rattle.pyver_documents.proofs.together.project_conflicts.Goals as goal

pub returns-then-branch : goal.returns-then-branch
returns-then-branch c =
    let xs = map string_reading_of c.args.strings.now in
    nothing_found (FindsOfParts c.args.together (map (λ n. n.items) c.args.overridden.now) xs) [] _ _ _ (c.in_ok-are_satisfiable.ensures c.if-branch.true c.args.together (map (λ n. n.items) c.args.overridden.now)) c.new.ensures.items refl

pub returns : goal.returns
returns c =
    let xs = map string_reading_of c.args.strings.now in
    parts_found c.args.together (map (λ n. n.items) c.args.overridden.now) xs c.in_ok-found.found.items c.in_ok-once.once.items c.args.left_out.now.items c.conflicts_of_parts.new.left_out.items c.in_ok-once.ensures
    (subst (λ l. AddsFound (FindsOfEach (FindsOfPart c.args.together (map (λ n. n.items) c.args.overridden.now) xs) l) [] c.in_ok-found.found.items c.args.left_out.now.items c.conflicts_of_parts.new.left_out.items)
    (ap (map section_of) c.as_slice-parts.ensures.value ∙ c.in_ok-parts.ensures) c.in_ok-found.ensures)
