use Rattle.std.proofs.Common.{◌∙◌, ap, map, subst, sym}
use Rattle.std.specs.List.{All}
use Rattle.pyver_documents.proofs.Holding.{sound_part}
use Rattle.pyver_documents.specs.DocumentViews.{string_reading_of}
use Rattle.pyver_documents.specs.Together.{part_demands, project_domain}
use Rattle.pyver_findings.specs.Demands.{IsSound}
use Rattle.pyver_findings.specs.MarkedConflicts.{FindsOfNames}
use Rattle.pyver_findings.specs.Views.{AddsFound, demand_of}
use Rattle.pyver_markers.specs.Conditions.{Domain}
use Rattle.pyver_projects.specs.ProjectStrings.{inclusions_of, section_of}
use Rattle.pyver_documents.proofs.together.push_part_conflicts.Goals as goal

pub push_conflicts-requires : goal.push_conflicts-requires
push_conflicts-requires c =
    subst (λ xs. All IsSound (map demand_of xs)) (sym c.as_slice.ensures.value)
    (subst (All IsSound) (sym c.in_ok-demands.ensures) (sound_part c.args.project.now.together (map (λ n. n.items) c.args.project.now.overridden.now) (inclusions_of c.args.project.now.inclusions) (inclusions_of c.args.project.now.extras) (section_of c.args.part.now) (map string_reading_of c.args.project.now.strings.now) c.requires.sound))

pub returns : goal.returns
returns c =
    let xs = map string_reading_of c.args.project.now.strings.now in
    subst (λ l. AddsFound (FindsOfNames (project_domain xs) l) c.args.findings.now.items c.push_conflicts.new.findings.items c.args.left_out.now.items c.push_conflicts.new.left_out.items)
    (ap (map demand_of) c.as_slice.ensures.value ∙ c.in_ok-demands.ensures ∙ (λ j. part_demands c.args.project.now.together (map (λ n. n.items) c.args.project.now.overridden.now) (c.requires.known j) (c.requires.extras j) (section_of c.args.part.now) xs))
    (subst (λ (d : Domain). AddsFound (FindsOfNames d (map demand_of c.as_slice.result.now)) c.args.findings.now.items c.push_conflicts.new.findings.items c.args.left_out.now.items c.push_conflicts.new.left_out.items)
    c.project_domain-domain.ensures c.in_ok-push_conflicts.ensures)
