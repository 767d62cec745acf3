use Rattle.std.proofs.Common.{◌≡◌, Bool, IfOk, List, map, subst, ℕ}
use Rattle.std.specs.List.{flat_map}
use Rattle.pyver_documents.specs.DocumentViews.{string_reading_of}
use Rattle.pyver_documents.specs.Together.{demand_in_part, has_extra, has_group}
use Rattle.pyver_findings.specs.Views.{demand_of}
use Rattle.pyver_projects.specs.ProjectStrings.{has_key, inclusions_of, section_of}
use Rattle.pyver_documents.proofs.together.part_demands.Goals as goal

pub returns : goal.returns
returns c =
    let project = c.args.project.now in
    let part = section_of c.args.part.now in
    let groups : has_key c.in_ok-part_groups.field-0 ≡ has_group (inclusions_of project.inclusions) part = λ j q. c.in_ok-part_groups.ensures q j in
    let extras : has_key c.in_ok-part_extras.field-0 ≡ has_extra (inclusions_of project.extras) part = λ j q. c.in_ok-part_extras.ensures q j in
    subst (λ (p : (List ℕ → Bool) × (List ℕ → Bool)). IfOk c.demands_of_part.result (λ demands. map demand_of demands.items ≡ flat_map (demand_in_part project.together (map (λ n. n.items) project.overridden.now) p.0 p.1 part) (map string_reading_of project.strings.now)))
    (λ j. (groups j, extras j)) c.demands_of_part.ensures
