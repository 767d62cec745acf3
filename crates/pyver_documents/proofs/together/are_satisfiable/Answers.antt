use Rattle.std.proofs.Common.{◌≡◌, ◌==◌, ◌∙◌, [], ap, map, subst, sym}
use Rattle.std.specs.List.{All}
use Rattle.pyver_documents.proofs.Agreeing.{nothing_in_parts, nothing_of_all, sound_all}
use Rattle.pyver_documents.specs.DocumentViews.{string_reading_of}
use Rattle.pyver_documents.specs.Together.{all_demands}
use Rattle.pyver_findings.specs.Demands.{IsSound}
use Rattle.pyver_findings.specs.Views.{demand_of}
use Rattle.pyver_requirements.proofs.Grouped.{is_nil}
use Rattle.pyver_documents.proofs.together.are_satisfiable.Goals as goal

pub push_conflicts-requires : goal.push_conflicts-requires
push_conflicts-requires c =
    subst (λ xs. All IsSound (map demand_of xs)) (sym c.as_slice.ensures.value) (subst (All IsSound) (sym c.in_ok-demands.ensures) (sound_all (map string_reading_of c.args.strings.now) c.requires))

pub returns : goal.returns
returns c = λ is together overridden.
    let xs = map string_reading_of c.args.strings.now in
    let all = all_demands xs in
    let found = c.push_conflicts.new.findings.items in
    let left = c.push_conflicts.new.left_out.items in
    let nil : found ≡ [] = is_nil found (ap (λ n. n == 0) (sym c.push_conflicts.new.findings.ok.0) ∙ sym c.is_empty.ensures ∙ is) in
    let lines = ap (map demand_of) c.as_slice.ensures.value ∙ c.in_ok-demands.ensures in
    let (cs, finds) = nothing_of_all xs _ _ _ _ _ _ c.project_domain-domain.ensures lines c.new-findings.ensures.items nil c.in_ok-push_conflicts.ensures in
    nothing_in_parts together overridden xs (sym c.has_marker.ensures ∙ c.if-has_marker.false) (sound_all xs c.requires) cs finds
