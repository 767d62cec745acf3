use Rattle.std.proofs.Common.{◌≡◌, ◌++◌, ◌∷◌, ◌∙◌, [], Bor, ap, arith, bytes_eq, map, if◌then◌else◌}
use Rattle.std.proofs.lemmas.List.{append-nil, map-append}
use Rattle.std.proofs.lemmas.Map.Text.{hash_map_updates_str}
use Rattle.std.specs.HashMap.{get_by}
use Rattle.std.specs.Option.{option_map_or}
use Rattle.pyver_projects.specs.ProjectStrings.{inclusion_of}
use Rattle.pyver_projects.specs.declared.inclusions.Inclusion.{Inclusion as InclusionValue}
use Rattle.pyver_requirements.proofs.Grouped.{added}
use Rattle.pyver_projects.proofs.inclusions.push_to_group.Goals as goal

pub returns : goal.returns
returns c =
    let inclusion = c.args.inclusion.now in
    let view = λ (x : Bor InclusionValue). inclusion_of x.now in
    let more : map view c.push.new.self.items ≡ map view (option_map_or (λ v. v.items) c.remove.result []) ++ inclusion_of inclusion ∷ [] = grind (arith, map-append, append-nil) in
    let name = c.as_slice-name.result.now in
    λ q. added (λ g. map view (option_map_or (λ v. v.items) g [])) name q (inclusion_of inclusion) (λ cs. get_by (λ k. bytes_eq cs k.now) c.args.groups.now) (λ cs. get_by (λ k. bytes_eq cs k.now) c.remove.new.self)
    (λ cs. get_by (λ k. bytes_eq cs k.now) c.insert.new.self) c.remove.result c.push.new.self c.remove.ensures.value more (hash_map_updates_str name c.args.groups.now c.remove.new.self _ c.remove.ensures.updates q)
    (hash_map_updates_str name c.remove.new.self c.insert.new.self _ c.in_ok-insert.ensures.updates q)
    ∙ ap (λ n. map view (option_map_or (λ v. v.items) (get_by (λ k. bytes_eq q k.now) c.args.groups.now) []) ++ (if bytes_eq q n then inclusion_of inclusion ∷ [] else [])) c.as_slice-name.ensures.value
