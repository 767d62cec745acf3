use Rattle.std.proofs.Common.{◌≡◌, ◌++◌, ◌∷◌, [], Bor, arith, bytes_eq, map}
use Rattle.std.proofs.lemmas.List.{append-nil, map-append}
use Rattle.std.proofs.lemmas.Map.Text.{hash_map_updates_str}
use Rattle.std.specs.HashMap.{get_by}
use Rattle.std.specs.Option.{option_map_or}
use Rattle.pyver_findings.specs.Views.{demand_of}
use Rattle.pyver_findings.specs.declared.demand.Demand.{Demand as DemandValue}
use Rattle.pyver_requirements.proofs.Grouped.{added}
use Rattle.pyver_findings.proofs.key_groups.push_to_group.Goals as goal

pub returns : goal.returns
returns c =
    let line = c.args.line.now in
    let view = λ (x : Bor DemandValue). demand_of x.now in
    let more : map view c.push.new.self.items ≡ map view (option_map_or (λ v. v.items) c.remove.result []) ++ demand_of line ∷ [] = grind (arith, map-append, append-nil) in
    let name = c.args.key.now in
    λ q. added (λ g. map view (option_map_or (λ v. v.items) g [])) name q (demand_of line) (λ cs. get_by (λ k. bytes_eq cs k.now) c.args.groups.now) (λ cs. get_by (λ k. bytes_eq cs k.now) c.remove.new.self)
    (λ cs. get_by (λ k. bytes_eq cs k.now) c.insert.new.self) c.remove.result c.push.new.self c.remove.ensures.value more (hash_map_updates_str name c.args.groups.now c.remove.new.self _ c.remove.ensures.updates q)
    (hash_map_updates_str name c.remove.new.self c.insert.new.self _ c.in_ok-insert.ensures.updates q)
