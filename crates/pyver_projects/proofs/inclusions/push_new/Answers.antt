use Rattle.std.proofs.Common.{◌||◌, ◌∙◌, ap, bytes_eq, map, sym}
use Rattle.std.proofs.lemmas.Map.Text.{hash_map_updates_str}
use Rattle.std.specs.List.{list_any}
use Rattle.pyver_projects.proofs.Walks.{found_more, new_name}
use Rattle.pyver_projects.specs.ProjectStrings.{has_key}
use Rattle.pyver_projects.proofs.inclusions.push_new.Goals as goal

pub returns-in_ok-push-clause-names : goal.returns-in_ok-push-clause-names
returns-in_ok-push-clause-names c =
    let name = c.args.name.now in
    λ q. new_name q name _ _ _ (hash_map_updates_str name c.args.names.now c.insert.new.self _ c.in_ok-insert.ensures.updates q)

pub returns-in_ok-push-clause-found : goal.returns-in_ok-push-clause-found
returns-in_ok-push-clause-found c =
    let name = c.args.name.now in
    λ before was q.
    found_more (λ n. n.now) q c.args.name c.args.found.now.items (before q) (has_key c.args.names.now q) (has_key c.insert.new.self q)
    (new_name q name _ _ _ (hash_map_updates_str name c.args.names.now c.insert.new.self _ c.in_ok-insert.ensures.updates q)) (was q)
    ∙ ap (λ xs. before q || list_any (bytes_eq q) (map (λ n. n.now) xs)) (sym c.in_ok-push.ensures.items)
