use Rattle.std.proofs.Common.{◌≡◌, ◌∙◌, Some, ap, bytes_eq, cond, is_some}
use Rattle.std.proofs.lemmas.Map.Text.{hash_map_updates_str}
use Rattle.std.specs.HashMap.{get_by}
use Rattle.pyver_projects.proofs.Walks.{counted_more}
use Rattle.pyver_projects.proofs.inclusions.NameIndex.new.Goals as goal

pub loop-name-preserved : goal.loop-name-preserved
loop-name-preserved c =
    let map = c.loop-name.repeated in
    let name = c.name-item.result.items in
    let known : c.contains_key-is_known.result ≡ is_some (get_by (λ k. bytes_eq name k.now) map) = c.contains_key-is_known.ensures ∙ ap (λ n. is_some (get_by (λ k. bytes_eq n k.now) map)) c.as_slice.ensures.value in
    λ q. counted_more (λ n. n.items) c.args.names.now c.loop-name.name-index c.name-item.result q (get_by (λ k. bytes_eq q k.now) map) _ (get_by (λ k. bytes_eq name k.now) map) c.loop-name-test.true c.name-item.is
    (c.loop-name.invariant q) (c.loop-name.invariant name)
    (hash_map_updates_str c.as_slice-in-loop-name.result.now map c.insert.new.self _ c.in_ok-insert.ensures.updates q
    ∙ ap (λ n. cond (bytes_eq n q) (Some c.contains_key-is_known.result) (get_by (λ k. bytes_eq q k.now) map)) c.as_slice-in-loop-name.ensures.value
    ∙ ap (λ b. cond (bytes_eq name q) (Some b) (get_by (λ k. bytes_eq q k.now) map)) known)
