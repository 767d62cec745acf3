use Rattle.std.proofs.Common.{bytes_eq}
use Rattle.std.proofs.lemmas.Map.Text.{hash_map_updates_str}
use Rattle.std.specs.HashMap.{get_by}
use Rattle.pyver_findings.proofs.LackedHashes.{inserted}
use Rattle.pyver_findings.proofs.hashes.insert_if.Goals as goal

pub returns-in_ok-insert : goal.returns-in_ok-insert
returns-in_ok-insert c =
    let names = c.args.names.now in
    let name = c.args.name.now in
    λ q. inserted name q _ (get_by (λ k. bytes_eq q k.now) names) _ c.args.holds c.if-holds.true (hash_map_updates_str name names c.insert.new.self _ c.in_ok-insert.ensures.updates q)
