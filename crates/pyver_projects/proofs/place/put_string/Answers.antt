use Rattle.std.proofs.Common.{Some}
use Rattle.std.proofs.lemmas.Map.Text.{btree_map_updates_str}
use Rattle.pyver_projects.proofs.place.put_string.Goals as goal

pub returns-in_ok-insert : goal.returns-in_ok-insert
returns-in_ok-insert c = rw c.in-Some.is (btree_map_updates_str c.in-Some.string.now c.args.numbers.now c.insert.new.self (Some c.args.number) c.in_ok-insert.ensures.updates)
