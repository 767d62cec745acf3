use Rattle.std.proofs.Common.{Bor, List, ℕ, map, rules}
use Rattle.std.proofs.lemmas.Fn.{always_returns_same}
use Rattle.std.proofs.lemmas.List.Sorted.{ranks_by}
use Rattle.std.specs.Ordering.{is_lt}
use Rattle.pep440_calls.proofs.Placed.{arranged_if, entry_total}
use Rattle.pep440_calls.proofs.batch.sort_positions.Goals as goal
use Rattle.pep440_calls.specs.Batches.{entry_cmp}
use Rattle.pep440_calls.specs.declared.batch.Entry.{Entry}

pub returns : goal.returns
returns c versions parsed same =
    let keys : List (List ℕ) = map (λ (k : Bor (List ℕ)). k.now) c.args.keys.now in
    let total = ranks_by (entry_total keys) (λ (e : Entry). e) in
    let rises = c.sort_unstable_by.ensures.sorted (λ (x y : Entry). is_lt (entry_cmp keys x y)) total (always_returns_same _ _ _ (λ a r f k. search rules)) in
    arranged_if versions keys same _ c.in_ok-entries.entries.items c.sort_unstable_by.new.self.items c.collect_positions.result parsed c.in_ok-entries.ensures c.sort_unstable_by.ensures.permutation
    rises c.as_slice.result.now c.as_slice.ensures.value c.collect_positions.ensures
