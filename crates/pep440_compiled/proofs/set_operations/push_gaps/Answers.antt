use Rattle.std.proofs.Common.{◌<◌, ◌++◌, length, rules}
use Rattle.std.proofs.lemmas.List.Elements.{All-from_recursion, recursion_from_All}
use Rattle.pep440_compiled.proofs.SetMerging.{after_low, all_gaps, first_gap, on_ok}
use Rattle.pep440_compiled.proofs.set_operations.push_gaps.Goals as goal
use Rattle.pep440_compiled.specs.SetBytes.{IsSized, high_bytes, low_bytes, set_bytes, sized_bytes}
use Rattle.pep440_keys.specs.RangeKeys.{segment_interval}

pub returns-in_default-clause-err : goal.returns-in_default-clause-err
returns-in_default-clause-err c s h _ =
    let some : 0 < length c.args.set.now = search rules in
    let first = first_gap c.args.set.now s some (recursion_from_All IsSized s h.sizes) h.same in
    c.in_default.ensures.found (low_bytes (segment_interval first.first)) (sized_bytes (high_bytes (segment_interval first.first)) ++ set_bytes first.more) first.sized.0 (after_low c.args.set.now s first)

pub returns-clause-ok : goal.returns-clause-ok
returns-clause-ok c s h =
    let some : 0 < length c.args.set.now = search rules in
    let first = first_gap c.args.set.now s some (recursion_from_All IsSized s h.sizes) h.same in
    let read = c.in-Some.ensures.found (low_bytes (segment_interval first.first)) (sized_bytes (high_bytes (segment_interval first.first)) ++ set_bytes first.more) first.sized.0 (after_low c.args.set.now s first) in
    on_ok c.push_gaps_after.result _ _
    (all_gaps s first.first first.more c.args.out.now.items c.push_gap_before.new.out.items c.push_gaps_after.new.out.items c.in-Some.low.now first.split read.0 c.in_ok-push_gap_before.ensures)
    (c.push_gaps_after.ensures.ok first.first.1 first.more (All-from_recursion IsSized first.more first.all) first.sized.1 read.1)

pub returns-clause-err : goal.returns-clause-err
returns-clause-err c s h =
    let some : 0 < length c.args.set.now = search rules in
    let first = first_gap c.args.set.now s some (recursion_from_All IsSized s h.sizes) h.same in
    let read = c.in-Some.ensures.found (low_bytes (segment_interval first.first)) (sized_bytes (high_bytes (segment_interval first.first)) ++ set_bytes first.more) first.sized.0 (after_low c.args.set.now s first) in
    c.push_gaps_after.ensures.err first.first.1 first.more (All-from_recursion IsSized first.more first.all) first.sized.1 read.1
