use Rattle.std.proofs.Common.{◌≡◌, drop}
use Rattle.pep440_pick.specs.Newest.{all_contain}
use Rattle.pep440_pick.proofs.candidates.all_contain.Given as goal

abbrev pub invariant-loop-list : goal.invariant-loop-list
invariant-loop-list l = all_contain l.lists l.version ≡ all_contain (drop l.list-index l.lists) l.version
