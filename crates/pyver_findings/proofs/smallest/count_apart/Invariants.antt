use Rattle.std.proofs.Common.{◌≡◌, ◌++◌, ◌-◌, ◌<◌, ◌≤◌, false, length, map, take, true}
use Rattle.pyver_findings.specs.Conflicts.{have_none}
use Rattle.pyver_findings.specs.Views.{demand_of}
use Rattle.pyver_findings.proofs.smallest.count_apart.Given as goal

abbrev pub invariant-loop-low : goal.invariant-loop-low
invariant-loop-low l =
    (l.low ≤ l.high) × (l.high ≤ length l.lines) × (have_none (map (λ x. demand_of x.now) (take l.high l.lines) ++ map (λ x. demand_of x.now) l.kept) ≡ true)
    × (0 < l.low → have_none (map (λ x. demand_of x.now) (take (l.low - 1) l.lines) ++ map (λ x. demand_of x.now) l.kept) ≡ false)

abbrev pub decreases-loop-low : goal.decreases-loop-low
decreases-loop-low l = l.high - l.low
