use Rattle.std.proofs.Common.{◌≡◌, ◌++◌, drop, map}
use Rattle.pyver_findings.specs.Conflicts.{specifiers_of}
use Rattle.pyver_findings.specs.Views.{demand_of}
use Rattle.pyver_findings.proofs.smallest.push_members.Given as goal

abbrev pub invariant-loop-line : goal.invariant-loop-line
invariant-loop-line l = l.members.items ++ specifiers_of (map (λ x. demand_of x.now) (drop l.line-index l.lines)) ≡ l.initial.members.items ++ specifiers_of (map (λ x. demand_of x.now) l.lines)
