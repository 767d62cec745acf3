use Rattle.std.proofs.Common.{arith, ◌+◌, Bor, drop, map}
use Rattle.pyver_findings.proofs.MarkedConflicts.{first_more, too_many}
use Rattle.pyver_findings.specs.Views.{demand_of}
use Rattle.pyver_findings.specs.declared.demand.Demand.{Demand as DemandValue}
use Rattle.pyver_findings.proofs.marked_conflicts.few_first_lines.Goals as goal

pub returns-then-len-gt-MOST : goal.returns-then-len-gt-MOST
returns-then-len-gt-MOST c =
    let view = λ (x : Bor DemandValue). demand_of x.now in
    let lines = c.args.lines.now in
    let at = c.loop-line.line-index in
    let firsts = c.push_first.new.firsts.items in
    too_many view firsts (map view (drop (at + 1) lines)) (map view lines)
    (first_more view lines at c.line-item.result (map view c.loop-line.firsts.items) (map view firsts) _ c.loop-line-test.true c.line-item.is c.in_ok-push_first.ensures c.loop-line.invariant.0)
    (omega (arith, c.len.ensures, c.if-len-gt-MOST.true))
