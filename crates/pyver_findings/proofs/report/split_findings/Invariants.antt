use Rattle.std.proofs.Common.{◌≡◌, ◌++◌, map, not}
use Rattle.std.specs.List.{filter}
use Rattle.std.specs.Vec.Iter.{into_iter_items}
use Rattle.pyver_findings.specs.Reports.{is_ignored}
use Rattle.pyver_findings.specs.Views.{finding_of}
use Rattle.pyver_findings.proofs.report.split_findings.Given as goal

abbrev pub invariant-loop-finding : goal.invariant-loop-finding
invariant-loop-finding l = record {
  left : map finding_of l.left.items ++ filter (λ f. not (is_ignored f)) (map finding_of (into_iter_items l.finding-iterator))
      ≡ filter (λ f. not (is_ignored f)) (map finding_of (into_iter_items l.initial.finding-iterator));
  ignored : map finding_of l.ignored.items ++ filter is_ignored (map finding_of (into_iter_items l.finding-iterator))
      ≡ map finding_of l.initial.ignored.items ++ filter is_ignored (map finding_of (into_iter_items l.initial.finding-iterator));
}
