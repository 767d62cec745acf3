use Rattle.pyver_projects.specs.ProjectStrings.{Inclusion, inclusion_of}
use Rattle.pyver_requirements.proofs.Grouped.{grouped_more}
use Rattle.pyver_projects.proofs.inclusions.InclusionIndex.new.Goals as goal

pub loop-inclusion-preserved : goal.loop-inclusion-preserved
loop-inclusion-preserved c =
    λ q. grouped_more inclusion_of (λ (i : Inclusion). i.group) q c.args.inclusions.now c.loop-inclusion.inclusion-index c.inclusion-item.result _ _ c.loop-inclusion-test.true c.inclusion-item.is (c.in_ok-push_to_group.ensures q) (c.loop-inclusion.invariant q)
