use Rattle.pyver_documents.specs.DocumentViews.{locked_reading_of}
use Rattle.pyver_documents.specs.Meanings.{LockedReading}
use Rattle.pyver_requirements.proofs.Grouped.{grouped_more}
use Rattle.pyver_documents.proofs.lock_comparison.PackageIndex.new.Goals as goal

pub loop-locked-preserved : goal.loop-locked-preserved
loop-locked-preserved c =
    λ q. grouped_more locked_reading_of (λ (y : LockedReading). y.name) q c.args.packages.now c.loop-locked.locked-index c.locked-item.result _ _ c.loop-locked-test.true c.locked-item.is (c.in_ok-push_to_group.ensures q) (c.loop-locked.invariant q)
