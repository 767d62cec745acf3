use Rattle.pyver_documents.proofs.Walks.{read_all, read_more}
use Rattle.pyver_documents.specs.DocumentViews.{locked_reading_of}
use Rattle.pyver_documents.specs.Meanings.{IsLockedReading}
use Rattle.pyver_locks.specs.LockContents.{locked_of}
use Rattle.pyver_documents.proofs.locked_reading.read_packages.Goals as goal

pub loop-locked-preserved : goal.loop-locked-preserved
loop-locked-preserved c =
    read_more locked_of locked_reading_of (IsLockedReading c.args.file.now) c.args.packages.now c.loop-locked.locked-index c.locked-item.result c.loop-locked.readings.items c.push.new.self.items c.in_ok-read_package.field-0
    c.loop-locked-test.true c.locked-item.is c.in_ok-push.ensures.items c.in_ok-read_package.ensures c.loop-locked.invariant

pub returns : goal.returns
returns c = read_all locked_of locked_reading_of (IsLockedReading c.args.file.now) c.args.packages.now c.loop-locked.locked-index c.loop-locked.readings.items c.loop-locked-test.false c.loop-locked.invariant
