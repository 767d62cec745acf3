use Rattle.pyver_documents.proofs.Walks.{read_all, read_more}
use Rattle.pyver_documents.specs.DocumentViews.{extra_reading_of}
use Rattle.pyver_documents.specs.Meanings.{IsExtraReading}
use Rattle.pyver_locks.specs.LockContents.{locked_extra_of}
use Rattle.pyver_documents.proofs.document_reading.read_extras.Goals as goal

pub loop-extra-preserved : goal.loop-extra-preserved
loop-extra-preserved c =
    read_more locked_extra_of extra_reading_of (IsExtraReading c.args.file.now) c.args.extras.now c.loop-extra.extra-index c.extra-item.result c.loop-extra.readings.items c.push.new.self.items
    c.in_ok-read_extra.field-0 c.loop-extra-test.true c.extra-item.is c.in_ok-push.ensures.items c.in_ok-read_extra.ensures c.loop-extra.invariant

pub returns : goal.returns
returns c =
    read_all locked_extra_of extra_reading_of (IsExtraReading c.args.file.now) c.args.extras.now c.loop-extra.extra-index c.loop-extra.readings.items c.loop-extra-test.false c.loop-extra.invariant
