use Rattle.pyver_documents.proofs.Walks.{read_all, read_more}
use Rattle.pyver_documents.specs.Meanings.{IsFileReading}
use Rattle.pyver_findings.specs.Views.{line_meaning_of}
use Rattle.pyver_locks.specs.LockContents.{locked_file_of}
use Rattle.pyver_documents.proofs.locked_reading.read_files.Goals as goal

pub loop-locked-preserved : goal.loop-locked-preserved
loop-locked-preserved c =
    read_more locked_file_of line_meaning_of (IsFileReading c.args.name.now) c.args.files.now c.loop-locked.locked-index c.locked-item.result c.loop-locked.readings.items c.push.new.self.items c.in_ok-read_file.field-0
    c.loop-locked-test.true c.locked-item.is c.in_ok-push.ensures.items c.in_ok-read_file.ensures c.loop-locked.invariant

pub returns : goal.returns
returns c = read_all locked_file_of line_meaning_of (IsFileReading c.args.name.now) c.args.files.now c.loop-locked.locked-index c.loop-locked.readings.items c.loop-locked-test.false c.loop-locked.invariant
