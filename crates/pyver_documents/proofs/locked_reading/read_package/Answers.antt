use Rattle.std.proofs.Common.{option_map}
use Rattle.std.proofs.lemmas.Result.{IfOk-weaker}
use Rattle.pyver_documents.proofs.Walks.{locked_so}
use Rattle.pyver_documents.specs.DocumentViews.{locked_reading_of}
use Rattle.pyver_documents.specs.Meanings.{IsLockedReading, IsVersionReading}
use Rattle.pyver_findings.specs.Views.{file_line_of}
use Rattle.pyver_locks.specs.LockContents.{locked_of}
use Rattle.pyver_locks.specs.KnownEnvironments.{read_condition_of}
use Rattle.pyver_documents.proofs.locked_reading.read_package.Goals as goal

pub returns : goal.returns
returns c =
    let p = locked_of c.args.locked.now in
    let line = file_line_of c.in_ok-line.line in
    let condition = option_map read_condition_of c.in_ok-condition.condition in
    IfOk-weaker c.read_package_version.result (λ y. IsVersionReading line p.name condition p.version (locked_reading_of y)) (λ y. IsLockedReading c.args.file.now p (locked_reading_of y))
    (λ y read. locked_so c.args.file.now p line condition (locked_reading_of y) c.in_ok-line.ensures c.in_ok-condition.ensures read) c.read_package_version.ensures
