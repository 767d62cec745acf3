use Rattle.std.proofs.Common.{◌≡◌, ◌+◌, None, Some, length, option_map}
use Rattle.pep440_pick.specs.Names.{normal}
use Rattle.pep440_version.specs.ErrorTexts.{rejection_text}
use Rattle.pep440_version.specs.Errors.{error_rejection}
use Rattle.pep440_version.specs.Grammar.{Derives}
use Rattle.pep440_version.specs.Record.{Record}
use Rattle.pyver_documents.proofs.Walks.{version_read}
use Rattle.pyver_documents.specs.DocumentViews.{locked_reading_of}
use Rattle.pyver_findings.specs.FileLines.{NoRequirement}
use Rattle.pyver_findings.specs.Views.{file_line_of}
use Rattle.pyver_locks.specs.LockContents.{locked_of}
use Rattle.pyver_locks.specs.KnownEnvironments.{read_condition_of}
use Rattle.pyver_documents.proofs.locked_reading.read_version.Goals as goal

pub returns-in-Err : goal.returns-in-Err
returns-in-Err c =
    let l = file_line_of c.args.line in
    let p = locked_of c.args.locked.now in
    let k = option_map read_condition_of c.args.condition in
    version_read c.reject_version.result (error_rejection c.in-Err.error) c.args.version.now
    (λ y. (r : Record) × Derives c.args.version.now r × (locked_reading_of y ≡ record { line = l; name = normal p.name; condition = k; version = Some r; invalid = None }))
    (λ f y. locked_reading_of y ≡ record { line = l; name = normal p.name; condition = k; version = None; invalid = Some (NoRequirement l (rejection_text f) (length p.name + 1)) }) c.in-Err.ensures.refused c.reject_version.ensures
