use Rattle.std.proofs.Common.{◌≡◌}
use Rattle.pep440_version.specs.ErrorTexts.{rejection_text}
use Rattle.pep440_version.specs.Errors.{error_rejection}
use Rattle.pep440_version.specs.Grammar.{Derives}
use Rattle.pep440_version.specs.Record.{Record}
use Rattle.pyver_documents.proofs.Walks.{version_read}
use Rattle.pyver_findings.specs.FileLines.{NoRequirement}
use Rattle.pyver_findings.specs.LineMeanings.{AsksNothing, IsNone}
use Rattle.pyver_findings.specs.Views.{file_line_of, line_meaning_of}
use Rattle.pyver_documents.proofs.document_reading.parse_version.Goals as goal

pub returns : goal.returns
returns c =
    version_read c.reject_version.result (error_rejection c.in-Err.error) c.args.text.now (λ x. (r : Record) × Derives c.args.text.now r × (line_meaning_of x ≡ AsksNothing))
    (λ f x. line_meaning_of x ≡ IsNone (NoRequirement (file_line_of c.args.line.now) (rejection_text f) 0)) c.in-Err.ensures.refused c.reject_version.ensures
