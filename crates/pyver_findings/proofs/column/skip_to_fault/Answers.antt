use Rattle.std.proofs.Common.{◌∙◌, ap, drop}
use Rattle.std.proofs.lemmas.Option.{IfSome_then}
use Rattle.std.specs.Char.{is_ascii_whitespace}
use Rattle.pep440_version.specs.Reading.{past}
use Rattle.pep440_rs.proofs.Blanks.{start_trimmed}
use Rattle.pep440_rs.specs.Lists.ListResults.{list_kind_of}
use Rattle.pep440_rs.specs.Lists.ListErrors.{list_rejection_of}
use Rattle.pyver_findings.specs.LineMeanings.{behind_operator}
use Rattle.pyver_findings.proofs.column.skip_to_fault.Goals as goal

pub returns : goal.returns
returns c =
    IfSome_then (list_rejection_of (list_kind_of c.args.error.now)) c.piece_start.ensures
    (λ f is. c.skip_operator.ensures ∙ ap behind_operator (start_trimmed c.skip_bytes.result.now c.trim_ascii_start.result.now c.trim_ascii_start.ensures.value ∙ ap (past is_ascii_whitespace) (c.skip_bytes.ensures ∙ ap (λ n. drop n c.args.text.now) is)))
