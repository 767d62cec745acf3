use Rattle.std.proofs.Common.{ap, inr, refl}
use Rattle.std.specs.Prelude.{option_map}
use Rattle.pep440_version.specs.ErrorTexts.{rejection_text}
use Rattle.pep440_version.specs.Rejections.{Rejects}
use Rattle.pep440_tool.specs.Answers.{line_fault_text}
use Rattle.pep440_tool.specs.Lines.{RejectsLine, shown_version_error}
use Rattle.pep440_tool.proofs.Runs.{not_text, stopped, told}
use Rattle.pep440_tool.proofs.filter_lines.parse_line.Goals as goal

pub returns-in_err-text : goal.returns-in_err-text
returns-in_err-text c =
    let R = RejectsLine Rejects shown_version_error (c.args.line.number, c.args.line.bytes.now) in
    stopped _ R R (λ a h. h) c.in_err-text.field-0.0 (not_text Rejects shown_version_error c.args.line.number c.args.line.bytes.now c.in_err-text.field-0.0 c.in_err-text.ensures)
    c.from_residual.result c.from_residual.ensures.1

pub returns-in-Err : goal.returns-in-Err
returns-in-Err c = λ lacks.
    let f = told c.args.line.bytes.now _ _ lacks (rw c.in_ok-text.ensures.0 at c.in-Err.ensures.refused) c.in-Err.ensures.message in
    (line_fault_text c.args.line.number (rejection_text f.0), ap (option_map (line_fault_text c.args.line.number)) f.2, inr (c.in_ok-text.ensures.1, (f.0, f.1, refl)))
