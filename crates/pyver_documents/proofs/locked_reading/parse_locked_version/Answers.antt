use Rattle.std.proofs.Common.{IfSome, Option, subst, sym, ◌∙◌}
use Rattle.pep440_version.specs.Errors.{error_rejection}
use Rattle.pep440_version.specs.Rejections.{Rejection, Rejects}
use Rattle.pyver_documents.proofs.Walks.{refusal}
use Rattle.pyver_documents.proofs.locked_reading.parse_locked_version.Goals as goal

pub returns-in-Err-2 : goal.returns-in-Err-2
returns-in-Err-2 c =
    let f = refusal (error_rejection c.in-Err.error) (sym c.is_out_of_memory.ensures ∙ c.if-is_out_of_memory.false) in
    (f.0, subst (λ (o : Option Rejection). IfSome o (Rejects c.args.text.now)) f.1 c.in-Err.ensures.refused)
