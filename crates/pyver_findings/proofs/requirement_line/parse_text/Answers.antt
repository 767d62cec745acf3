use Rattle.std.proofs.Common.{IfSome, List, ℕ, subst}
use Rattle.pep440_pick.specs.RequirementGrammar.{RejectsRequirement}
use Rattle.pep440_pick.specs.Requirements.{requirement_rejection_of}
use Rattle.pyver_findings.specs.Views.{file_line_of}
use Rattle.pyver_requirements.specs.LineKinds.{line_parts_of}
use Rattle.pyver_findings.proofs.Rejecting.{error_read}
use Rattle.pyver_findings.proofs.requirement_line.parse_text.Goals as goal

pub returns-in-Err : goal.returns-in-Err
returns-in-Err c =
    error_read c.reject_error.result (file_line_of c.args.line.now) (line_parts_of c.args.parts) c.in-Err.error.kind c.requires.plain
    (subst (λ (t : List ℕ). IfSome (requirement_rejection_of c.in-Err.error.kind) (RejectsRequirement t)) c.requires.same c.in-Err.ensures.refused) c.reject_error.ensures
