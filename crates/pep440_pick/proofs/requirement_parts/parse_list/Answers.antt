use Rattle.std.proofs.Common.{refl}
use Rattle.std.proofs.lemmas.Option.{IfSome_then}
use Rattle.pep440_rs.specs.Lists.ListResults.{line_of, list_kind_of}
use Rattle.pep440_rs.specs.Lists.ListErrors.{list_rejection_of}
use Rattle.pep440_pick.specs.Requirements.{IsOfList, requirement_rejection_of}
use Rattle.pep440_pick.proofs.Whole.{of_refusal}
use Rattle.pep440_pick.proofs.requirement_parts.parse_list.Goals as goal

pub returns-in-Err-clause-refused : goal.returns-in-Err-clause-refused
returns-in-Err-clause-refused c =
    let list = c.args.parts.list.now in
    rw c.with_position.ensures.kind
    (of_refusal (list_kind_of c.in-Err.error) list (line_of c.in-Err.error) (requirement_rejection_of c.from_list_error.result) (IsOfList list) c.from_list_error.ensures.refusal c.in-Err.ensures.line
    (IfSome_then (list_rejection_of (list_kind_of c.in-Err.error)) c.in-Err.ensures.refused (λ f h. (f, h, refl))))
