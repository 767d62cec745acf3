use Rattle.std.proofs.Common.{List, inr}
use Rattle.pep440_calls.proofs.Forms.{Faults-weaker, contains_of_form, list_faults, never_lone}
use Rattle.pep440_calls.proofs.membership.contains_string.Goals as goal
use Rattle.pep440_calls.specs.CallResults.{RejectsSecond}
use Rattle.pep440_calls.specs.CallerBytes.{BytesDenoteList, RejectsBytes, RejectsListBytes}
use Rattle.pep440_rs.specs.Specifiers.{Spec}

pub returns-in-Ok-clause-found : goal.returns-in-Ok-clause-found
returns-in-Ok-clause-found c =
    let is = c.in-Ok.ensures.found in
    contains_of_form c.args.list.now c.args.text.now c.in-Ok.form.now c.requires.list is.0 is.1 is.2 c.contains_compiled.result c.contains_compiled.ensures.found

pub returns-clause-found : goal.returns-clause-found
returns-clause-found c =
    let list = c.args.list.now in
    let text = c.args.text.now in
    let named = c.name_fault.ensures.fault text c.in-Err.ensures.found in
    list_faults (RejectsSecond list text) list (never_lone list c.requires.list) c.name_fault.result
    (Faults-weaker (((l : List Spec) × BytesDenoteList list l) × RejectsBytes text) (RejectsListBytes list) ⊥ (RejectsSecond list text) (RejectsListBytes list) (λ h. (inr h.0, h.1)) (λ h. h) c.name_fault.result named)
