use Rattle.pep440_calls.proofs.Allowed.{allows_of_form, fault_named}
use Rattle.pep440_calls.proofs.membership.allows_string.Goals as goal

pub returns-in-Ok-clause-found : goal.returns-in-Ok-clause-found
returns-in-Ok-clause-found c =
    let is = c.in-Ok.ensures.found in
    allows_of_form c.args.set.now c.args.text.now c.in-Ok.form.now c.args.prereleases c.requires.set is.0 is.1 is.2 c.allows_form.result c.allows_form.ensures.found

pub returns-clause-found : goal.returns-clause-found
returns-clause-found c = fault_named c.args.set.now c.args.text.now c.args.prereleases c.name_fault.result (c.name_fault.ensures.fault c.args.text.now c.in-Err.ensures.found)
