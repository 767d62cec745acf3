use Rattle.pep440_calls.proofs.Allowed.{marked_of_form}
use Rattle.pep440_calls.proofs.batch.string_mark.Goals as goal

pub returns-in-Ok : goal.returns-in-Ok
returns-in-Ok c list means =
    marked_of_form list c.args.text.now c.in-Ok.compiled.now c.compiled_mark.result c.in-Ok.ensures.found (c.compiled_mark.ensures list means)
