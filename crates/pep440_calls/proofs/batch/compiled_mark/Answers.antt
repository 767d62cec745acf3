use Rattle.pep440_calls.proofs.Allowed.{marked_in_set}
use Rattle.pep440_calls.proofs.batch.compiled_mark.Goals as goal

pub returns-in-Some-read_membership_soon : goal.returns-in-Some-read_membership_soon
returns-in-Some-read_membership_soon c list means =
    let found = c.in-Some-read_membership_soon.ensures.found in
    let fronts = rw c.in-Some.is at c.requires.fronts in
    marked_in_set c.args.form.now c.args.version.now list found.0 c.in-Some-read_membership_soon.held c.in-Some-read_membership_soon.is_prerelease c.version_mark.result c.requires.form means found.1 found.2 (λ s h. found.3 s (fronts s h)) c.version_mark.ensures
