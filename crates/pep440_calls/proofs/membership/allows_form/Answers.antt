use Rattle.pep440_calls.proofs.Allowed.{allows_soon}
use Rattle.pep440_calls.proofs.membership.allows_form.Goals as goal

pub returns-in-Some-clause-found : goal.returns-in-Some-clause-found
returns-in-Some-clause-found c =
    let soon = rw c.in-Some.is at c.set_contains_soon.ensures in
    allows_soon c.args.set.now c.args.version.now c.args.prereleases c.in-Some.found soon.format.0 soon.format.1 soon.found soon.prerelease
