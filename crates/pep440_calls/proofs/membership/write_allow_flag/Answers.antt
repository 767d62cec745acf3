use Rattle.std.proofs.Common.{inl, refl}
use Rattle.pep440_calls.proofs.Allowed.{allows_soon}
use Rattle.pep440_calls.proofs.membership.write_allow_flag.Goals as goal

pub returns-in-Some-clause-found : goal.returns-in-Some-clause-found
returns-in-Some-clause-found c =
    let soon = rw c.in-Some.is at c.set_contains_soon.ensures in
    inl (refl, (c.in-Some.held, allows_soon c.args.list.now c.args.text.now c.args.prereleases c.in-Some.held soon.format.0 soon.format.1 soon.found soon.prerelease, c.flag.ensures))
