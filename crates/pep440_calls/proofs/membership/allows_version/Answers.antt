use Rattle.pep440_calls.proofs.Allowed.{allows_final, allows_none, allows_taken}
use Rattle.pep440_calls.proofs.membership.allows_version.Goals as goal

pub returns-then-not-held-clause-found : goal.returns-then-not-held-clause-found
returns-then-not-held-clause-found c = allows_none c.args.set.now c.args.version.now c.args.prereleases c.in_ok-held.held c.in_ok-held.is_prerelease c.requires.set c.requires.asked c.requires.version c.in_ok-held.ensures.found c.if-not-held.true

pub returns-then-not-is_prerelease-clause-found : goal.returns-then-not-is_prerelease-clause-found
returns-then-not-is_prerelease-clause-found c = allows_final c.args.set.now c.args.version.now c.args.prereleases c.in_ok-held.held c.in_ok-held.is_prerelease c.requires.set c.requires.asked c.requires.version c.in_ok-held.ensures.found c.if-not-held.false c.if-not-is_prerelease.true

pub returns-clause-found : goal.returns-clause-found
returns-clause-found c = allows_taken c.args.set.now c.args.version.now c.args.prereleases c.in_ok-held.held c.in_ok-held.is_prerelease c.requires.set c.requires.asked c.requires.version c.in_ok-held.ensures.found c.if-not-held.false c.if-not-is_prerelease.false c.takes.result c.takes.ensures.found
