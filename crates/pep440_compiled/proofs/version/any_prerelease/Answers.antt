use Rattle.std.proofs.Common.{ap}
use Rattle.std.specs.Prelude.{Ok}
use Rattle.pep440_compiled.proofs.version.any_prerelease.Goals as goal

pub returns-in-Some-clause-found : goal.returns-in-Some-clause-found
returns-in-Some-clause-found c r d = ap Ok (c.in-Some.ensures.found r d).is_prerelease
