use Rattle.std.proofs.Common.{◌∙◌, ap, inr}
use Rattle.pep440_calls.proofs.Once.{one_bytes_list}
use Rattle.pep440_calls.proofs.one_list.requests_prereleases.Goals as goal
use Rattle.pep440_rs.specs.Prereleases.{requests_prereleases}

pub returns-clause-found : goal.returns-clause-found
returns-clause-found c =
    let means = c.in_ok-specifiers.ensures in (
      inr (c.in_ok-specifiers.specifiers, means),
      λ list also. c.requests_prereleases.ensures ∙ ap requests_prereleases (one_bytes_list c.args.list.now c.in_ok-specifiers.specifiers list means also),
    )
