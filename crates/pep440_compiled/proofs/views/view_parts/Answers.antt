use Rattle.std.proofs.Common.{◌∙◌}
use Rattle.pep440_compiled.proofs.Comparing.{version_split}
use Rattle.pep440_compiled.proofs.views.view_parts.Goals as goal

pub returns-in_err-release-clause-found : goal.returns-in_err-release-clause-found
returns-in_err-release-clause-found c r rest p o e = absurd (c.in_err-release.ensures.found r.epoch r.release _ (e ∙ version_split r rest))

pub returns-clause-found : goal.returns-clause-found
returns-clause-found c r rest p o e =
    let release = c.in_ok-release.ensures.found r.epoch r.release _ (e ∙ version_split r rest) in
    c.view_suffix.ensures.found r rest p o e release.0 release.1
