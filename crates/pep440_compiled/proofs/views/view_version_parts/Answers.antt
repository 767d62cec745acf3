use Rattle.std.proofs.Common.{◌∙◌, [], sym}
use Rattle.std.proofs.lemmas.List.{append-nil}
use Rattle.pep440_compiled.proofs.views.view_version_parts.Goals as goal
use Rattle.pep440_compiled.specs.Version.{version_bytes}

pub returns-in_err-parts-clause-found : goal.returns-in_err-parts-clause-found
returns-in_err-parts-clause-found c r d =
    absurd (c.in_err-parts.ensures.found r [] d.parsed tt (c.in_ok-strip_format.ensures.found r d ∙ sym (append-nil (version_bytes r))))

pub returns-clause-found : goal.returns-clause-found
returns-clause-found c r d =
    (c.in_ok-parts.ensures.found r [] d.parsed tt (c.in_ok-strip_format.ensures.found r d ∙ sym (append-nil (version_bytes r)))).0
