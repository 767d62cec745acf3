use Rattle.pep440_version.proofs.Reading.Agreement.{opening_ends, opening_some}
use Rattle.pep440_version.proofs.Reading.WithoutMemory.{opened_too}
use Rattle.pep440_version.proofs.parse.parse_whole_pattern.Goals as goal

pub parse_after_release-requires-clause-some : goal.parse_after_release-requires-clause-some
parse_after_release-requires-clause-some c = opening_some c.args.text.now _ c.in_ok-epoch.ensures.reads

pub parse_after_release-requires-clause-at_end : goal.parse_after_release-requires-clause-at_end
parse_after_release-requires-clause-at_end c = opening_ends c.args.text.now _ c.in_ok-epoch.ensures.reads

pub build_star_version-requires : goal.build_star_version-requires
build_star_version-requires c = opening_some c.args.text.now _ c.in_ok-epoch.ensures.reads

pub returns-in_err-epoch-clause-memory : goal.returns-in_err-epoch-clause-memory
returns-in_err-epoch-clause-memory c = λ x e fits.
    let o = opened_too c.args.text.now x e fits in
    cc (c.in_err-epoch.ensures.memory o.0 o.1 o.2)
