use Rattle.std.proofs.Common.{false}
use Rattle.pep440_version.specs.Whole.{read_pattern}
use Rattle.pep440_version.proofs.Reading.Agreement.{opening_ends, opening_some, version_is}
use Rattle.pep440_version.proofs.Reading.WithoutMemory.{opened_too}
use Rattle.pep440_version.proofs.version.Version.parse_whole.Goals as goal

pub parse_after_release-requires-clause-some : goal.parse_after_release-requires-clause-some
parse_after_release-requires-clause-some c = opening_some c.args.text.now _ c.in_ok-epoch.ensures.reads

pub parse_after_release-requires-clause-at_end : goal.parse_after_release-requires-clause-at_end
parse_after_release-requires-clause-at_end c = opening_ends c.args.text.now _ c.in_ok-epoch.ensures.reads

pub returns-in_err-epoch-clause-memory : goal.returns-in_err-epoch-clause-memory
returns-in_err-epoch-clause-memory c = λ r e fits.
    let o = opened_too c.args.text.now (r, false) (version_is (read_pattern c.args.text.now) r e) fits in
    cc (c.in_err-epoch.ensures.memory o.0 o.1 o.2)
