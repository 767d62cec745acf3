use Rattle.std.proofs.Common.{sym, length, ◌-◌, arith}
use Rattle.pep440_rs.proofs.Raising.LastRaised.{without_last_take}
use Rattle.pep440_rs.proofs.specifier.contains.without_last.Goals as goal

pub returns-clause-value : goal.returns-clause-value
returns-clause-value c = sym (without_last_take c.args.release.now (length c.args.release.now - 1) (omega arith))
