use Rattle.std.proofs.Common.{sym, length, ◌-◌, arith}
use Rattle.pep440_rs.proofs.Raising.LastRaised.{without_last_take}
use Rattle.pep440_sets.proofs.convert.without_last.Goals as goal

pub returns : goal.returns
returns c = sym (without_last_take c.args.release.now (length c.args.release.now - 1) (omega arith))
