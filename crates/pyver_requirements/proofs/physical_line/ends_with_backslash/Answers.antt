use Rattle.std.proofs.Common.{◌==◌, sym, arith}
use Rattle.pep440_rs.proofs.Blanks.{ends_last}
use Rattle.pyver_requirements.proofs.physical_line.ends_with_backslash.Goals as goal

pub returns-in-len1-up : goal.returns-in-len1-up
returns-in-len1-up c = sym (ends_last (λ b. b == 92) c.args.line.now 0 (omega arith))
