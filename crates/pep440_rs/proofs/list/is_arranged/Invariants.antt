use Rattle.std.proofs.Common.{◌≡◌, ◌<◌, ◌+◌, ℕ, false, get_or}
use Rattle.std.specs.Ordering.{is_lt}
use Rattle.pep440_rs.specs.Arrangement.{version_cmp}
use Rattle.pep440_rs.specs.Specifiers.{Spec}
use Rattle.pep440_rs.proofs.list.is_arranged.Given as goal

abbrev pub invariant-loop-i : goal.invariant-loop-i
invariant-loop-i l = (k : ℕ) (d : Spec) → k + 1 < l.i → is_lt (version_cmp (get_or l.members (k + 1) d) (get_or l.members k d)) ≡ false
