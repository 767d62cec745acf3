use Rattle.std.proofs.Common.{◌≡◌, drop}
use Rattle.pep440_keys.specs.SortKeys.{trim_leading_zeros}
use Rattle.pep440_keys.proofs.number_bytes.skip_leading_zeros.Given as goal

abbrev pub invariant-loop-i : goal.invariant-loop-i
invariant-loop-i l = trim_leading_zeros (drop l.i l.bytes) ≡ trim_leading_zeros l.bytes
