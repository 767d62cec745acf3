use Rattle.std.proofs.Common.{◌≡◌, take}
use Rattle.pep440_sets.specs.NextVersions.{raised_release}
use Rattle.pep440_sets.proofs.next_versions.raise_numbers.Given as goal

abbrev pub invariant-loop-place : goal.invariant-loop-place
invariant-loop-place l = raised_release l.numbers ≡ raised_release (take l.place l.numbers)
