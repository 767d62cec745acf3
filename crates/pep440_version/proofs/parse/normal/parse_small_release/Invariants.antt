use Rattle.pep440_version.proofs.Reading.NormalParts.{Released}
use Rattle.pep440_version.proofs.parse.normal.parse_small_release.Given as goal

abbrev pub invariant-loop-count : goal.invariant-loop-count
invariant-loop-count l = Released l.text l.rest l.count l.numbers
