use Rattle.std.proofs.Common.{◌≡◌, drop}
use Rattle.std.specs.Str.{IsCharBoundary, chars}
use Rattle.pep440_version.specs.Reading.{past}
use Rattle.pep440_rs.specs.Specifiers.SpecifierReading.{passes}
use Rattle.pep440_rs.proofs.specifier.scan.skip_run.Given as goal

abbrev pub invariant-loop-at : goal.invariant-loop-at
invariant-loop-at l = record {
  boundary : IsCharBoundary l.text l.at;
  passed : past (passes l.run) (chars l.text) ≡ past (passes l.run) (chars (drop l.at l.text));
}
