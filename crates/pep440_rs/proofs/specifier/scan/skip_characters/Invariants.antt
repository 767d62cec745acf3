use Rattle.std.proofs.Common.{◌≡◌}
use Rattle.std.specs.Str.{IsUtf8, chars}
use Rattle.std.specs.Str.Iter.{chars_rest}
use Rattle.pep440_version.specs.Reading.{EndsWith, past}
use Rattle.pep440_rs.specs.Specifiers.SpecifierReading.{passes}
use Rattle.pep440_rs.proofs.specifier.scan.skip_characters.Given as goal

abbrev pub invariant-loop-c : goal.invariant-loop-c
invariant-loop-c l = (chars_rest l.characters ≡ l.rest) × IsUtf8 l.rest × EndsWith l.text l.rest × (past (passes l.run) (chars l.text) ≡ past (passes l.run) (chars l.rest))
