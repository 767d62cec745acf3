use Rattle.std.proofs.Common.{refl}
use Rattle.std.specs.Char.{is_ascii_digit}
use Rattle.pep440_version.proofs.Reading.WordAsPrefix.{all_prefix}
use Rattle.pep440_version.proofs.parse.scan.is_digits.Goals as goal

pub returns : goal.returns
returns c = rw (c.count_digits.ensures.count, c.as_bytes.ensures.value) (all_prefix is_ascii_digit c.args.text.now _ refl)
