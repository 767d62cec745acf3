use Rattle.std.specs.Char.{is_ascii_digit}
use Rattle.pep440_version.proofs.Reading.Prefixes.{prefix_ascii, digit_ascii}
use Rattle.pep440_version.proofs.parse.scan.split_digits.Goals as goal

pub split_at_ascii-requires-clause-ascii : goal.split_at_ascii-requires-clause-ascii
split_at_ascii-requires-clause-ascii c = rw (c.count_digits.ensures.count, c.as_bytes.ensures.value) (prefix_ascii is_ascii_digit digit_ascii c.args.text.now)
