use Rattle.std.specs.Char.{is_ascii_digit}
use Rattle.pep440_version.proofs.Reading.Prefixes.{lead-all}
use Rattle.pep440_version.proofs.parse.number.parse_number.Goals as goal

pub parse_u64-requires-clause-all : goal.parse_u64-requires-clause-all
parse_u64-requires-clause-all c = rw c.split_digits.ensures.prefix (lead-all is_ascii_digit c.args.text.now)
