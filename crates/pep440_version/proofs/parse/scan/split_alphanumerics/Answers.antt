use Rattle.std.specs.Char.{is_ascii_alphanumeric}
use Rattle.pep440_version.proofs.Reading.Prefixes.{prefix_ascii, alphanumeric_ascii}
use Rattle.pep440_version.proofs.parse.scan.split_alphanumerics.Goals as goal

pub split_at_ascii-requires-clause-ascii : goal.split_at_ascii-requires-clause-ascii
split_at_ascii-requires-clause-ascii c = rw (c.count_alphanumerics.ensures.count, c.as_bytes.ensures.value) (prefix_ascii is_ascii_alphanumeric alphanumeric_ascii c.args.text.now)
