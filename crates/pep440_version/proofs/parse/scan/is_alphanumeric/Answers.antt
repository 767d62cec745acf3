use Rattle.std.proofs.Common.{refl}
use Rattle.std.specs.Char.{is_ascii_alphanumeric}
use Rattle.pep440_version.proofs.Reading.WordAsPrefix.{all_prefix}
use Rattle.pep440_version.proofs.parse.scan.is_alphanumeric.Goals as goal

pub returns : goal.returns
returns c = rw (c.count_alphanumerics.ensures.count, c.as_bytes.ensures.value) (all_prefix is_ascii_alphanumeric c.args.text.now _ refl)
