use Rattle.std.proofs.Common.{◌≡◌, ◌<◌, ℕ, arith, true}
use Rattle.std.proofs.lemmas.Bool.Decides.{nat_tests}
use Rattle.pep440_version.proofs.Reading.Prefixes.{split_after_ascii, prefix_ascii}
use Rattle.pyver_requirements.specs.MarkerTokens.{is_operator_byte}
use Rattle.pyver_projects.proofs.poetry_marker.split_operator.Goals as goal

operator_byte_ascii : (b : ℕ) → is_operator_byte b ≡ true → b < 128
operator_byte_ascii b e = grind (arith, nat_tests)

pub split_at-requires : goal.split_at-requires
split_at-requires c =
    rw (c.count_operator_bytes.ensures.count, c.as_bytes.ensures.value)
    (split_after_ascii c.args.specifier.now _ c.utf8.specifier (rw (c.count_operator_bytes.ensures.count, c.as_bytes.ensures.value) at c.count_operator_bytes.ensures.inside) (prefix_ascii is_operator_byte operator_byte_ascii c.args.specifier.now))
