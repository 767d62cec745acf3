use Rattle.std.proofs.Common.{◌≡◌, ◌∙◌, sym, true}
use Rattle.pep440_version.specs.Suffixes.{starts_with_word}
use Rattle.pep440_version.proofs.Reading.WordAsPrefix.{begins_inside, begins_ascii}
use Rattle.pep440_version.proofs.parse.scan.strip_word.Goals as goal

pub split_at_ascii-requires-clause-inside : goal.split_at_ascii-requires-clause-inside
split_at_ascii-requires-clause-inside c =
    let holds : starts_with_word c.args.word.now c.args.text.now ≡ true = rw (sym c.as_bytes.ensures.value, sym c.as_bytes-2.ensures.value) (sym c.starts_with_word.ensures ∙ c.if-starts_with_word.true) in
    begins_inside c.args.word.now c.args.text.now holds

pub split_at_ascii-requires-clause-ascii : goal.split_at_ascii-requires-clause-ascii
split_at_ascii-requires-clause-ascii c =
    let holds : starts_with_word c.args.word.now c.args.text.now ≡ true = rw (sym c.as_bytes.ensures.value, sym c.as_bytes-2.ensures.value) (sym c.starts_with_word.ensures ∙ c.if-starts_with_word.true) in
    begins_ascii c.args.word.now c.args.text.now holds c.requires
