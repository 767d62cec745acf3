use Rattle.std.proofs.Common.{◌∙◌, ◌<◌, ap, length, rules, sym}
use Rattle.std.specs.Char.{is_ascii_digit}
use Rattle.std.specs.List.{list_all}
use Rattle.pep440_compiled.proofs.Rewritten.{numeral_by_parse}
use Rattle.pep440_compiled.proofs.parsed.is_numeral.Goals as goal

pub returns-else-is_empty : goal.returns-else-is_empty
returns-else-is_empty c =
    let some : 0 < length c.args.text.now = search rules in
    c.is_ok.ensures.value ∙ numeral_by_parse c.args.text.now c.parse.result (ap (list_all is_ascii_digit) (sym c.as_bytes.ensures.value) ∙ sym c.is_digits.ensures ∙ c.if-is_digits.true) some c.parse.ensures.value.0
