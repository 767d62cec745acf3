use Rattle.std.proofs.Common.{◌≡◌, ◌∙◌, ap, subst, sym}
use Rattle.std.specs.Char.{is_whitespace, is_not_whitespace}
use Rattle.std.specs.Str.{chars, encode_utf8_all}
use Rattle.pep440_version.specs.Reading.{lead, past}
use Rattle.pep440_rs.specs.Errors.{ParsesSpecifier, operator_kind_of, unknown_of}
use Rattle.pep440_rs.specs.Specifiers.SpecifierGrammar.{is_operator_char}
use Rattle.pep440_rs.specs.Specifiers.SpecifierReading.{from_rest, from_version, read_specifier}
use Rattle.std.specs.Prelude.{IfErr, IfOk, IfSome}
use Rattle.pep440_rs.specs.Operators.{Spells}
use Rattle.pep440_rs.proofs.Reading.Passed.{mapped_error, mapped_value, passed}
use Rattle.pep440_rs.proofs.Reading.Steps.{known_operator, names_operator, no_operator, operator_bytes, unknown_operator}
use Rattle.pep440_rs.proofs.specifier.read.parse_specifier.Goals as goal

pub returns-then-is_empty : goal.returns-then-is_empty
returns-then-is_empty c =
    let is = operator_bytes c.args.text.now c.skip_white_space.result.now c.split_run.result.0.now c.skip_white_space.ensures.back c.split_run.ensures.prefix in
    (no_operator c.args.text.now _ is (sym c.is_empty.ensures ∙ c.if-is_empty.true), λ e. cc e)

pub returns-in_err-operator : goal.returns-in_err-operator
returns-in_err-operator c =
    let is = operator_bytes c.args.text.now c.skip_white_space.result.now c.split_run.result.0.now c.skip_white_space.ensures.back c.split_run.ensures.prefix in
    let some = sym c.is_empty.ensures ∙ c.if-is_empty.false in
    let kind = c.in_err-operator.field-0.0 in
    let made = mapped_error c.from_str.result c.map_err.result _ c.map_err.ensures.cases kind c.in_err-operator.was in
    passed (λ r. ParsesSpecifier r (read_specifier c.args.text.now)) c.from_residual.result kind c.from_residual.ensures.1 (
      names_operator kind _ (read_specifier c.args.text.now) c.split_run.result.0.now made.2.0 (subst (λ r. IfErr r (λ e. IfSome (unknown_of (operator_kind_of e)) (λ got. got ≡ c.split_run.result.0.now))) made.1 c.from_str.ensures.refused)
          (unknown_operator c.args.text.now c.split_run.result.0.now is some (λ o h. cc (c.from_str.ensures.only o h, made.1))),
      made.2.1,
    )

pub returns : goal.returns
returns c =
    let is = operator_bytes c.args.text.now c.skip_white_space.result.now c.split_run.result.0.now c.skip_white_space.ensures.back c.split_run.ensures.prefix in
    let some = sym c.is_empty.ensures ∙ c.if-is_empty.false in
    let opened : chars c.skip_white_space-2.result.now ≡ from_version c.args.text.now =
    c.skip_white_space-2.ensures.back ∙ ap (past is_whitespace) (c.split_run.ensures.back ∙ ap (past is_operator_char) c.skip_white_space.ensures.back) in
    let version : encode_utf8_all (lead is_not_whitespace (from_version c.args.text.now)) ≡ c.split_run-2.result.0.now =
    ap (λ cs. encode_utf8_all (lead is_not_whitespace cs)) (sym opened) ∙ sym c.split_run-2.ensures.prefix in
    let rest : encode_utf8_all (from_rest c.args.text.now) ≡ c.skip_white_space-3.result.now =
    ap (λ cs. encode_utf8_all (past is_whitespace (past is_not_whitespace cs))) (sym opened)
    ∙ ap (λ cs. encode_utf8_all (past is_whitespace cs)) (sym c.split_run-2.ensures.back) ∙ sym c.skip_white_space-3.ensures.bytes in
    subst (ParsesSpecifier c.parse_version.result) (sym (known_operator c.args.text.now c.split_run.result.0.now _ _ c.in_ok-operator.operator is some
    (subst (λ r. IfOk r (Spells c.split_run.result.0.now)) (mapped_value c.from_str.result c.map_err.result _ c.map_err.ensures.cases c.in_ok-operator.operator c.in_ok-operator.was) c.from_str.ensures.found)
    version rest)) c.parse_version.ensures
