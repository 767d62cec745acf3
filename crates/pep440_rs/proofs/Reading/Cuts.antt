-- Every text has one cut, and reading takes its parts.
use Rattle.std.proofs.Common.{◌≡◌, ◌∙◌, ℕ, List, ◌++◌, Bool, false, refl, sym, ap, subst}
use Rattle.std.specs.Char.{is_whitespace, is_not_whitespace}
use Rattle.std.specs.Str.{chars, encode_utf8_all}
use Rattle.pep440_version.specs.Grammar.{starts}
use Rattle.pep440_version.specs.Reading.{lead, past}
use Rattle.pep440_version.proofs.Reading.ReadIsDerived.{split}
use Rattle.pep440_version.proofs.Reading.Prefixes.{lead-all, lead-run, past-run, past-stops}
use Rattle.pep440_rs.specs.Specifiers.SpecifierGrammar.{SpecifierParts, IsRun, is_operator_char}
use Rattle.pep440_rs.specs.Specifiers.SpecifierReading.{from_operator, from_rest, from_version, read_parts, read_specifier}

-- the longest run at the front, where whole is what was left
longest : (test : ℕ → Bool) (whole tail : List ℕ) → tail ≡ past test whole → IsRun test (lead test whole) tail
longest test whole tail e = (lead-all test whole, subst (λ t. starts test t ≡ false) (sym e) (past-stops test whole))

joined_up : (test : ℕ → Bool) (whole tail : List ℕ) → tail ≡ past test whole → lead test whole ++ tail ≡ whole
joined_up test whole tail e = ap (λ t. lead test whole ++ t) e ∙ sym (split test whole)

pub the_split : (text : List ℕ) → SpecifierParts text
the_split text =
    let cs : List ℕ = chars text in
    let behind_operator : List ℕ = past is_operator_char (from_operator text) in
    let behind_version : List ℕ = past is_not_whitespace (from_version text) in
    let t4 : lead is_whitespace behind_version ++ from_rest text ≡ behind_version = joined_up is_whitespace behind_version (from_rest text) refl in
    let t3 : lead is_not_whitespace (from_version text) ++ (lead is_whitespace behind_version ++ from_rest text) ≡ from_version text = joined_up is_not_whitespace (from_version text) _ t4 in
    let t2 : lead is_whitespace behind_operator ++ (lead is_not_whitespace (from_version text) ++ (lead is_whitespace behind_version ++ from_rest text)) ≡ behind_operator = joined_up is_whitespace behind_operator _ t3 in
    let t1 : lead is_operator_char (from_operator text) ++ (lead is_whitespace behind_operator ++ (lead is_not_whitespace (from_version text) ++ (lead is_whitespace behind_version ++ from_rest text))) ≡ from_operator text = joined_up is_operator_char (from_operator text) _ t2 in
    record {
      before = lead is_whitespace cs;
      operator = lead is_operator_char (from_operator text);
      between = lead is_whitespace behind_operator;
      version = lead is_not_whitespace (from_version text);
      after = lead is_whitespace behind_version;
      rest = from_rest text;
      decomposition = sym (joined_up is_whitespace cs _ t1);
      before_run = longest is_whitespace cs _ t1;
      operator_run = longest is_operator_char (from_operator text) _ t2;
      between_run = longest is_whitespace behind_operator _ t3;
      version_run = longest is_not_whitespace (from_version text) _ t4;
      after_run = longest is_whitespace behind_version (from_rest text) refl;
    }

run_part : (test : ℕ → Bool) (whole part tail : List ℕ) → whole ≡ part ++ tail → IsRun test part tail → lead test whole ≡ part
run_part test whole part tail e h = ap (lead test) e ∙ lead-run test part tail h.0 h.1

run_tail : (test : ℕ → Bool) (whole part tail : List ℕ) → whole ≡ part ++ tail → IsRun test part tail → past test whole ≡ tail
run_tail test whole part tail e h = ap (past test) e ∙ past-run test part tail h.0 h.1

-- reading a text is reading the parts of any cut of it
pub read_by_split : (text : List ℕ) (c : SpecifierParts text) → read_specifier text ≡ read_parts (encode_utf8_all c.operator) (encode_utf8_all c.version) (encode_utf8_all c.rest)
read_by_split text c =
    let t1 = run_tail is_whitespace (chars text) c.before _ c.decomposition c.before_run in
    let operator = run_part is_operator_char (from_operator text) c.operator _ t1 c.operator_run in
    let t2 = run_tail is_operator_char (from_operator text) c.operator _ t1 c.operator_run in
    let t3 = run_tail is_whitespace (past is_operator_char (from_operator text)) c.between _ t2 c.between_run in
    let version = run_part is_not_whitespace (from_version text) c.version _ t3 c.version_run in
    let t4 = run_tail is_not_whitespace (from_version text) c.version _ t3 c.version_run in
    let rest = run_tail is_whitespace (past is_not_whitespace (from_version text)) c.after c.rest t4 c.after_run in
    λ i. read_parts (encode_utf8_all (operator i)) (encode_utf8_all (version i)) (encode_utf8_all (rest i))
