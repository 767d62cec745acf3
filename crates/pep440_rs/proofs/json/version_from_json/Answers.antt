use Rattle.std.proofs.Common.{◌≡◌, Some}
use Rattle.pep440_rs.proofs.Reading.JsonStrings.{made_answers, made_found, made_refused, made_told, from_text, one_text, with_texts}
use Rattle.pep440_rs.specs.Json.{text_of}
use Rattle.pep440_version.specs.ErrorTexts.{error_text, rejection_text}
use Rattle.pep440_version.specs.Errors.{kind_of, rejection_of}
use Rattle.pep440_version.specs.Grammar.{Derives}
use Rattle.pep440_version.specs.Rejections.{Rejects}
use Rattle.pep440_rs.proofs.json.version_from_json.Goals as goal

pub returns-clause-only : goal.returns-clause-only
returns-clause-only c = λ t s is means. made_answers (λ e. rejection_of (kind_of e)) c.from_str.result c.map_err.result _ c.map_err.ensures.cases
    (c.from_str.ensures.only s (from_text Derives c.in_ok-text.text.now t (text_of c.args.value.now) s c.in_ok-text.ensures is means))

pub returns-clause-again : goal.returns-clause-again
returns-clause-again c = λ t s means is. made_answers (λ e. rejection_of (kind_of e)) c.from_str.result c.map_err.result _ c.map_err.ensures.cases
    (c.from_str.ensures.again t s means (one_text _ _ (text_of c.args.value.now) c.in_ok-text.ensures is))

pub returns-clause-refused : goal.returns-clause-refused
returns-clause-refused c = made_refused (λ e. rejection_of (kind_of e)) c.from_str.result c.map_err.result _ c.map_err.ensures.cases
    (with_texts (λ e. rejection_of (kind_of e)) Rejects c.in_ok-text.text.now (text_of c.args.value.now) c.from_str.result c.in_ok-text.ensures c.from_str.ensures.refused)

pub returns-clause-decided : goal.returns-clause-decided
returns-clause-decided c = λ t f is means. made_answers (λ e. rejection_of (kind_of e)) c.from_str.result c.map_err.result _ c.map_err.ensures.cases
    (c.from_str.ensures.decided f (from_text Rejects c.in_ok-text.text.now t (text_of c.args.value.now) f c.in_ok-text.ensures is means))

pub returns-clause-round_trips : goal.returns-clause-round_trips
returns-clause-round_trips c = λ r fits same is. made_answers (λ e. rejection_of (kind_of e)) c.from_str.result c.map_err.result _ c.map_err.ensures.cases
    (c.from_str.ensures.round_trips r fits same (one_text _ _ (text_of c.args.value.now) c.in_ok-text.ensures is))

pub returns-clause-found : goal.returns-clause-found
returns-clause-found c = made_found (λ e. rejection_of (kind_of e)) c.from_str.result c.map_err.result _ _ (λ s means. (c.in_ok-text.text.now, c.in_ok-text.ensures, means)) c.map_err.ensures.cases c.from_str.ensures.found

pub returns-clause-message : goal.returns-clause-message
returns-clause-message c = made_told (λ e. rejection_of (kind_of e)) c.from_str.result c.map_err.result (λ e f. error_text (rejection_of (kind_of e)) ≡ Some (rejection_text f)) c.map_err.ensures.cases c.from_str.ensures.message
