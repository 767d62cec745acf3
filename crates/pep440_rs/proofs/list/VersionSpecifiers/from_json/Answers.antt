use Rattle.pep440_rs.proofs.Reading.JsonStrings.{made_answers, made_error, made_found, made_refused, from_text, one_text, with_texts}
use Rattle.pep440_rs.proofs.Reading.ListTold.{holds_line}
use Rattle.pep440_rs.specs.Json.{text_of}
use Rattle.pep440_rs.specs.Lists.ListResults.{list_kind_of}
use Rattle.pep440_rs.specs.Lists.ListErrors.{list_rejection_of}
use Rattle.pep440_rs.specs.Lists.ListGrammar.{DerivesList, RejectsList}
use Rattle.pep440_rs.proofs.list.VersionSpecifiers.from_json.Goals as goal

pub returns-clause-only : goal.returns-clause-only
returns-clause-only c = λ t s is means. made_answers (λ e. list_rejection_of (list_kind_of e)) c.from_str.result c.map_err.result _ c.map_err.ensures.cases
    (c.from_str.ensures.only s (from_text DerivesList c.in_ok-text.text.now t (text_of c.args.value.now) s c.in_ok-text.ensures is means))

pub returns-clause-again : goal.returns-clause-again
returns-clause-again c = λ t s means is. made_answers (λ e. list_rejection_of (list_kind_of e)) c.from_str.result c.map_err.result _ c.map_err.ensures.cases
    (c.from_str.ensures.joined t s means (one_text _ _ (text_of c.args.value.now) c.in_ok-text.ensures is))

pub returns-clause-refused : goal.returns-clause-refused
returns-clause-refused c = made_refused (λ e. list_rejection_of (list_kind_of e)) c.from_str.result c.map_err.result _ c.map_err.ensures.cases
    (with_texts (λ e. list_rejection_of (list_kind_of e)) RejectsList c.in_ok-text.text.now (text_of c.args.value.now) c.from_str.result c.in_ok-text.ensures c.from_str.ensures.refused)

pub returns-clause-decided : goal.returns-clause-decided
returns-clause-decided c = λ t f is means. made_answers (λ e. list_rejection_of (list_kind_of e)) c.from_str.result c.map_err.result _ c.map_err.ensures.cases
    (c.from_str.ensures.decided f (from_text RejectsList c.in_ok-text.text.now t (text_of c.args.value.now) f c.in_ok-text.ensures is means))

pub returns-clause-line : goal.returns-clause-line
returns-clause-line c = made_error (λ e. list_rejection_of (list_kind_of e)) c.from_str.result c.map_err.result _ c.map_err.ensures.cases
    (holds_line c.in_ok-text.text.now (text_of c.args.value.now) c.from_str.result c.in_ok-text.ensures c.from_str.ensures.line)

pub returns-clause-found : goal.returns-clause-found
returns-clause-found c = made_found (λ e. list_rejection_of (list_kind_of e)) c.from_str.result c.map_err.result _ _ (λ list means. (c.in_ok-text.text.now, c.in_ok-text.ensures, means)) c.map_err.ensures.cases c.from_str.ensures.found
