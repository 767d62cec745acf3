use Rattle.std.proofs.Common.{◌∙◌, sym}
use Rattle.std.proofs.lemmas.Bool.{true≢false}
use Rattle.pep440_calls.proofs.Forms.{form_given, string_form}
use Rattle.pep440_calls.proofs.two_versions.make_form.Goals as goal

pub returns-then-has_version_format-clause-found : goal.returns-then-has_version_format-clause-found
returns-then-has_version_format-clause-found c = form_given c.args.bytes.now (c.has_version_format.ensures.0 c.if-has_version_format.true)

pub returns-clause-found : goal.returns-clause-found
returns-clause-found c = string_form c.args.bytes.now (λ format. true≢false (sym (c.has_version_format.ensures.1 format) ∙ c.if-has_version_format.false)) c.compile_string.result c.compile_string.ensures.found
