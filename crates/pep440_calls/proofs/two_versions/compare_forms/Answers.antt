use Rattle.pep440_calls.proofs.Forms.{form_given}
use Rattle.pep440_calls.proofs.two_versions.compare_forms.Goals as goal

pub returns-then-has_version_format-clause-found : goal.returns-then-has_version_format-clause-found
returns-then-has_version_format-clause-found c = c.compare_form.ensures.found c.args.left.now (form_given c.args.left.now (c.has_version_format.ensures.0 c.if-has_version_format.true))

pub returns-clause-found : goal.returns-clause-found
returns-clause-found c = c.compare_form-2.ensures.found c.args.left.now c.in_ok-form.ensures.found
