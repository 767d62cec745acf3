use Rattle.std.proofs.Common.{◌∙◌, ap}
use Rattle.std.specs.Result.{result_unwrap_or}
use Rattle.std.specs.declared.cmp.Ordering.TheVariants.{Equal}
use Rattle.pep440_calls.proofs.Forms.{order_read}
use Rattle.pep440_calls.proofs.two_versions.compare_form.Goals as goal

pub returns-in-Ok-clause-found : goal.returns-in-Ok-clause-found
returns-in-Ok-clause-found c left first =
    order_read left c.args.right.now c.args.form.now c.in-Ok.other.now c.unwrap_or.result first c.in-Ok.ensures.found
    (λ r q one other. c.unwrap_or.ensures ∙ ap (λ x. result_unwrap_or x Equal) (c.compare.ensures.found r q one other))
