use Rattle.std.proofs.Common.{ap, refl}
use Rattle.pyver_markers.proofs.FoundEnvironments.{one_borrowed}
use Rattle.pyver_markers.specs.Environments.{Text}
use Rattle.pyver_markers.proofs.found_environment.borrow_variables.Goals as goal

pub loop-rest-preserved : goal.loop-rest-preserved
loop-rest-preserved c =
    one_borrowed c.loop-rest.variables.items _ _ c.variable-item.result c.loop-rest.rest.now c.args.found.now c.in-len1-up.len_at_least c.variable-item.is
    c.in_ok-push.ensures.items refl (ap Text c.as_slice.ensures.value) c.loop-rest.invariant
