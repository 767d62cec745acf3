use Rattle.std.proofs.Common.{◌∙◌, ◌++◌, ◌∷◌, [], ap}
use Rattle.pyver_markers.proofs.Versions.{one_matches}
use Rattle.pyver_markers.proofs.version_condition.specifier_set.Goals as goal

pub returns-in-Ok : goal.returns-in-Ok
returns-in-Ok c =
    one_matches c.args.specifier c.as_slice.result.now c.in-Ok.set
    (c.as_slice.ensures.value ∙ c.in_ok-push.ensures.items ∙ ap (λ l. l ++ c.args.specifier ∷ []) c.new-list.ensures.items) c.in-Ok.ensures.matches
