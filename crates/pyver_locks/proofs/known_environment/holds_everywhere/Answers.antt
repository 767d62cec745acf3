use Rattle.std.proofs.Common.{◌≡◌, ◌∙◌, IfOk, List, subst}
use Rattle.std.specs.List.{list_all}
use Rattle.pyver_locks.specs.KnownEnvironments.{is_true_in}
use Rattle.pyver_locks.specs.LockContents.{parts_of}
use Rattle.pyver_locks.specs.declared.known_environment.KnownEnvironment.{KnownEnvironment}
use Rattle.pyver_locks.proofs.known_environment.holds_everywhere.Goals as goal

pub returns : goal.returns
returns c =
    let holds = λ (k : KnownEnvironment). is_true_in (parts_of c.args.parts.now) k c.args.marker.now in
    subst (λ (all : List KnownEnvironment). IfOk c.is_true_in_all.result (λ b. b ≡ list_all holds all)) (c.as_slice.ensures.value ∙ c.in_ok-environments.ensures) c.is_true_in_all.ensures
