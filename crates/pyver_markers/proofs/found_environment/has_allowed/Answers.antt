use Rattle.std.proofs.Common.{◌∙◌, sym}
use Rattle.std.specs.Prelude.{option_map}
use Rattle.pyver_markers.proofs.FoundEnvironments.{allowed_there}
use Rattle.pyver_markers.specs.Extents.{found_environment}
use Rattle.pyver_markers.proofs.found_environment.has_allowed.Goals as goal

pub returns : goal.returns
returns c is =
    allowed_there (found_environment c.args.found.now) (option_map (λ s. s.now) c.args.allowed) _ _ c.as_bytes-full.ensures.value
    (sym c.in-Some.is ∙ c.in_ok-version.ensures) (c.is_allowed.ensures is)
