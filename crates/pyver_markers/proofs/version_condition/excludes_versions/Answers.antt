use Rattle.std.specs.Prelude.{map}
use Rattle.pyver_markers.proofs.Versions.{none_met}
use Rattle.pyver_markers.specs.Extents.{condition_of}
use Rattle.pyver_markers.proofs.version_condition.excludes_versions.Goals as goal

pub returns : goal.returns
returns c is = none_met c.args.name.now (map condition_of c.args.conditions.now) c.in_ok-set.set c.in_ok-set.ensures (c.is_empty.ensures.0 is)
