use Rattle.std.specs.Prelude.{map}
use Rattle.pyver_markers.proofs.ShortVersions.{one_more_narrowed}
use Rattle.pyver_markers.specs.Extents.{condition_of}
use Rattle.pyver_markers.proofs.python_condition.narrow_by_all_short.Goals as goal

pub loop-rest-preserved : goal.loop-rest-preserved
loop-rest-preserved c =
    one_more_narrowed condition_of c.args.name.now (map condition_of c.args.conditions.now) c.loop-rest.rest.now _ c.args.set c.loop-rest.narrowed c.in_ok-narrowed.narrowed
    c.in-len1-up.len_at_least c.loop-rest.invariant c.in_ok-narrowed.ensures
