use Rattle.std.specs.Prelude.{map, option_map}
use Rattle.pyver_markers.proofs.ShortVersions.{no_python}
use Rattle.pyver_markers.specs.Extents.{condition_of}
use Rattle.pyver_markers.proofs.python_condition.excludes_python.Goals as goal

pub returns : goal.returns
returns c is =
    no_python c.as_bytes-short.result.now c.as_bytes-full.result.now (map condition_of c.args.conditions.now) (option_map (λ s. s.now) c.args.allowed) c.in_ok-set.set
    c.in_ok-within.within c.in_ok-narrowed.narrowed c.as_bytes-short.ensures.value c.as_bytes-full.ensures.value c.in_ok-set.ensures c.in_ok-within.ensures.wide
    c.in_ok-narrowed.ensures (c.is_empty.ensures.0 is)
