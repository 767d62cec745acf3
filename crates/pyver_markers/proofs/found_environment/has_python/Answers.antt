use Rattle.pyver_markers.proofs.FoundEnvironments.{python_there}
use Rattle.pyver_markers.specs.Extents.{found_environment}
use Rattle.pyver_markers.proofs.found_environment.has_python.Goals as goal

pub returns : goal.returns
returns c is =
    python_there (found_environment c.args.found.now) _ _ c.as_bytes-short.ensures.value c.as_bytes-full.ensures.value
    (c.in_ok-has_version.ensures c.if-not-branch.false) (c.in_ok-has_version-2.ensures c.if-not-branch-2.false) (c.in_ok-last.ensures is)
