use Rattle.std.proofs.Common.{subst, sym}
use Rattle.pyver_markers.specs.Conditions.{HasVersion}
use Rattle.pyver_markers.proofs.emptiness.excludes_any_version.Goals as goal

pub returns-then-branch : goal.returns-then-branch
returns-then-branch c is e known = c.in_ok-excludes_python.ensures c.if-branch.true e known.python known.allowed

pub returns : goal.returns
returns c is e known = c.in_ok-last.ensures is e (subst (HasVersion e) (sym c.as_bytes.ensures.value) known.implementation_version)
