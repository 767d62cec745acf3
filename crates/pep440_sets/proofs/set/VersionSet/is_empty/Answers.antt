use Rattle.std.proofs.Common.{subst, sym}
use Rattle.pep440_sets.proofs.Lists.{empty_has_none, none_is_empty}
use Rattle.pep440_sets.specs.Emptiness.{HasNoVersion}
use Rattle.pep440_sets.proofs.set.VersionSet.is_empty.Goals as goal

pub returns : goal.returns
returns c = (
  λ is. subst HasNoVersion c.self.view_is (empty_has_none c.self.inside.intervals (c.is_empty.ensures.segments.0 is)),
  λ none. c.is_empty.ensures.segments.1 (none_is_empty c.self.inside.intervals c.self.invariant (subst HasNoVersion (sym c.self.view_is) none)),
)
