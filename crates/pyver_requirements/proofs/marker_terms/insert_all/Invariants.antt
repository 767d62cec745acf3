use Rattle.std.proofs.Common.{◌≡◌}
use Rattle.std.specs.BTreeSet.{btree_set_len}
use Rattle.pyver_requirements.specs.MarkerTerms.{union}
use Rattle.pyver_requirements.specs.MarkerViews.{set_of}
use Rattle.pyver_requirements.proofs.marker_terms.insert_all.Given as goal

abbrev pub invariant-loop-term : goal.invariant-loop-term
invariant-loop-term l = union (set_of l.terms) (set_of l.more) ≡ union (set_of l.initial.terms) (set_of l.initial.more)

abbrev pub decreases-loop-term : goal.decreases-loop-term
decreases-loop-term l = btree_set_len l.more
