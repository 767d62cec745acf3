use Rattle.std.proofs.Common.{◌≡◌, ◌++◌}
use Rattle.std.specs.BTreeSet.{btree_set_len}
use Rattle.std.specs.List.{flat_map}
use Rattle.pyver_requirements.specs.MarkerViews.{set_of}
use Rattle.pyver_requirements.proofs.marker_terms.push_joined.Given as goal

abbrev pub invariant-loop-term : goal.invariant-loop-term
invariant-loop-term l = l.text.items ++ flat_map (λ u. l.connective ++ u) (set_of l.terms) ≡ l.initial.text.items ++ flat_map (λ u. l.connective ++ u) (set_of l.initial.terms)

abbrev pub decreases-loop-term : goal.decreases-loop-term
decreases-loop-term l = btree_set_len l.terms
