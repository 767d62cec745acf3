use Rattle.std.proofs.Common.{◌≡◌, ◌∙◌, Bool, true, false, sym, inl, inr, subst, if◌then◌else◌}
use Rattle.std.specs.declared.ops.Bound.{Bound}
use Rattle.pep440_ranges.specs.Clones.{ClonesBound, ClonesEach}
use Rattle.pep440_ranges.proofs.Merging.{merge_left, merge_right, merge_done, tail_range, tail_clones}
use Rattle.pep440_ranges.proofs.merge.find_overlaps.Goals as goal
use Rattle.pep440_ranges.proofs.merge.find_overlaps.Goals.{in_default, in_default-2}

either_clones : {V : Type 0} (is_clone : V → V → Type 0) (b : Bool) (s t start : Bound V) → start ≡ (if b then t else s) → ClonesBound is_clone s → ClonesBound is_clone t → ClonesBound is_clone start
either_clones is_clone true s t start e p q = subst (ClonesBound is_clone) (sym e) q
either_clones is_clone false s t start e p q = subst (ClonesBound is_clone) (sym e) p

pub push_valid-requires : goal.push_valid-requires
push_valid-requires g c =
    let left = subst (ClonesEach g.V.Clone.is_clone) c.in-Some-Some.ensures.cases.0 c.loop-s.invariant.clones_left in
    let right = subst (ClonesEach g.V.Clone.is_clone) c.in-Some-Some.ensures'.cases.0 c.loop-s.invariant.clones_right in
    record {
      start = either_clones g.V.Clone.is_clone _ _ _ _ c.greater_start-start.ensures left.0 right.0;
      end = right.1;
    }

pub push_valid-requires-else-ends_before : goal.push_valid-requires-else-ends_before
push_valid-requires-else-ends_before g c =
    let left = subst (ClonesEach g.V.Clone.is_clone) c.in-Some-Some.ensures.cases.0 c.loop-s.invariant.clones_left in
    let right = subst (ClonesEach g.V.Clone.is_clone) c.in-Some-Some.ensures'.cases.0 c.loop-s.invariant.clones_right in
    record {
      start = either_clones g.V.Clone.is_clone _ _ _ _ c.greater_start-start.ensures left.0 right.0;
      end = left.1;
    }

-- t ends first and is taken away
pub loop-s-preserved-in_ok-push_valid : goal.loop-s-preserved-in_ok-push_valid
loop-s-preserved-in_ok-push_valid g c =
    let at = c.loop-s.invariant in
    let left = c.in-Some-Some.ensures.cases.0 in
    let right = c.in-Some-Some.ensures'.cases.0 in
    record {
      same = merge_right g.met.V.Ord.total _ _ _ _ _ _ _ _ _ _ left right (sym c.ends_before.ensures ∙ c.if-ends_before.true) c.greater_start-start.ensures at.left c.in_ok-push_valid.ensures at.same;
      left = at.left;
      right = tail_range g.V.Ord.cmp _ _ _ right at.right;
      clones_left = at.clones_left;
      clones_right = tail_clones g.V.Clone.is_clone _ _ _ right at.clones_right;
    }

-- s ends first and is taken away
pub loop-s-preserved : goal.loop-s-preserved
loop-s-preserved g c =
    let at = c.loop-s.invariant in
    let left = c.in-Some-Some.ensures.cases.0 in
    let right = c.in-Some-Some.ensures'.cases.0 in
    record {
      same = merge_left g.met.V.Ord.total _ _ _ _ _ _ _ _ _ _ left right (sym c.ends_before.ensures ∙ c.if-ends_before.false) c.greater_start-start.ensures at.right c.in_ok-push_valid-2.ensures at.same;
      left = tail_range g.V.Ord.cmp _ _ _ left at.left;
      right = at.right;
      clones_left = tail_clones g.V.Clone.is_clone _ _ _ left at.clones_left;
      clones_right = at.clones_right;
    }

-- one of the two has no segment left
pub returns : goal.returns
returns g c = elim c.match-split_first.branch [
  | in_default w ↦ merge_done g.met.V.Ord.total _ _ _ _ (inr w.in_default.ensures'.cases) c.loop-s.invariant.same
  | in_default-2 w ↦ merge_done g.met.V.Ord.total _ _ _ _ (inl w.in_default.ensures.cases) c.loop-s.invariant.same
]
