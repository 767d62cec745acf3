use Rattle.std.proofs.Common.{◌≡◌, List, [], ◌∷◌, ◌++◌, sym, ap, ◌∙◌, subst, append_assoc}
use Rattle.std.specs.declared.ops.Bound.{Bound}
use Rattle.pep440_ranges.specs.BoundOrder.{flipped_bound}
use Rattle.pep440_ranges.specs.RangeSegments.{Segment}
use Rattle.pep440_ranges.specs.Complement.{gaps, gap_before, gap_after, gaps_after}
use Rattle.pep440_ranges.specs.Clones.{ClonesEach}
use Rattle.pep440_ranges.proofs.Merging.{length_none}
use Rattle.pep440_ranges.proofs.gaps.find_gaps.Goals as goal

first_gap : {V : Type 0} (none found others ss : List (Segment V)) (s : Segment V) → none ≡ [] → found ≡ none ++ gap_before s.0 → ss ≡ s ∷ others → found ++ gaps_after s.1 others ≡ gaps ss
first_gap none found others ss s e f is = ap (λ l. l ++ gaps_after s.1 others) (f ∙ ap (λ l. l ++ gap_before s.0) e) ∙ ap gaps (sym is)

next_gap : {V : Type 0} (found more rest others whole : List (Segment V)) (s : Segment V) (end a b : Bound V) → a ≡ flipped_bound end → b ≡ flipped_bound s.0 →
    more ≡ found ++ (a, b) ∷ [] → rest ≡ s ∷ others → found ++ gaps_after end rest ≡ whole → more ++ gaps_after s.1 others ≡ whole
next_gap found more rest others whole s end a b p q m is so =
    ap (λ l. l ++ gaps_after s.1 others) (m ∙ ap (λ x. found ++ (x, b) ∷ []) p ∙ ap (λ x. found ++ (flipped_bound end, x) ∷ []) q)
    ∙ append_assoc found _ _ ∙ ap (λ l. found ++ gaps_after end l) (sym is) ∙ so

last_gap : {V : Type 0} (found more rest whole : List (Segment V)) (end : Bound V) → more ≡ found ++ gap_after end → rest ≡ [] → found ++ gaps_after end rest ≡ whole → more ≡ whole
last_gap found more rest whole end m none so = m ∙ ap (λ l. found ++ gaps_after end l) (sym none) ∙ so

pub loop-segment-init : goal.loop-segment-init
loop-segment-init g c =
    let clones = subst (ClonesEach g.V.Clone.is_clone) c.in-Some.ensures.cases.0 c.requires in
    record {
      same = first_gap _ _ _ _ _ c.new-found.ensures.items c.in_ok-push_gap_before.ensures c.in-Some.ensures.cases.0;
      end = clones.1;
      clones = clones.2;
    }

pub loop-segment-preserved : goal.loop-segment-preserved
loop-segment-preserved g c =
    let clones = subst (ClonesEach g.V.Clone.is_clone) c.in-Some-split_first.ensures.cases.0 c.loop-segment.invariant.clones in
    record {
      same = next_gap _ _ _ _ _ _ _ _ _ c.in_ok-flip_bound.ensures c.in_ok-flip_bound-2.ensures c.in_ok-push-2.ensures.items c.in-Some-split_first.ensures.cases.0 c.loop-segment.invariant.same;
      end = clones.1;
      clones = clones.2;
    }

pub returns : goal.returns
returns g c = last_gap _ _ _ _ _ c.in_ok-push_gap_after.ensures (length_none _ c.in_default-split_first.ensures.cases) c.loop-segment.invariant.same
