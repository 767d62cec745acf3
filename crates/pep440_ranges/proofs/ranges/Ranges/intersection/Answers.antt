-- What the overlaps of two ranges are.
use Rattle.std.proofs.Common.{◌≡◌, ◌∙◌, ap, sym, subst}
use Rattle.pep440_ranges.specs.RangeSegments.{IsRange}
use Rattle.pep440_ranges.specs.Intersection.{overlaps}
use Rattle.pep440_ranges.specs.Clones.{ClonesBoundValues}
use Rattle.pep440_ranges.proofs.Laws.{clones_each}
use Rattle.pep440_ranges.proofs.Merging.{same_overlaps}
use Rattle.pep440_ranges.proofs.Overlap.{overlaps_set, overlaps_nil, overlaps_range, overlaps_count}
use Rattle.pep440_ranges.proofs.ranges.Ranges.intersection.Goals as goal

pub find_overlaps-requires-clause-clones_left : goal.find_overlaps-requires-clause-clones_left
find_overlaps-requires-clause-clones_left g c =
    clones_each g.V.Clone.is_clone _ (subst (ClonesBoundValues g.V.Clone.is_clone) (sym (c.deref.ensures.value ∙ c.self.view_is)) c.requires.here)

pub find_overlaps-requires-clause-clones_right : goal.find_overlaps-requires-clause-clones_right
find_overlaps-requires-clause-clones_right g c =
    clones_each g.V.Clone.is_clone _ (subst (ClonesBoundValues g.V.Clone.is_clone) (sym (c.deref-2.ensures.value ∙ c.other.view_is)) c.requires.there)

pub invariant_of-result : goal.invariant_of-result
invariant_of-result g c =
    let found : c.in_ok-find_overlaps.field-0.items ≡ overlaps g.V.Ord.cmp c.self.inside.segments.items c.other.inside.segments.items = c.in_ok-find_overlaps.ensures ∙ same_overlaps g.V.Ord.cmp c.deref.ensures.value c.deref-2.ensures.value in
    rw found (overlaps_range g.met.V.Ord.total c.self.inside.segments.items c.other.inside.segments.items c.self.invariant c.other.invariant)

pub returns-clause-set : goal.returns-clause-set
returns-clause-set g c =
    let found : c.in_ok-find_overlaps.field-0.items ≡ overlaps g.V.Ord.cmp c.args.self.now c.args.other.now = c.in_ok-find_overlaps.ensures ∙ same_overlaps g.V.Ord.cmp (c.deref.ensures.value ∙ c.self.view_is) (c.deref-2.ensures.value ∙ c.other.view_is) in
    rw found (overlaps_set g.met.V.Ord.total c.args.self.now c.args.other.now)

pub returns-clause-count : goal.returns-clause-count
returns-clause-count g c =
    let found : c.in_ok-find_overlaps.field-0.items ≡ overlaps g.V.Ord.cmp c.args.self.now c.args.other.now = c.in_ok-find_overlaps.ensures ∙ same_overlaps g.V.Ord.cmp (c.deref.ensures.value ∙ c.self.view_is) (c.deref-2.ensures.value ∙ c.other.view_is) in
    rw found (overlaps_count g.met.V.Ord.total c.args.self.now c.args.other.now
    (subst (IsRange g.V.Ord.cmp) c.self.view_is c.self.invariant) (subst (IsRange g.V.Ord.cmp) c.other.view_is c.other.invariant))

pub returns-clause-none_there : goal.returns-clause-none_there
returns-clause-none_there g c =
    let found : c.in_ok-find_overlaps.field-0.items ≡ overlaps g.V.Ord.cmp c.args.self.now c.args.other.now = c.in_ok-find_overlaps.ensures ∙ same_overlaps g.V.Ord.cmp (c.deref.ensures.value ∙ c.self.view_is) (c.deref-2.ensures.value ∙ c.other.view_is) in
    λ e. found ∙ ap (overlaps g.V.Ord.cmp c.args.self.now) e ∙ overlaps_nil g.met.V.Ord.total c.args.self.now
