-- What the gaps of a range are.
use Rattle.std.proofs.Common.{◌≡◌, ◌∙◌, ap, sym, subst}
use Rattle.pep440_ranges.specs.RangeSegments.{IsRange}
use Rattle.pep440_ranges.specs.Complement.{gaps}
use Rattle.pep440_ranges.specs.Clones.{ClonesBoundValues}
use Rattle.pep440_ranges.proofs.Laws.{clones_each}
use Rattle.pep440_ranges.proofs.Complement.{gaps_range, gaps_set, gaps_count}
use Rattle.pep440_ranges.proofs.ranges.Ranges.complement.Goals as goal

pub find_gaps-requires : goal.find_gaps-requires
find_gaps-requires g c = clones_each g.V.Clone.is_clone _ (subst (ClonesBoundValues g.V.Clone.is_clone) (sym (c.deref.ensures.value ∙ c.self.view_is)) c.requires)

pub invariant_of-result : goal.invariant_of-result
invariant_of-result g c =
    let found : c.in_ok-find_gaps.field-0.items ≡ gaps c.self.inside.segments.items = c.in_ok-find_gaps.ensures ∙ ap gaps c.deref.ensures.value in
    rw found (gaps_range g.met.V.Ord.total c.self.inside.segments.items c.self.invariant)

pub returns-clause-set : goal.returns-clause-set
returns-clause-set g c =
    let found : c.in_ok-find_gaps.field-0.items ≡ gaps c.args.self.now = c.in_ok-find_gaps.ensures ∙ ap gaps (c.deref.ensures.value ∙ c.self.view_is) in
    rw found (λ v. gaps_set g.met.V.Ord.total c.args.self.now v (subst (IsRange g.V.Ord.cmp) c.self.view_is c.self.invariant))

pub returns-clause-count : goal.returns-clause-count
returns-clause-count g c =
    let found : c.in_ok-find_gaps.field-0.items ≡ gaps c.args.self.now = c.in_ok-find_gaps.ensures ∙ ap gaps (c.deref.ensures.value ∙ c.self.view_is) in
    rw found (gaps_count c.args.self.now)
