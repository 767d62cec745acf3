use Rattle.std.proofs.Common.{◌≡◌, ◌&&◌, ◌||◌, Bool, true, false, not, refl, ap, ◌∙◌}
use Rattle.pep440_ranges.specs.RangeSegments.{contains}
use Rattle.pep440_version.specs.Key.{record_cmp}
use Rattle.pep440_sets.proofs.set.VersionSet.union.Goals as goal

either : (a b : Bool) → not (not a && not b) ≡ a || b
either true b = refl
either false true = refl
either false false = refl

pub returns : goal.returns
returns c v =
    c.in_ok-either.ensures v
    ∙ ap not (c.in_ok-neither.ensures v ∙ (λ i. c.in_ok-without.ensures v i && not (contains record_cmp c.args.other.now v)))
    ∙ either (contains record_cmp c.args.self.now v) (contains record_cmp c.args.other.now v)
