use Rattle.std.proofs.Common.{◌≡◌, ◌&&◌, Bool, true, false, refl, sym, ◌∙◌}
use Rattle.pep440_ranges.specs.RangeSegments.{contains}
use Rattle.pep440_version.specs.Key.{record_cmp}
use Rattle.pep440_sets.proofs.set.VersionSet.is_disjoint.Goals as goal

apart_of : (a b : Bool) → a && b ≡ false → a ≡ true → b ≡ true → ⊥
apart_of true true e f g = cc e
apart_of true false e f g = cc g
apart_of false b e f g = cc f

empty_of : (a b : Bool) → (a ≡ true → b ≡ true → ⊥) → a && b ≡ false
empty_of true true h = absurd (h refl refl)
empty_of true false h = refl
empty_of false b h = refl

pub returns : goal.returns
returns c = (
  λ is v den. apart_of (contains record_cmp c.args.self.now v) (contains record_cmp c.args.other.now v) (sym (c.in_ok-both.ensures v) ∙ c.is_empty.ensures.0 is v den),
  λ apart. c.is_empty.ensures.1 (λ v den. c.in_ok-both.ensures v ∙ empty_of (contains record_cmp c.args.self.now v) (contains record_cmp c.args.other.now v) (apart v den)),
)
