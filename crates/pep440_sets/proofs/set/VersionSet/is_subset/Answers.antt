use Rattle.std.proofs.Common.{◌≡◌, ◌&&◌, Bool, true, false, not, refl, sym, ◌∙◌}
use Rattle.pep440_ranges.specs.RangeSegments.{contains}
use Rattle.pep440_version.specs.Key.{record_cmp}
use Rattle.pep440_sets.proofs.set.VersionSet.is_subset.Goals as goal

subset_of : (a b : Bool) → a && not b ≡ false → a ≡ true → b ≡ true
subset_of true true e f = refl
subset_of true false e f = sym e
subset_of false true e f = refl
subset_of false false e f = f

empty_of : (a b : Bool) → (a ≡ true → b ≡ true) → a && not b ≡ false
empty_of true true f = refl
empty_of true false f = sym (f refl)
empty_of false b f = refl

pub returns : goal.returns
returns c = (
  λ is v den. subset_of (contains record_cmp c.args.self.now v) (contains record_cmp c.args.other.now v) (sym (c.in_ok-rest.ensures v) ∙ c.is_empty.ensures.0 is v den),
  λ sub. c.is_empty.ensures.1 (λ v den. c.in_ok-rest.ensures v ∙ empty_of (contains record_cmp c.args.self.now v) (contains record_cmp c.args.other.now v) (sub v den)),
)
