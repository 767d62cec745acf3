use Rattle.std.proofs.Common.{◌≡◌, ◌∙◌, Bool, true, false, cond, [], ◌∷◌, Option, Some, ap, refl, sym}
use Rattle.std.specs.Ordering.{is_eq}
use Rattle.std.specs.declared.ops.Bound.TheVariants.{Included, Excluded, Unbounded}
use Rattle.pep440_ranges.specs.Intersection.{overlaps}
use Rattle.pep440_rs.specs.Bounds.{full}
use Rattle.pep440_version.specs.Key.{record_cmp}
use Rattle.pep440_version.specs.Record.{Record}
use Rattle.pep440_sets.proofs.Intervals.{below_is}
use Rattle.pep440_sets.proofs.convert.between.Goals as goal
use Rattle.pep440_sets.specs.NextVersions.{least}
use Rattle.pep440_sets.specs.Sets.{between, from_version_on}

-- nothing is below the least version
none_between : (start end : Record) (o : Option Record) → o ≡ Some end → is_eq (record_cmp end least) ≡ true → between start o ≡ []
none_between start end o e h =
    ap (between start) e
    ∙ ap (overlaps record_cmp (from_version_on start)) (below_is end ∙ ap (λ b. cond b [] ((Unbounded, Excluded end) ∷ [])) h)
    ∙ go (is_eq (record_cmp start least))
  where
    go : (b : Bool) → overlaps record_cmp (cond b full ((Included start, Unbounded) ∷ [])) [] ≡ []
    go true = refl
    go false = refl

pub returns-then-branch : goal.returns-then-branch
returns-then-branch c = c.empty.ensures.segments ∙ sym (none_between c.args.start c.in-Some.end c.args.end c.in-Some.is (sym c.in_ok-is_least.ensures ∙ c.if-branch.true))
