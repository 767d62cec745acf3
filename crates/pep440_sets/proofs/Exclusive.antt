-- `<` and `>`: what lies below the end and from the start on is what matches.
use Rattle.std.proofs.Common.{◌≡◌, ◌==◌, ◌+◌, ℕ, Bool, true, false, not, ◌&&◌, ◌||◌, List, [], Option, Some, None, is_some, refl, sym, ap, ◌∙◌, arith}
use Rattle.std.proofs.lemmas.Bool.Decides.{nat_tests}
use Rattle.std.specs.Ordering.{nat_cmp, ordering_then, is_eq, is_gt, is_lt}
use Rattle.std.specs.Prelude.{is_none}
use Rattle.std.specs.declared.cmp.Ordering.{Ordering}
use Rattle.std.specs.declared.cmp.Ordering.TheVariants as ord
use Rattle.pep440_rs.proofs.Agreement.Suffixes.{from_dev}
use Rattle.pep440_rs.proofs.Agreement.VersionOrder.{by_parts, plain, same_base}
use Rattle.pep440_rs.proofs.PublicParts.{below_bare, unmarked}
use Rattle.pep440_rs.specs.Matching.{any_prerelease, same_release}
use Rattle.pep440_rs.specs.declared.specifier.operator.Operator.TheVariants.{LessThan, GreaterThan}
use Rattle.pep440_version.specs.Key.{Dev, DevAt, Final, NoDev, NoPost, PostAt, Pre, Stage, base_cmp, dev_cmp, dev_of, kind_rank, local_cmp, post_cmp, post_of, record_cmp, release_cmp, stage_cmp, stage_of, suffix_cmp}
use Rattle.pep440_version.specs.Record.{Record, from_parts}
use Rattle.pep440_version.specs.declared.prerelease.Prerelease.{Prerelease}
use Rattle.pep440_version.specs.declared.prerelease.PrereleaseKind.{PrereleaseKind}
use Rattle.pep440_version.specs.declared.prerelease.PrereleaseKind.TheVariants.{Alpha, Beta, Rc}
use Rattle.pep440_sets.proofs.AfterParts.{HasSuffixesThatFit, past_posts}
use Rattle.pep440_sets.proofs.Intervals.{after_holds, no_local_below, posts_base}
use Rattle.pep440_rs.specs.LiteralMatching.{has_post, is_before, matches_literally, same_pre}
use Rattle.pep440_sets.specs.NextVersions.{after_posts, first_dev}
use Rattle.pep440_sets.specs.Sets.{above_start, below_end}

abbrev parts : ℕ → List ℕ → Option Prerelease → Option ℕ → Option ℕ → Record
parts e r pre post dev = from_parts e r pre post dev []

and_true : (b : Bool) → b ≡ b && true
and_true true = refl
and_true false = refl

-- ---- `<`

-- below the end, by the base B and the orders of the suffixes to the end and to s
below_table : (B X Y : Ordering) (q : Bool) → is_lt (ordering_then X ord.Equal) ≡ is_lt (ordering_then Y ord.Equal) && not q →
    is_lt (ordering_then B (ordering_then X ord.Equal)) ≡ is_lt (ordering_then B (ordering_then Y ord.Equal)) && not (is_eq B && q)
below_table ord.Less X Y q h = refl
below_table ord.Greater X Y q h = refl
below_table ord.Equal X Y q h = h

-- below an end of the same base
below_by : (s end v : Record) (q : Bool) → base_cmp (plain v) (plain end) ≡ base_cmp (plain v) (plain s) →
    is_lt (ordering_then (suffix_cmp (plain v) (plain end)) ord.Equal) ≡ is_lt (ordering_then (suffix_cmp (plain v) (plain s)) ord.Equal) && not q →
    is_lt (record_cmp (unmarked v) (plain end)) ≡ is_lt (record_cmp (plain v) (plain s)) && not (true && (same_release (plain s) (unmarked v) && q))
below_by s end v q base h =
    below_bare (unmarked v) (plain end) ∙ ap is_lt (by_parts (plain v) (plain end))
    ∙ ap (λ b. is_lt (ordering_then b (ordering_then (suffix_cmp (plain v) (plain end)) ord.Equal))) base
    ∙ below_table (base_cmp (plain v) (plain s)) (suffix_cmp (plain v) (plain end)) (suffix_cmp (plain v) (plain s)) q h
    ∙ (λ i. is_lt (sym (by_parts (plain v) (plain s)) i) && not (sym (same_base (plain s) (plain v)) i && q))

-- the dev releases of a post-release
of_post : (w : ℕ) (v : Record) →
    is_lt (ordering_then (suffix_cmp (plain v) (parts 0 [] None (Some w) (Some 0))) ord.Equal)
    ≡ is_lt (ordering_then (suffix_cmp (plain v) (parts 0 [] None (Some w) None)) ord.Equal) && not (is_before (Some w) v)
of_post w v = go v.pre v.post v.dev
  where
    staged : (k : PrereleaseKind) (n : ℕ) (t u : Ordering) →
        is_lt (ordering_then (ordering_then (stage_cmp (Pre k n) Final) t) ord.Equal) ≡ is_lt (ordering_then (ordering_then (stage_cmp (Pre k n) Final) u) ord.Equal) && true
    staged Alpha n t u = refl
    staged Beta n t u = refl
    staged Rc n t u = refl

    plain_post : (p w : ℕ) → is_lt (ordering_then (ordering_then (nat_cmp p w) ord.Greater) ord.Equal) ≡ is_lt (ordering_then (ordering_then (nat_cmp p w) ord.Equal) ord.Equal) && true
    plain_post p w = grind (arith, nat_tests)

    dev_post : (p w d : ℕ) → is_lt (ordering_then (ordering_then (nat_cmp p w) (nat_cmp d 0)) ord.Equal) ≡ is_lt (ordering_then (ordering_then (nat_cmp p w) ord.Less) ord.Equal) && not (p == w)
    dev_post p w d = grind (arith, nat_tests)

    go : (pre : Option Prerelease) (post dev : Option ℕ) →
        is_lt (ordering_then (ordering_then (stage_cmp (stage_of None pre dev post None) Final) (ordering_then (post_cmp (post_of None post) (PostAt w)) (dev_cmp (dev_of None dev) (DevAt 0)))) ord.Equal)
        ≡ is_lt (ordering_then (ordering_then (stage_cmp (stage_of None pre dev post None) Final) (ordering_then (post_cmp (post_of None post) (PostAt w)) (dev_cmp (dev_of None dev) NoDev))) ord.Equal)
        && not (is_none pre && (is_some dev && has_post post w))
    go (Some q) post dev = staged q.kind q.number _ _
    go None None None = refl
    go None None (Some d) = refl
    go None (Some p) None = plain_post p w
    go None (Some p) (Some d) = dev_post p w d

-- the pre-releases of a release
of_final : (v : Record) →
    is_lt (ordering_then (suffix_cmp (plain v) (parts 0 [] None None (Some 0))) ord.Equal)
    ≡ is_lt (ordering_then (suffix_cmp (plain v) (parts 0 [] None None None)) ord.Equal) && not (any_prerelease v)
of_final v = go v.pre v.post v.dev (from_dev v.pre v.post v.dev)
  where
    never : (b : Bool) (X : Ordering) → is_lt X ≡ false → is_lt (ordering_then X ord.Equal) ≡ b && false
    never true ord.Less h = h
    never false ord.Less h = h
    never true ord.Equal h = refl
    never false ord.Equal h = refl
    never true ord.Greater h = refl
    never false ord.Greater h = refl

    to_final : Stage → Option ℕ → Option ℕ → Bool
    to_final o post dev = is_lt (ordering_then (ordering_then (stage_cmp o Final) (ordering_then (post_cmp (post_of None post) NoPost) (dev_cmp (dev_of None dev) NoDev))) ord.Equal)

    to_dev : Stage → Option ℕ → Option ℕ → Ordering
    to_dev o post dev = ordering_then (stage_cmp o Dev) (ordering_then (post_cmp (post_of None post) NoPost) (dev_cmp (dev_of None dev) (DevAt 0)))

    go : (pre : Option Prerelease) (post dev : Option ℕ) →
        is_lt (ordering_then (stage_cmp (stage_of None pre dev post None) Dev) (ordering_then (post_cmp (post_of None post) NoPost) (dev_cmp (dev_of None dev) (DevAt 0)))) ≡ false →
        is_lt (ordering_then (ordering_then (stage_cmp (stage_of None pre dev post None) Dev) (ordering_then (post_cmp (post_of None post) NoPost) (dev_cmp (dev_of None dev) (DevAt 0)))) ord.Equal)
        ≡ is_lt (ordering_then (ordering_then (stage_cmp (stage_of None pre dev post None) Final) (ordering_then (post_cmp (post_of None post) NoPost) (dev_cmp (dev_of None dev) NoDev))) ord.Equal)
        && not (is_some pre || is_some dev)
    go (Some q) post dev h = never (to_final (Pre q.kind q.number) post dev) (to_dev (Pre q.kind q.number) post dev) h
    go None None None h = refl
    go None None (Some d) h = never (to_final Dev None (Some d)) (to_dev Dev None (Some d)) h
    go None (Some p) None h = refl
    go None (Some p) (Some d) h = refl

pub less_holds : (s v : Record) → is_lt (record_cmp (unmarked v) (below_end (plain s))) ≡ matches_literally LessThan (plain s) (unmarked v)
less_holds s v = go s.epoch s.release s.pre s.post s.dev
  where
    go : (e : ℕ) (r : List ℕ) (pre : Option Prerelease) (post dev : Option ℕ) →
        is_lt (record_cmp (unmarked v) (below_end (parts e r pre post dev))) ≡ matches_literally LessThan (parts e r pre post dev) (unmarked v)
    go e r (Some p) post dev = below_bare (unmarked v) (parts e r (Some p) post dev) ∙ and_true (is_lt (record_cmp (plain v) (parts e r (Some p) post dev)))
    go e r None post (Some d) = below_bare (unmarked v) (parts e r None post (Some d)) ∙ and_true (is_lt (record_cmp (plain v) (parts e r None post (Some d))))
    go e r None (Some w) None = below_by (parts e r None (Some w) None) (parts e r None (Some w) (Some 0)) v (is_before (Some w) v) refl (of_post w v)
    go e r None None None = below_by (parts e r None None None) (first_dev e r) v (any_prerelease v) refl (of_final v)

-- ---- `>`

above_table : (B X Y L : Ordering) (q : Bool) → is_lt L ≡ false → not (is_lt (ordering_then X ord.Equal)) ≡ is_gt (ordering_then Y ord.Equal) && not q →
    not (is_lt (ordering_then B (ordering_then X L))) ≡ is_gt (ordering_then B (ordering_then Y ord.Equal)) && not (is_eq B && q)
above_table ord.Less X Y L q l h = refl
above_table ord.Greater X Y L q l h = refl
above_table ord.Equal ord.Less Y L q l h = h
above_table ord.Equal ord.Greater Y L q l h = h
above_table ord.Equal ord.Equal Y L q l h = ap not l ∙ h

-- a greater stage is above s and no post-release of it
later_stage : (pre : Option Prerelease) (v : Record) →
    is_gt (stage_cmp (stage_of None v.pre v.dev v.post None) (stage_of None pre None None None))
    ≡ is_gt (ordering_then (suffix_cmp (plain v) (parts 0 [] pre None None)) ord.Equal) && not (same_pre v.pre pre && is_some v.post)
later_stage pre v = go pre v.pre v.post v.dev
  where
    same : (a b x y : ℕ) (post dev : Option ℕ) →
        is_gt (ordering_then (nat_cmp (2 + a) (2 + b)) (nat_cmp x y))
        ≡ is_gt (ordering_then (ordering_then (ordering_then (nat_cmp (2 + a) (2 + b)) (nat_cmp x y)) (ordering_then (post_cmp (post_of None post) NoPost) (dev_cmp (dev_of None dev) NoDev))) ord.Equal)
        && not (is_eq (ordering_then (nat_cmp a b) (nat_cmp x y)) && is_some post)
    same a b x y None None = none a b x y
      where
        none : (a b x y : ℕ) → is_gt (ordering_then (nat_cmp (2 + a) (2 + b)) (nat_cmp x y))
            ≡ is_gt (ordering_then (ordering_then (ordering_then (nat_cmp (2 + a) (2 + b)) (nat_cmp x y)) ord.Equal) ord.Equal) && not (is_eq (ordering_then (nat_cmp a b) (nat_cmp x y)) && false)
        none a b x y = grind (arith, nat_tests)
    same a b x y None (Some d) = none a b x y
      where
        none : (a b x y : ℕ) → is_gt (ordering_then (nat_cmp (2 + a) (2 + b)) (nat_cmp x y))
            ≡ is_gt (ordering_then (ordering_then (ordering_then (nat_cmp (2 + a) (2 + b)) (nat_cmp x y)) ord.Less) ord.Equal) && not (is_eq (ordering_then (nat_cmp a b) (nat_cmp x y)) && false)
        none a b x y = grind (arith, nat_tests)
    same a b x y (Some w) dev = some a b x y
      where
        some : (a b x y : ℕ) → is_gt (ordering_then (nat_cmp (2 + a) (2 + b)) (nat_cmp x y))
            ≡ is_gt (ordering_then (ordering_then (ordering_then (nat_cmp (2 + a) (2 + b)) (nat_cmp x y)) ord.Greater) ord.Equal) && not (is_eq (ordering_then (nat_cmp a b) (nat_cmp x y)) && true)
        some a b x y = grind (arith, nat_tests)

    final : (k : PrereleaseKind) (n : ℕ) (t : Ordering) → is_gt (stage_cmp (Pre k n) Final) ≡ is_gt (ordering_then (ordering_then (stage_cmp (Pre k n) Final) t) ord.Equal) && true
    final Alpha n t = refl
    final Beta n t = refl
    final Rc n t = refl

    above_pre : (k : PrereleaseKind) (n : ℕ) (t : Ordering) → is_gt (stage_cmp Final (Pre k n)) ≡ is_gt (ordering_then (ordering_then (stage_cmp Final (Pre k n)) t) ord.Equal) && true
    above_pre Alpha n t = refl
    above_pre Beta n t = refl
    above_pre Rc n t = refl

    dev_pre : (k : PrereleaseKind) (n : ℕ) (t : Ordering) → is_gt (stage_cmp Dev (Pre k n)) ≡ is_gt (ordering_then (ordering_then (stage_cmp Dev (Pre k n)) t) ord.Equal) && true
    dev_pre Alpha n t = refl
    dev_pre Beta n t = refl
    dev_pre Rc n t = refl

    go : (spre pre : Option Prerelease) (post dev : Option ℕ) →
        is_gt (stage_cmp (stage_of None pre dev post None) (stage_of None spre None None None))
        ≡ is_gt (ordering_then (ordering_then (stage_cmp (stage_of None pre dev post None) (stage_of None spre None None None)) (ordering_then (post_cmp (post_of None post) NoPost) (dev_cmp (dev_of None dev) NoDev))) ord.Equal)
        && not (same_pre pre spre && is_some post)
    go None (Some q) post dev = final q.kind q.number _
    go None None None None = refl
    go None None None (Some d) = refl
    go None None (Some w) None = refl
    go None None (Some w) (Some d) = refl
    go (Some p) (Some q) post dev = same (kind_rank q.kind) (kind_rank p.kind) q.number p.number post dev
    go (Some p) None None None = above_pre p.kind p.number _
    go (Some p) None None (Some d) = dev_pre p.kind p.number _
    go (Some p) None (Some w) None = above_pre p.kind p.number _
    go (Some p) None (Some w) (Some d) = above_pre p.kind p.number _

past_release : (e : ℕ) (r : List ℕ) (pre : Option Prerelease) (v : Record) → HasSuffixesThatFit v →
    not (is_lt (record_cmp (unmarked v) (after_posts e r pre))) ≡ matches_literally GreaterThan (parts e r pre None None) (unmarked v)
past_release e r pre v f =
    let next = after_posts e r pre in
    let base = posts_base e r pre in
    let s = parts e r pre None None in
    ap (λ o. not (is_lt o)) (by_parts (unmarked v) next)
    ∙ (λ i. not (is_lt (ordering_then (ordering_then (nat_cmp v.epoch (base.epoch i)) (release_cmp v.release (base.release i))) (ordering_then (suffix_cmp (unmarked v) next) (local_cmp v.local (base.local i))))))
    ∙ above_table (base_cmp (plain v) s) (suffix_cmp (plain v) next) (suffix_cmp (plain v) s) (local_cmp v.local []) (same_pre v.pre pre && is_some v.post) (no_local_below v.local) (past_posts e r pre v f ∙ later_stage pre v)
    ∙ (λ i. is_gt (sym (by_parts (plain v) s) i) && not (sym (same_base s (plain v)) i && (same_pre v.pre pre && is_some v.post)))

pub greater_holds : (s v : Record) → HasSuffixesThatFit v → not (is_lt (record_cmp (unmarked v) (above_start (plain s)))) ≡ matches_literally GreaterThan (plain s) (unmarked v)
greater_holds s v f = go s.epoch s.release s.pre s.post s.dev
  where
    go : (e : ℕ) (r : List ℕ) (pre : Option Prerelease) (post dev : Option ℕ) →
        not (is_lt (record_cmp (unmarked v) (above_start (parts e r pre post dev)))) ≡ matches_literally GreaterThan (parts e r pre post dev) (unmarked v)
    go e r pre (Some w) dev = after_holds (parts e r pre (Some w) dev) v f ∙ and_true (is_gt (record_cmp (plain v) (parts e r pre (Some w) dev)))
    go e r pre None (Some d) = after_holds (parts e r pre None (Some d)) v f ∙ and_true (is_gt (record_cmp (plain v) (parts e r pre None (Some d))))
    go e r pre None None = past_release e r pre v f
