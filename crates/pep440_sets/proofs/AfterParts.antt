-- What is not below the version after others is above these: by the suffixes, under one epoch and release.
use Rattle.std.proofs.Common.{◌≡◌, ◌==◌, ◌+◌, ◌<◌, ◌^◌, ℕ, Bool, true, false, cond, not, List, [], Option, Some, None, IfSome, refl, sym, ap, ◌∙◌, subst, arith}
use Rattle.std.proofs.lemmas.Bool.Decides.{nat_tests}
use Rattle.std.specs.Option.{option_map_or}
use Rattle.std.specs.Ordering.{nat_cmp, ordering_then, is_gt, is_lt}
use Rattle.std.specs.declared.cmp.Ordering.{Ordering}
use Rattle.std.specs.declared.cmp.Ordering.TheVariants as ord
use Rattle.pep440_rs.proofs.Agreement.Prefix.{next_is}
use Rattle.pep440_rs.proofs.Agreement.Suffixes.{above_dev, above_post}
use Rattle.pep440_rs.proofs.Agreement.VersionOrder.{plain}
use Rattle.pep440_rs.specs.Bounds.{next_number}
use Rattle.pep440_version.specs.Key.{Stage, Pre, Final, Dev, NoPost, PostAt, PostTop, NoDev, DevAt, dev_cmp, dev_of, kind_rank, post_cmp, post_of, stage_cmp, stage_of, suffix_cmp}
use Rattle.pep440_version.specs.Record.{Fits, Record, from_parts}
use Rattle.pep440_version.specs.declared.prerelease.Prerelease.{Prerelease}
use Rattle.pep440_version.specs.declared.prerelease.PrereleaseKind.{PrereleaseKind}
use Rattle.pep440_version.specs.declared.prerelease.PrereleaseKind.TheVariants.{Alpha, Beta, Rc}
use Rattle.pep440_sets.specs.NextVersions.{after_dev_releases, after_kind, after_parts, after_posts, pre_dev}

-- ---- numbers

pub none_is : (n : ℕ) → next_number n ≡ None → n ≡ 18446744073709551615
none_is n e = go (n == 18446744073709551615) refl e
  where
    go : (b : Bool) → (n == 18446744073709551615) ≡ b → cond b None (Some (n + 1)) ≡ None → n ≡ 18446744073709551615
    go true t e = grind (arith, nat_tests, t)
    go false t e = cc

-- the next number, if there is one, or what is above all of them
pub by_next : (P : Record → Type 0) (n : ℕ) (next : ℕ → Record) (past : Record) → ((m : ℕ) → m ≡ n + 1 → P (next m)) → (n ≡ 18446744073709551615 → P past) → P (option_map_or next (next_number n) past)
by_next P n next past one none = go (next_number n) refl
  where
    go : (o : Option ℕ) → next_number n ≡ o → P (option_map_or next o past)
    go None e = none (none_is n e)
    go (Some m) e = one m (next_is n m e)

-- ---- the parts of the order

-- the numbers of a version's suffixes fit
pub record HasSuffixesThatFit (v : Record) : Type 0 where
  pub pre : IfSome v.pre (λ p. Fits p.number)
  pub post : IfSome v.post Fits
  pub dev : IfSome v.dev Fits

abbrev stage : Record → Stage
stage v = stage_of None v.pre v.dev v.post None

abbrev plain_stage : Option Prerelease → Stage
plain_stage pre = stage_of None pre None None None

-- post and dev, compared with none and with the first dev release
abbrev tail : Option ℕ → Option ℕ → Ordering
tail post dev = ordering_then (post_cmp (post_of None post) NoPost) (dev_cmp (dev_of None dev) (DevAt 0))

tail_from : (post dev : Option ℕ) → is_lt (tail post dev) ≡ false
tail_from None None = refl
tail_from (Some p) dev = refl
tail_from None (Some d) = go d
  where
    go : (d : ℕ) → is_lt (nat_cmp d 0) ≡ false
    go d = grind (arith, nat_tests)

-- ---- after a pre-release and its post-releases

raised_number : (a b x n p : ℕ) (t : Ordering) → n ≡ p + 1 → is_lt t ≡ false →
    not (is_lt (ordering_then (ordering_then (ordering_then (nat_cmp a b) (nat_cmp x n)) t) ord.Equal)) ≡ is_gt (ordering_then (nat_cmp a b) (nat_cmp x p))
raised_number a b x n p t e h = grind (arith, nat_tests)

raised_rank : (a b x : ℕ) (t : Ordering) → x < 2 ^ 64 → is_lt t ≡ false →
    not (is_lt (ordering_then (ordering_then (ordering_then (nat_cmp a (b + 1)) (nat_cmp x 0)) t) ord.Equal)) ≡ is_gt (ordering_then (nat_cmp a b) (nat_cmp x 18446744073709551615))
raised_rank a b x t f h = grind (arith, nat_tests)

-- what is not below that place has a greater stage
abbrev IsPast : Option Prerelease → Record → Record → Type 0
IsPast pre v next = not (is_lt (ordering_then (suffix_cmp (plain v) next) ord.Equal)) ≡ is_gt (stage_cmp (stage v) (plain_stage pre))

-- after a kind of pre-release: the next kind, or the final release
past_number : (k : PrereleaseKind) (p n : ℕ) (e : ℕ) (r : List ℕ) (v : Record) → n ≡ p + 1 → IsPast (Some (record { kind = k; number = p })) v (pre_dev e r k n)
past_number k p n e r v h = go v.pre v.post v.dev
  where
    go : (pre : Option Prerelease) (post dev : Option ℕ) →
        not (is_lt (ordering_then (ordering_then (stage_cmp (stage_of None pre dev post None) (Pre k n)) (tail post dev)) ord.Equal)) ≡ is_gt (stage_cmp (stage_of None pre dev post None) (Pre k p))
    go (Some q) post dev = raised_number (2 + kind_rank q.kind) (2 + kind_rank k) q.number n p (tail post dev) h (tail_from post dev)
    go None None None = raised_number 5 (2 + kind_rank k) 0 n p (tail None None) h (tail_from None None)
    go None None (Some d) = raised_number 1 (2 + kind_rank k) 0 n p (tail None (Some d)) h (tail_from None (Some d))
    go None (Some w) None = raised_number 5 (2 + kind_rank k) 0 n p (tail (Some w) None) h (tail_from (Some w) None)
    go None (Some w) (Some d) = raised_number 5 (2 + kind_rank k) 0 n p (tail (Some w) (Some d)) h (tail_from (Some w) (Some d))

past_kind : (k : PrereleaseKind) (e : ℕ) (r : List ℕ) (v : Record) → HasSuffixesThatFit v → IsPast (Some (record { kind = k; number = 18446744073709551615 })) v (after_kind e r k)
past_kind Alpha e r v f = go v.pre v.post v.dev f.pre
  where
    go : (pre : Option Prerelease) (post dev : Option ℕ) → IfSome pre (λ p. Fits p.number) →
        not (is_lt (ordering_then (ordering_then (stage_cmp (stage_of None pre dev post None) (Pre Beta 0)) (tail post dev)) ord.Equal)) ≡ is_gt (stage_cmp (stage_of None pre dev post None) (Pre Alpha 18446744073709551615))
    go (Some q) post dev h = raised_rank (2 + kind_rank q.kind) 2 q.number (tail post dev) h (tail_from post dev)
    go None None None h = refl
    go None None (Some d) h = refl
    go None (Some w) None h = refl
    go None (Some w) (Some d) h = refl
past_kind Beta e r v f = go v.pre v.post v.dev f.pre
  where
    go : (pre : Option Prerelease) (post dev : Option ℕ) → IfSome pre (λ p. Fits p.number) →
        not (is_lt (ordering_then (ordering_then (stage_cmp (stage_of None pre dev post None) (Pre Rc 0)) (tail post dev)) ord.Equal)) ≡ is_gt (stage_cmp (stage_of None pre dev post None) (Pre Beta 18446744073709551615))
    go (Some q) post dev h = raised_rank (2 + kind_rank q.kind) 3 q.number (tail post dev) h (tail_from post dev)
    go None None None h = refl
    go None None (Some d) h = refl
    go None (Some w) None h = refl
    go None (Some w) (Some d) h = refl
past_kind Rc e r v f = go v.pre v.post v.dev f.pre
  where
    below : (k : PrereleaseKind) (n : ℕ) (t : Ordering) → n < 2 ^ 64 →
        not (is_lt (ordering_then (ordering_then (stage_cmp (Pre k n) Final) t) ord.Equal)) ≡ is_gt (stage_cmp (Pre k n) (Pre Rc 18446744073709551615))
    below Alpha n t h = refl
    below Beta n t h = refl
    below Rc n t h = last n h
      where
        last : (n : ℕ) → n < 2 ^ 64 → false ≡ is_gt (nat_cmp n 18446744073709551615)
        last n h = grind (arith, nat_tests)

    go : (pre : Option Prerelease) (post dev : Option ℕ) → IfSome pre (λ p. Fits p.number) →
        not (is_lt (ordering_then (ordering_then (stage_cmp (stage_of None pre dev post None) Final) (ordering_then (post_cmp (post_of None post) NoPost) (dev_cmp (dev_of None dev) NoDev))) ord.Equal))
        ≡ is_gt (stage_cmp (stage_of None pre dev post None) (Pre Rc 18446744073709551615))
    go (Some q) post dev h = below q.kind q.number _ h
    go None None None h = refl
    go None None (Some d) h = refl
    go None (Some w) None h = refl
    go None (Some w) (Some d) h = refl

past_final : (e : ℕ) (r : List ℕ) (v : Record) → IsPast None v (after_posts e r None)
past_final e r v = go v.pre v.post v.dev
  where
    pre_below : (k : PrereleaseKind) (n : ℕ) → stage_cmp (Pre k n) Final ≡ ord.Less
    pre_below Alpha n = refl
    pre_below Beta n = refl
    pre_below Rc n = refl

    staged : (O T : Ordering) → O ≡ ord.Less → not (is_lt (ordering_then (ordering_then O T) ord.Equal)) ≡ is_gt O
    staged O T e = rw e refl

    go : (pre : Option Prerelease) (post dev : Option ℕ) →
        not (is_lt (ordering_then (ordering_then (stage_cmp (stage_of None pre dev post None) Final) (ordering_then (post_cmp (post_of None post) (PostTop 0)) (dev_cmp (dev_of None dev) NoDev))) ord.Equal))
        ≡ is_gt (stage_cmp (stage_of None pre dev post None) Final)
    go (Some q) post dev = staged _ _ (pre_below q.kind q.number)
    go None None None = refl
    go None None (Some d) = refl
    go None (Some w) None = refl
    go None (Some w) (Some d) = refl

pub past_posts : (e : ℕ) (r : List ℕ) (pre : Option Prerelease) (v : Record) → HasSuffixesThatFit v → IsPast pre v (after_posts e r pre)
past_posts e r None v f = past_final e r v
past_posts e r (Some p) v f =
    by_next (IsPast (Some p) v) p.number (pre_dev e r p.kind) (after_kind e r p.kind)
    (λ n h. past_number p.kind p.number n e r v h)
    (λ h. subst (λ m. IsPast (Some (record { kind = p.kind; number = m })) v (after_kind e r p.kind)) (sym h) (past_kind p.kind e r v f))

-- ---- after a version and its local versions

-- what is not below that place is above these parts
abbrev pub IsAfter : Record → Record → Record → Type 0
IsAfter s v next = not (is_lt (ordering_then (suffix_cmp (plain v) next) ord.Equal)) ≡ is_gt (ordering_then (suffix_cmp (plain v) (plain s)) ord.Equal)

abbrev parts : ℕ → List ℕ → Option Prerelease → Option ℕ → Option ℕ → Record
parts e r pre post dev = from_parts e r pre post dev []

-- by cases on how stages and posts compare: a dev part that is last
last_dev : (O P : Ordering) (dev : Option ℕ) → IfSome dev Fits →
    not (is_lt (ordering_then (ordering_then O (ordering_then P (dev_cmp (dev_of None dev) NoDev))) ord.Equal)) ≡ is_gt (ordering_then (ordering_then O (ordering_then P (dev_cmp (dev_of None dev) (DevAt 18446744073709551615)))) ord.Equal)
last_dev ord.Less P dev f = refl
last_dev ord.Greater P dev f = refl
last_dev ord.Equal ord.Less dev f = refl
last_dev ord.Equal ord.Greater dev f = refl
last_dev ord.Equal ord.Equal None f = refl
last_dev ord.Equal ord.Equal (Some d) f = go d f
  where
    go : (d : ℕ) → d < 2 ^ 64 → false ≡ is_gt (ordering_then (nat_cmp d 18446744073709551615) ord.Equal)
    go d f = grind (arith, nat_tests)

after_last_dev : (e : ℕ) (r : List ℕ) (pre : Option Prerelease) (post : Option ℕ) (v : Record) → HasSuffixesThatFit v → IsAfter (parts e r pre post (Some 18446744073709551615)) v (after_dev_releases e r pre post)
after_last_dev e r (Some p) post v f = last_dev (stage_cmp (stage v) (Pre p.kind p.number)) (post_cmp (post_of None v.post) (post_of None post)) v.dev f.dev
after_last_dev e r None (Some w) v f = last_dev (stage_cmp (stage v) Final) (post_cmp (post_of None v.post) (PostAt w)) v.dev f.dev
after_last_dev e r None None v f = go v.pre v.post v.dev f.dev
  where
    alpha : (k : PrereleaseKind) (n : ℕ) (t u : Ordering) → is_lt t ≡ false →
        not (is_lt (ordering_then (ordering_then (stage_cmp (Pre k n) (Pre Alpha 0)) t) ord.Equal)) ≡ is_gt (ordering_then (ordering_then (stage_cmp (Pre k n) Dev) u) ord.Equal)
    alpha Alpha n t u h = first n t h
      where
        first : (n : ℕ) (t : Ordering) → is_lt t ≡ false → not (is_lt (ordering_then (ordering_then (nat_cmp n 0) t) ord.Equal)) ≡ true
        first n t h = grind (arith, nat_tests)
    alpha Beta n t u h = refl
    alpha Rc n t u h = refl

    go : (pre : Option Prerelease) (post dev : Option ℕ) → IfSome dev Fits →
        not (is_lt (ordering_then (ordering_then (stage_cmp (stage_of None pre dev post None) (Pre Alpha 0)) (tail post dev)) ord.Equal))
        ≡ is_gt (ordering_then (ordering_then (stage_cmp (stage_of None pre dev post None) Dev) (ordering_then (post_cmp (post_of None post) NoPost) (dev_cmp (dev_of None dev) (DevAt 18446744073709551615)))) ord.Equal)
    go (Some q) post dev h = alpha q.kind q.number (tail post dev) _ (tail_from post dev)
    go None None None h = refl
    go None None (Some d) h = last d h
      where
        last : (d : ℕ) → d < 2 ^ 64 → false ≡ is_gt (ordering_then (nat_cmp d 18446744073709551615) ord.Equal)
        last d h = grind (arith, nat_tests)
    go None (Some w) None h = refl
    go None (Some w) (Some d) h = refl

-- nothing of the same stage is above the last post-release
last_post : (O : Ordering) (post dev : Option ℕ) → IfSome post Fits →
    is_gt O ≡ is_gt (ordering_then (ordering_then O (ordering_then (post_cmp (post_of None post) (PostAt 18446744073709551615)) (dev_cmp (dev_of None dev) NoDev))) ord.Equal)
last_post ord.Less post dev f = refl
last_post ord.Greater post dev f = refl
last_post ord.Equal None dev f = refl
last_post ord.Equal (Some w) None f = go w f
  where
    go : (w : ℕ) → w < 2 ^ 64 → false ≡ is_gt (ordering_then (ordering_then (nat_cmp w 18446744073709551615) ord.Equal) ord.Equal)
    go w f = grind (arith, nat_tests)
last_post ord.Equal (Some w) (Some d) f = go w f
  where
    go : (w : ℕ) → w < 2 ^ 64 → false ≡ is_gt (ordering_then (ordering_then (nat_cmp w 18446744073709551615) ord.Less) ord.Equal)
    go w f = grind (arith, nat_tests)

post_stage_plain : (pre : Option Prerelease) (w : ℕ) → stage_of None pre None (Some w) None ≡ plain_stage pre
post_stage_plain None w = refl
post_stage_plain (Some p) w = refl

after_last_post : (e : ℕ) (r : List ℕ) (pre : Option Prerelease) (v : Record) → HasSuffixesThatFit v → IsAfter (parts e r pre (Some 18446744073709551615) None) v (after_posts e r pre)
after_last_post e r pre v f =
    past_posts e r pre v f
    ∙ last_post (stage_cmp (stage v) (plain_stage pre)) v.post v.dev f.post
    ∙ ap (λ o. is_gt (ordering_then (ordering_then (stage_cmp (stage v) o) (ordering_then (post_cmp (post_of None v.post) (PostAt 18446744073709551615)) (dev_cmp (dev_of None v.dev) NoDev))) ord.Equal)) (sym (post_stage_plain pre 18446744073709551615))

first_post : (O : Ordering) (post dev : Option ℕ) →
    not (is_lt (ordering_then (ordering_then O (ordering_then (post_cmp (post_of None post) (PostAt 0)) (dev_cmp (dev_of None dev) (DevAt 0)))) ord.Equal))
    ≡ is_gt (ordering_then (ordering_then O (ordering_then (post_cmp (post_of None post) NoPost) (dev_cmp (dev_of None dev) NoDev))) ord.Equal)
first_post ord.Less post dev = refl
first_post ord.Greater post dev = refl
first_post ord.Equal None None = refl
first_post ord.Equal None (Some d) = refl
first_post ord.Equal (Some w) None = go w
  where
    go : (w : ℕ) → not (is_lt (ordering_then (ordering_then (nat_cmp w 0) ord.Greater) ord.Equal)) ≡ true
    go w = grind (arith, nat_tests)
first_post ord.Equal (Some w) (Some d) = go w d
  where
    go : (w d : ℕ) → not (is_lt (ordering_then (ordering_then (nat_cmp w 0) (nat_cmp d 0)) ord.Equal)) ≡ true
    go w d = grind (arith, nat_tests)

after_plain : (e : ℕ) (r : List ℕ) (pre : Option Prerelease) (v : Record) → IsAfter (parts e r pre None None) v (parts e r pre (Some 0) (Some 0))
after_plain e r None v = first_post (stage_cmp (stage v) Final) v.post v.dev
after_plain e r (Some p) v = first_post (stage_cmp (stage v) (Pre p.kind p.number)) v.post v.dev

-- ---- all of them

pub after_suffixes : (e : ℕ) (r : List ℕ) (pre : Option Prerelease) (post dev : Option ℕ) (v : Record) → HasSuffixesThatFit v → IsAfter (parts e r pre post dev) v (after_parts e r pre post dev)
after_suffixes e r pre post (Some d) v f =
    by_next (IsAfter (parts e r pre post (Some d)) v) d _ _
    (λ n h. above_dev (parts e r pre post None) v d n h)
    (λ h. subst (λ m. IsAfter (parts e r pre post (Some m)) v (after_dev_releases e r pre post)) (sym h) (after_last_dev e r pre post v f))
after_suffixes e r pre (Some w) None v f =
    by_next (IsAfter (parts e r pre (Some w) None) v) w _ _
    (λ n h. above_post (parts e r pre None None) v w n h)
    (λ h. subst (λ m. IsAfter (parts e r pre (Some m) None) v (after_posts e r pre)) (sym h) (after_last_post e r pre v f))
after_suffixes e r pre None None v f = after_plain e r pre v
