-- What the suffixes of plain versions say of each other, by cases.
use Rattle.std.proofs.Common.{◌≡◌, ℕ, ◌+◌, Bool, true, false, not, ◌&&◌, ◌||◌, Option, Some, None, is_some, refl, sym, ap, ◌∙◌, arith}
use mathlib.Core.Bool.{true≢false}
use Rattle.std.proofs.lemmas.Bool.Decides.{nat_tests}
use Rattle.std.specs.Ordering.{nat_cmp, ordering_then, is_lt, is_gt}
use Rattle.std.specs.declared.cmp.Ordering.{Ordering}
use Rattle.std.specs.declared.cmp.Ordering.TheVariants as ord
use Rattle.pep440_version.specs.Key.{suffix_cmp}
use Rattle.pep440_rs.proofs.Agreement.VersionOrder.{plain}
use Rattle.pep440_version.specs.Key.{Min, Dev, Pre, Final, NoPost, PostAt, PostTop, DevAt, NoDev, stage_of, post_of, dev_of, stage_cmp, post_cmp, dev_cmp}
use Rattle.pep440_version.specs.Record.{Record}
use Rattle.pep440_version.specs.declared.prerelease.Prerelease.{Prerelease}
use Rattle.pep440_version.specs.declared.prerelease.PrereleaseKind.{PrereleaseKind}
use Rattle.pep440_version.specs.declared.prerelease.PrereleaseKind.TheVariants.{Alpha, Beta, Rc}

-- ---- stages

-- a pre-release is above Min, below Final, and above Dev
pre_above_min : (k : PrereleaseKind) (n : ℕ) → stage_cmp (Pre k n) Min ≡ ord.Greater
pre_above_min Alpha n = refl
pre_above_min Beta n = refl
pre_above_min Rc n = refl

pre_above_dev : (k : PrereleaseKind) (n : ℕ) → stage_cmp (Pre k n) Dev ≡ ord.Greater
pre_above_dev Alpha n = refl
pre_above_dev Beta n = refl
pre_above_dev Rc n = refl

pre_below_final : (k : PrereleaseKind) (n : ℕ) → stage_cmp (Pre k n) Final ≡ ord.Less
pre_below_final Alpha n = refl
pre_below_final Beta n = refl
pre_below_final Rc n = refl

-- above a Min
pub above_min : (pre : Option Prerelease) (post dev : Option ℕ) → stage_cmp (stage_of None pre dev post None) Min ≡ ord.Greater
above_min (Some p) post dev = pre_above_min p.kind p.number
above_min None None (Some d) = refl
above_min None None None = refl
above_min None (Some p) None = refl
above_min None (Some p) (Some d) = refl

-- not above a Final
upto_final : (pre : Option Prerelease) (post dev : Option ℕ) → is_gt (stage_cmp (stage_of None pre dev post None) Final) ≡ false
upto_final (Some p) post dev = ap is_gt (pre_below_final p.kind p.number)
upto_final None None (Some d) = refl
upto_final None None None = refl
upto_final None (Some p) None = refl
upto_final None (Some p) (Some d) = refl

-- below a plain Final there are pre-releases alone
below_final : (pre : Option Prerelease) (post dev : Option ℕ) →
    is_lt (ordering_then (stage_cmp (stage_of None pre dev post None) Final) (ordering_then (post_cmp (post_of None post) NoPost) (dev_cmp (dev_of None dev) NoDev))) ≡ true →
    is_some pre || is_some dev ≡ true
below_final (Some k) post dev h = refl
below_final None None (Some d) h = refl
below_final None None None h = h
below_final None (Some p) (Some d) h = refl
below_final None (Some p) None h = h

zero_least : (d : ℕ) → is_lt (nat_cmp d 0) ≡ false
zero_least d = grind (arith, nat_tests)

-- not below the first developmental release
pub from_dev : (pre : Option Prerelease) (post dev : Option ℕ) →
    is_lt (ordering_then (stage_cmp (stage_of None pre dev post None) Dev) (ordering_then (post_cmp (post_of None post) NoPost) (dev_cmp (dev_of None dev) (DevAt 0)))) ≡ false
from_dev (Some p) post dev = ap (λ o. is_lt (ordering_then o (ordering_then (post_cmp (post_of None post) NoPost) (dev_cmp (dev_of None dev) (DevAt 0))))) (pre_above_dev p.kind p.number)
from_dev None None (Some d) = zero_least d
from_dev None None None = refl
from_dev None (Some p) None = refl
from_dev None (Some p) (Some d) = refl

-- the stage with a dev is the same whatever its number, and so is that with a post
pub dev_stage : (pre : Option Prerelease) (post : Option ℕ) (d n : ℕ) → stage_of None pre (Some d) post None ≡ stage_of None pre (Some n) post None
dev_stage (Some p) post d n = refl
dev_stage None None d n = refl
dev_stage None (Some p) d n = refl

pub post_stage : (pre : Option Prerelease) (dev dev' : Option ℕ) (p n : ℕ) → stage_of None pre dev (Some p) None ≡ stage_of None pre dev' (Some n) None
post_stage (Some k) dev dev' p n = refl
post_stage None None None p n = refl
post_stage None (Some d) None p n = refl
post_stage None None (Some e) p n = refl
post_stage None (Some d) (Some e) p n = refl

-- ---- `<`: where s is no pre-release, what is below it is a pre-release or below its post-releases

pub early : (s v : Record) → is_some s.pre || is_some s.dev ≡ false → not (is_some s.post) || (is_some s.pre || is_some s.dev) ≡ true →
    is_lt (suffix_cmp (plain v) (plain s)) ≡ true → is_some v.pre || is_some v.dev ≡ true
early s v = go s.pre s.post s.dev
  where
    go : (pre : Option Prerelease) (post dev : Option ℕ) → is_some pre || is_some dev ≡ false → not (is_some post) || (is_some pre || is_some dev) ≡ true →
        is_lt (ordering_then (stage_cmp (stage_of None v.pre v.dev v.post None) (stage_of None pre dev post None)) (ordering_then (post_cmp (post_of None v.post) (post_of None post)) (dev_cmp (dev_of None v.dev) (dev_of None dev)))) ≡ true →
        is_some v.pre || is_some v.dev ≡ true
    go None None None n h k = below_final v.pre v.post v.dev k
    go None (Some p) None n h k = absurd (true≢false (sym h))
    go (Some k) post dev n h l = absurd (true≢false n)
    go None post (Some d) n h l = absurd (true≢false n)

-- ---- `>` a version with dev: above it is from the next one on

keep : (P : Ordering) → is_gt P ≡ is_gt (ordering_then P ord.Equal)
keep ord.Less = refl
keep ord.Equal = refl
keep ord.Greater = refl

-- by cases on how the stages compare
stages : (O P P' : Ordering) → not (is_lt P) ≡ is_gt P' → not (is_lt (ordering_then (ordering_then O P) ord.Equal)) ≡ is_gt (ordering_then (ordering_then O P') ord.Equal)
stages ord.Less P P' h = refl
stages ord.Greater P P' h = refl
stages ord.Equal ord.Less P' h = h ∙ keep P'
stages ord.Equal ord.Equal P' h = h ∙ keep P'
stages ord.Equal ord.Greater P' h = h ∙ keep P'

inner_then : (O D D' : Ordering) → not (is_lt D) ≡ is_gt D' → not (is_lt (ordering_then O D)) ≡ is_gt (ordering_then O D')
inner_then ord.Less D D' h = refl
inner_then ord.Greater D D' h = refl
inner_then ord.Equal D D' h = h

dev_step : (dev : Option ℕ) (d n : ℕ) → n ≡ d + 1 → not (is_lt (dev_cmp (dev_of None dev) (DevAt n))) ≡ is_gt (dev_cmp (dev_of None dev) (DevAt d))
dev_step None d n e = refl
dev_step (Some k) d n e = go k d n e
  where
    go : (k d n : ℕ) → n ≡ d + 1 → not (is_lt (nat_cmp k n)) ≡ is_gt (nat_cmp k d)
    go k d n e = grind (arith, nat_tests)

pub above_dev : (s v : Record) (d n : ℕ) → n ≡ d + 1 →
    not (is_lt (ordering_then (suffix_cmp (plain v) (record (plain s) { dev = Some n })) ord.Equal)) ≡ is_gt (ordering_then (suffix_cmp (plain v) (record (plain s) { dev = Some d })) ord.Equal)
above_dev s v d n e =
    rw (dev_stage s.pre s.post n d)
    (stages (stage_cmp (stage_of None v.pre v.dev v.post None) (stage_of None s.pre (Some d) s.post None)) _ _
    (inner_then (post_cmp (post_of None v.post) (post_of None s.post)) _ _ (dev_step v.dev d n e)))

-- ---- `>` a post-release: above it is from the first developmental release of the next one on

post_step : (post dev : Option ℕ) (p n : ℕ) → n ≡ p + 1 →
    not (is_lt (ordering_then (post_cmp (post_of None post) (PostAt n)) (dev_cmp (dev_of None dev) (DevAt 0))))
    ≡ is_gt (ordering_then (post_cmp (post_of None post) (PostAt p)) (dev_cmp (dev_of None dev) NoDev))
post_step None dev p n e = refl
post_step (Some w) None p n e = go w p n e
  where
    go : (w p n : ℕ) → n ≡ p + 1 → not (is_lt (ordering_then (nat_cmp w n) ord.Greater)) ≡ is_gt (ordering_then (nat_cmp w p) ord.Equal)
    go w p n e = grind (arith, nat_tests)
post_step (Some w) (Some d) p n e = go w d p n e
  where
    go : (w d p n : ℕ) → n ≡ p + 1 → not (is_lt (ordering_then (nat_cmp w n) (nat_cmp d 0))) ≡ is_gt (ordering_then (nat_cmp w p) ord.Less)
    go w d p n e = grind (arith, nat_tests)

pub above_post : (s v : Record) (p n : ℕ) → n ≡ p + 1 →
    not (is_lt (ordering_then (suffix_cmp (plain v) (record (plain s) { post = Some n; dev = Some 0 })) ord.Equal)) ≡ is_gt (ordering_then (suffix_cmp (plain v) (record (plain s) { post = Some p; dev = None })) ord.Equal)
above_post s v p n e =
    rw (post_stage s.pre (Some 0) None n p)
    (stages (stage_cmp (stage_of None v.pre v.dev v.post None) (stage_of None s.pre None (Some p) None)) _ _ (post_step v.post v.dev p n e))

-- ---- `>` a version with neither: above its last post-release

pub above_max : (pre spre : Option Prerelease) (post dev : Option ℕ) → not (is_some post) || not (is_some spre) ≡ true →
    is_gt (ordering_then (ordering_then (stage_cmp (stage_of None pre dev post None) (stage_of None spre None None None)) (ordering_then (post_cmp (post_of None post) (PostTop 0)) (dev_cmp (dev_of None dev) NoDev))) ord.Equal)
    ≡ is_gt (ordering_then (ordering_then (stage_cmp (stage_of None pre dev post None) (stage_of None spre None None None)) (ordering_then (post_cmp (post_of None post) NoPost) (dev_cmp (dev_of None dev) NoDev))) ord.Equal)
    && not (is_some post)
above_max pre spre None dev h = go (stage_cmp (stage_of None pre dev None None) (stage_of None spre None None None)) dev
  where
    go : (O : Ordering) (dev : Option ℕ) →
        is_gt (ordering_then (ordering_then O (ordering_then ord.Less (dev_cmp (dev_of None dev) NoDev))) ord.Equal)
        ≡ is_gt (ordering_then (ordering_then O (ordering_then ord.Equal (dev_cmp (dev_of None dev) NoDev))) ord.Equal) && true
    go ord.Less dev = refl
    go ord.Greater dev = refl
    go ord.Equal None = refl
    go ord.Equal (Some d) = refl
above_max pre None (Some w) dev h = go (stage_cmp (stage_of None pre dev (Some w) None) Final) (upto_final pre (Some w) dev) ∙ sym (never _)
  where
    never : (b : Bool) → b && false ≡ false
    never true = refl
    never false = refl

    go : (O : Ordering) → is_gt O ≡ false → is_gt (ordering_then (ordering_then O (ordering_then ord.Less (dev_cmp (dev_of None dev) NoDev))) ord.Equal) ≡ false
    go ord.Less h = refl
    go ord.Equal h = refl
    go ord.Greater h = h
above_max pre (Some k) (Some w) dev h = absurd (true≢false (sym h))
