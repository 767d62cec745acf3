-- The order of versions by parts: epoch and release, then the suffixes, then the local part.
use Rattle.std.proofs.Common.{◌≡◌, ℕ, ◌==◌, Bool, true, false, not, ◌&&◌, ◌||◌, [], refl, ap, ◌∙◌, arith}
use Rattle.std.proofs.lemmas.Bool.Decides.{nat_tests}
use Rattle.std.specs.Ordering.{nat_cmp, ordering_then, ordering_reverse, is_lt, is_le, is_gt, is_ge, is_eq}
use Rattle.std.specs.declared.cmp.Ordering.{Ordering}
use Rattle.std.specs.declared.cmp.Ordering.TheVariants as ord
use Rattle.pep440_rs.specs.Agreement.{HasNoLocalOrSentinel}
use Rattle.pep440_rs.specs.Matching.{same_release}
use Rattle.pep440_version.specs.Key.{base_cmp, suffix_cmp, key, record_cmp, release_cmp, stage_cmp, post_cmp, dev_cmp, local_cmp}
use Rattle.pep440_version.specs.Key.KeyLaws.{record_total}
use Rattle.pep440_version.specs.Record.{Record, from_parts}

-- ---- by parts

then_assoc : (a b c : Ordering) → ordering_then a (ordering_then b c) ≡ ordering_then (ordering_then a b) c
then_assoc ord.Less b c = refl
then_assoc ord.Equal b c = refl
then_assoc ord.Greater b c = refl

pub by_parts : (v s : Record) → record_cmp v s ≡ ordering_then (base_cmp v s) (ordering_then (suffix_cmp v s) (local_cmp v.local s.local))
by_parts v s =
    let stage = stage_cmp (key v).stage (key s).stage in
    let post = post_cmp (key v).post (key s).post in
    let dev = dev_cmp (key v).dev (key s).dev in
    let local = local_cmp v.local s.local in
    then_assoc (nat_cmp v.epoch s.epoch) (release_cmp v.release s.release) _
    ∙ ap (ordering_then (base_cmp v s)) (ap (ordering_then stage) (then_assoc post dev local) ∙ then_assoc stage (ordering_then post dev) local)

-- the same release is an equal base
pub same_base : (s v : Record) → same_release s v ≡ is_eq (base_cmp v s)
same_base s v = go v.epoch s.epoch (release_cmp v.release s.release)
  where
    go : (x y : ℕ) (r : Ordering) → (x == y) && is_eq r ≡ is_eq (ordering_then (nat_cmp x y) r)
    go x y r = grind (arith, nat_tests)

-- ---- versions without local part and marks

abbrev pub plain : Record → Record
plain v = from_parts v.epoch v.release v.pre v.post v.dev []

pub is_plain : (v : Record) → HasNoLocalOrSentinel v → v ≡ plain v
is_plain v p i = record v { local = p.local i; min = p.min i; max = p.max i }

-- ---- turned comparisons

back_le : (r : Ordering) → is_le (ordering_reverse r) ≡ not (is_lt r)
back_le ord.Less = refl
back_le ord.Equal = refl
back_le ord.Greater = refl

back_lt : (r : Ordering) → is_lt (ordering_reverse r) ≡ is_gt r
back_lt ord.Less = refl
back_lt ord.Equal = refl
back_lt ord.Greater = refl

pub turn_le : (a b : Record) → is_le (record_cmp a b) ≡ not (is_lt (record_cmp b a))
turn_le a b = ap is_le (record_total.antisymm a b) ∙ back_le (record_cmp b a)

pub turn_lt : (a b : Record) → is_lt (record_cmp a b) ≡ is_gt (record_cmp b a)
turn_lt a b = ap is_lt (record_total.antisymm a b) ∙ back_lt (record_cmp b a)

pub ge_not_lt : (r : Ordering) → is_ge r ≡ not (is_lt r)
ge_not_lt ord.Less = refl
ge_not_lt ord.Equal = refl
ge_not_lt ord.Greater = refl

-- ---- tests of one segment

pub only_start : (b : Bool) → (b && true) || false ≡ b
only_start true = refl
only_start false = refl

pub only_end : (b : Bool) → b || false ≡ b
only_end true = refl
only_end false = refl

pub both : (a b c d : Bool) → a ≡ c → b ≡ d → a && b ≡ c && d
both a b c d p q = cc
