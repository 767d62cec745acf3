-- Numbers one behind another in one, and releases of four numbers at most: the front ones decide first.
use Rattle.std.proofs.Common.{◌≡◌, ◌∙◌, ℕ, ◌+◌, ◌*◌, ◌<◌, ◌≤◌, List, [], ◌∷◌, refl, sym, ap, arith, inl, inr, get_or, drop, length, length-drop, ◌==◌, Option, None, Some, slice_index, true, false, Bool, ◌&&◌, nat_le}
use Rattle.std.specs.Ordering.{nat_cmp, ordering_then}
use Rattle.std.specs.Cmp.{nat_cmp_is}
use Rattle.std.specs.declared.cmp.Ordering.{Ordering}
use Rattle.std.specs.declared.cmp.Ordering.TheVariants.{Less, Equal, Greater}
use Rattle.std.proofs.lemmas.Bool.{cases_order}
use Rattle.std.proofs.lemmas.Grind.{get_or_after_one}
use Rattle.std.proofs.Math.Nat.{mul-le-mul_left, mul_comm}
use Rattle.pep440_version.specs.Key.{release_cmp}
use Rattle.pep440_version.proofs.Ordering.Comparisons.{then_none}
use Rattle.std.proofs.lemmas.Bool.Decides.{nat_tests}
use Rattle.pep440_version.specs.declared.prerelease.Prerelease.{Prerelease}
use Rattle.pep440_version.specs.declared.prerelease.PrereleaseKind.{PrereleaseKind}
use Rattle.pep440_version.specs.Record.{Record, LocalSegmentValue}
use Rattle.pep440_version.specs.Word.{is_short, is_small, is_packed, suffix, suffix_of}
use Rattle.pep440_version.proofs.Words.Suffixes.{Suffix, Min, Dev, Alpha, Beta, Rc, Plain, Post, Max, class_of, number_of, record_of}
use Rattle.pep440_version.specs.declared.prerelease.PrereleaseKind.TheVariants as kind

pub is_below : (a b : ℕ) → a < b → nat_cmp a b ≡ Less
is_below a b h = sym (nat_cmp_is a b Less h)

pub is_above : (a b : ℕ) → b < a → nat_cmp a b ≡ Greater
is_above a b h = sym (nat_cmp_is a b Greater h)

pub is_same : (a b : ℕ) → a ≡ b → nat_cmp a b ≡ Equal
is_same a b h = sym (nat_cmp_is a b Equal h)

-- a number in front of a smaller one decides
higher : (a b c d k : ℕ) → b < k → a < c → a * k + b < c * k + d
higher a b c d k small h =
    let step : k * (a + 1) ≤ k * c = mul-le-mul_left k (omega arith) in
    grind (arith, step, small, mul_comm)

-- the same number in front of both
pub nat_cmp_shift : (s b d : ℕ) → nat_cmp (s + b) (s + d) ≡ nat_cmp b d
nat_cmp_shift s b d =
    elim (cases_order b d) [
      | inl e ↦ is_same _ _ (ap (λ x. s + x) e) ∙ sym (is_same b d e)
      | inr t ↦ elim t [ inl h ↦ is_below (s + b) (s + d) (omega arith) ∙ sym (is_below b d h) | inr h ↦ is_above (s + b) (s + d) (omega arith) ∙ sym (is_above b d h) ]
    ]

-- two numbers in one: the front ones first, and then the back ones
pub nat_cmp_block : (a b c d k : ℕ) → b < k → d < k → nat_cmp (a * k + b) (c * k + d) ≡ ordering_then (nat_cmp a c) (nat_cmp b d)
nat_cmp_block a b c d k p q =
    elim (cases_order a c) [
      | inl e ↦ ap (λ x. nat_cmp (a * k + b) (x * k + d)) (sym e) ∙ nat_cmp_shift (a * k) b d ∙ sym (ap (λ o. ordering_then o (nat_cmp b d)) (is_same a c e))
      | inr s ↦ elim s [
        | inl h ↦ is_below _ _ (higher a b c d k p h) ∙ sym (ap (λ o. ordering_then o (nat_cmp b d)) (is_below a c h))
        | inr h ↦ is_above _ _ (higher c d a b k q h) ∙ sym (ap (λ o. ordering_then o (nat_cmp b d)) (is_above a c h))
      ]
    ]

-- the first numbers, and then the rest
pub release_step : (xs ys : List ℕ) → release_cmp xs ys ≡ ordering_then (nat_cmp (get_or xs 0 0) (get_or ys 0 0)) (release_cmp (drop 1 xs) (drop 1 ys))
release_step [] [] = refl
release_step [] (y ∷ ys) = refl
release_step (x ∷ xs) [] = refl
release_step (x ∷ xs) (y ∷ ys) = refl

-- four numbers at most on both sides
abbrev pub four_cmp : List ℕ → List ℕ → Ordering
four_cmp xs ys =
    ordering_then (nat_cmp (get_or xs 0 0) (get_or ys 0 0)) (ordering_then (nat_cmp (get_or xs 1 0) (get_or ys 1 0)) (ordering_then (nat_cmp (get_or xs 2 0) (get_or ys 2 0)) (nat_cmp (get_or xs 3 0) (get_or ys 3 0))))

no_more : (xs ys : List ℕ) → length xs ≤ 0 → length ys ≤ 0 → release_cmp xs ys ≡ Equal
no_more [] [] p q = refl
no_more (x ∷ xs) ys p q = absurd (omega arith)
no_more [] (y ∷ ys) p q = absurd (omega arith)

one_more : (xs ys : List ℕ) → length xs ≤ 1 → length ys ≤ 1 → release_cmp xs ys ≡ nat_cmp (get_or xs 0 0) (get_or ys 0 0)
one_more xs ys p q =
    release_step xs ys ∙ ap (ordering_then (nat_cmp (get_or xs 0 0) (get_or ys 0 0))) (no_more (drop 1 xs) (drop 1 ys) (omega (arith, length-drop 1 xs)) (omega (arith, length-drop 1 ys)))
    ∙ then_none _

-- one number more in front
more : (n : ℕ) (F : List ℕ → List ℕ → Ordering) → ((xs ys : List ℕ) → length xs ≤ n → length ys ≤ n → release_cmp xs ys ≡ F xs ys)
    → (xs ys : List ℕ) → length xs ≤ n + 1 → length ys ≤ n + 1 → release_cmp xs ys ≡ ordering_then (nat_cmp (get_or xs 0 0) (get_or ys 0 0)) (F (drop 1 xs) (drop 1 ys))
more n F h xs ys p q =
    release_step xs ys ∙ ap (ordering_then (nat_cmp (get_or xs 0 0) (get_or ys 0 0))) (h (drop 1 xs) (drop 1 ys) (omega (arith, length-drop 1 xs)) (omega (arith, length-drop 1 ys)))

pub release_four : (xs ys : List ℕ) → length xs ≤ 4 → length ys ≤ 4 → release_cmp xs ys ≡ four_cmp xs ys
release_four xs ys p q =
    more 3 _ (more 2 _ (more 1 _ one_more)) xs ys p q ∙ simp get_or_after_one

-- ---- what a packed record is: a short release and one suffix, and nothing else

pub both : (a b : Bool) → (a && b) ≡ true → (a ≡ true) × (b ≡ true)
both true b e = (refl, e)
both false b e = cc e

pub below : (a b : ℕ) → nat_le a b ≡ true → a ≤ b
below a b e = grind (arith, nat_tests)

pub same : (a b : ℕ) → (a == b) ≡ true → a ≡ b
same a b e = grind (arith, nat_tests)

pub record IsShort (release : List ℕ) : Type 0 where
  pub few : length release ≤ 4
  pub first : slice_index release 0 ≤ 65535
  pub second : slice_index release 1 ≤ 255
  pub third : slice_index release 2 ≤ 255
  pub fourth : slice_index release 3 ≤ 255

short : (xs : List ℕ) → is_short xs ≡ true → IsShort xs
short xs e =
    let a = both _ _ e in
    let b = both _ _ a.1 in
    let c = both _ _ b.1 in
    let d = both _ _ c.1 in
    record { few = below _ _ a.0; first = below _ _ b.0; second = below _ _ c.0; third = below _ _ d.0; fourth = below _ _ d.1 }

no_segments : (xs : List LocalSegmentValue) → length xs ≡ 0 → xs ≡ []
no_segments [] e = refl
no_segments (x ∷ xs) e = absurd (omega arith)

-- a record with one suffix at most is that of its release and that suffix
pub record OfSuffix (r : Record) : Type 0 where
  pub only : Suffix
  pub found : suffix r ≡ Some (class_of only, number_of only)
  pub small : number_of only ≤ 2097151
  pub same : r ≡ record_of r.release only

abbrev made : ℕ → List ℕ → Option ℕ → Option ℕ → Option Prerelease → Option ℕ → Option ℕ → List LocalSegmentValue → Record
made e release min dev pre post max local = record { epoch = e; release = release; pre = pre; post = post; dev = dev; local = local; min = min; max = max }

of_pre : (e : ℕ) (release : List ℕ) (k : PrereleaseKind) (n : ℕ) (local : List LocalSegmentValue) → e ≡ 0 → local ≡ [] → n ≤ 2097151
    → OfSuffix (made e release None None (Some (record { kind = k; number = n })) None None local)
of_pre e release kind.Alpha n l z s h = record { only = Alpha n; found = refl; small = h; same = λ i. made (z i) release None None (Some (record { kind = kind.Alpha; number = n })) None None (s i) }
of_pre e release kind.Beta n l z s h = record { only = Beta n; found = refl; small = h; same = λ i. made (z i) release None None (Some (record { kind = kind.Beta; number = n })) None None (s i) }
of_pre e release kind.Rc n l z s h = record { only = Rc n; found = refl; small = h; same = λ i. made (z i) release None None (Some (record { kind = kind.Rc; number = n })) None None (s i) }

of_suffix : (e : ℕ) (release : List ℕ) (min dev : Option ℕ) (pre : Option Prerelease) (post max : Option ℕ) (local : List LocalSegmentValue) → e ≡ 0 → local ≡ []
    → is_small (suffix_of min dev pre post max) ≡ true → OfSuffix (made e release min dev pre post max local)
of_suffix e release (Some n) None None None None l z s h = record { only = Min n; found = refl; small = below _ _ h; same = λ i. made (z i) release (Some n) None None None None (s i) }
of_suffix e release None (Some n) None None None l z s h = record { only = Dev n; found = refl; small = below _ _ h; same = λ i. made (z i) release None (Some n) None None None (s i) }
of_suffix e release None None (Some p) None None l z s h = of_pre e release p.kind p.number l z s (below _ _ h)
of_suffix e release None None None (Some n) None l z s h = record { only = Post n; found = refl; small = below _ _ h; same = λ i. made (z i) release None None None (Some n) None (s i) }
of_suffix e release None None None None (Some n) l z s h = record { only = Max n; found = refl; small = below _ _ h; same = λ i. made (z i) release None None None None (Some n) (s i) }
of_suffix e release None None None None None l z s h = record { only = Plain; found = refl; small = below _ _ h; same = λ i. made (z i) release None None None None None (s i) }
of_suffix e release min dev pre post max l z s h = cc h

pub record IsPacked (r : Record) : Type 0 where
  pub short : IsShort r.release
  pub local_segment : OfSuffix r
  pub no_local : r.local ≡ []

pub packed : (r : Record) → is_packed r ≡ true → IsPacked r
packed r e =
    let a = both _ _ e in
    let b = both _ _ a.1 in
    let c = both _ _ b.1 in
    let none : r.local ≡ [] = no_segments r.local (same _ _ b.0) in
    record { short = short r.release c.0; local_segment = of_suffix r.epoch r.release r.min r.dev r.pre r.post r.max r.local (same _ _ a.0) none c.1; no_local = none }
