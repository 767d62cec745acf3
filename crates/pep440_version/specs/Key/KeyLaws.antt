-- The order of keys is total. Releases compare as what is left of them without the zeros at their end.
use Rattle.std.proofs.Common.{◌≡◌, ℕ, zero, suc, if◌then◌else◌, List, [], ◌∷◌, refl, sym, ap, ◌∙◌, subst}
use Rattle.std.proofs.Math.Dec.{eqb-suc-zero}
use Rattle.std.proofs.Math.Nat.{zero-lt-suc}
use Rattle.std.specs.declared.cmp.Ordering.{Ordering}
use Rattle.std.specs.declared.cmp.Ordering.TheVariants.{Less, Equal, Greater}
use Rattle.std.specs.Ordering.{nat_cmp, on, ordering_then, then_cmp, eq_by_cmp, as_partial_cmp}
use Rattle.std.specs.Cmp.{IsPartialOrder, po, IsTotalOrder, IsEquivalence, eq_by_cmp_equiv, nat_cmp_total, nat_cmp_is, on_total, then_total}
use Rattle.std.specs.Cmp.Lexicographic.{lists_total, nat_list_cmp_total, slice_cmp}
use Rattle.pep440_version.specs.Key.{Key, key, key_cmp, record_cmp, release_cmp, stage_rank, post_rank, dev_rank, rank_cmp, segment_cmp}
use Rattle.pep440_version.specs.Record.{LocalSegmentValue, Text, Number}
use Rattle.pep440_version.specs.Key.Trim.{trim, prepend_trimmed}

below_suc : (y : ℕ) → nat_cmp 0 (suc y) ≡ Less
below_suc y = sym (nat_cmp_is 0 (suc y) Less (zero-lt-suc y))

above_zero : (x : ℕ) → nat_cmp (suc x) 0 ≡ Greater
above_zero x = sym (nat_cmp_is (suc x) 0 Greater (zero-lt-suc x))

-- a number that is not zero stays at the end
before_suc : (x : ℕ) → prepend_trimmed (suc x) [] ≡ suc x ∷ []
before_suc x = ap (λ b. if b then [] else suc x ∷ []) (eqb-suc-zero x)

trimmed_step : (x y : ℕ) (a b : List ℕ) → ordering_then (nat_cmp x y) (slice_cmp nat_cmp a b) ≡ slice_cmp nat_cmp (prepend_trimmed x a) (prepend_trimmed y b)
trimmed_step zero zero [] [] = refl
trimmed_step zero (suc y) [] [] = ap (λ o. ordering_then o Equal) (below_suc y) ∙ sym (ap (slice_cmp nat_cmp []) (before_suc y))
trimmed_step (suc x) zero [] [] = ap (λ o. ordering_then o Equal) (above_zero x) ∙ sym (ap (λ l. slice_cmp nat_cmp l []) (before_suc x))
trimmed_step (suc x) (suc y) [] [] = sym (λ i. slice_cmp nat_cmp (before_suc x i) (before_suc y i))
trimmed_step zero zero [] (b ∷ bs) = refl
trimmed_step zero (suc y) [] (b ∷ bs) = ap (λ o. ordering_then o Less) (below_suc y)
trimmed_step (suc x) y [] (b ∷ bs) = sym (ap (λ l. slice_cmp nat_cmp l (y ∷ b ∷ bs)) (before_suc x))
trimmed_step zero zero (a ∷ rest) [] = refl
trimmed_step (suc x) zero (a ∷ rest) [] = ap (λ o. ordering_then o Greater) (above_zero x)
trimmed_step x (suc y) (a ∷ rest) [] = sym (ap (λ l. slice_cmp nat_cmp (x ∷ a ∷ rest) l) (before_suc y))
trimmed_step x y (a ∷ rest) (b ∷ bs) = refl

pub release_cmp-trim : (xs ys : List ℕ) → release_cmp xs ys ≡ on trim (slice_cmp nat_cmp) xs ys
release_cmp-trim [] [] = refl
release_cmp-trim [] (y ∷ ys) = ap (ordering_then (nat_cmp 0 y)) (release_cmp-trim [] ys) ∙ trimmed_step 0 y [] (trim ys)
release_cmp-trim (x ∷ xs) [] = ap (ordering_then (nat_cmp x 0)) (release_cmp-trim xs []) ∙ trimmed_step x 0 (trim xs) []
release_cmp-trim (x ∷ xs) (y ∷ ys) = ap (ordering_then (nat_cmp x y)) (release_cmp-trim xs ys) ∙ trimmed_step x y (trim xs) (trim ys)

pub release_total : IsTotalOrder release_cmp
release_total = subst IsTotalOrder (λ i xs ys. sym (release_cmp-trim xs ys) i) (on_total trim nat_list_cmp_total)

-- a segment as a rank, a string and a number, which are compared in turn
abbrev pub segment_rank : LocalSegmentValue → ℕ
segment_rank (Text t) = 0
segment_rank (Number n) = 1

abbrev pub segment_string : LocalSegmentValue → List ℕ
segment_string (Text t) = t
segment_string (Number n) = []

abbrev pub segment_number : LocalSegmentValue → ℕ
segment_number (Text t) = 0
segment_number (Number n) = n

abbrev pub by_ranks : LocalSegmentValue → LocalSegmentValue → Ordering
by_ranks = then_cmp (on segment_rank nat_cmp) (then_cmp (on segment_string (slice_cmp nat_cmp)) (on segment_number nat_cmp))

none_behind : (a : Ordering) → ordering_then a Equal ≡ a
none_behind Less = refl
none_behind Equal = refl
none_behind Greater = refl

pub segment_cmp-ranks : (s t : LocalSegmentValue) → segment_cmp s t ≡ by_ranks s t
segment_cmp-ranks (Text s) (Text t) = sym (none_behind (slice_cmp nat_cmp s t))
segment_cmp-ranks (Text s) (Number n) = refl
segment_cmp-ranks (Number m) (Text t) = refl
segment_cmp-ranks (Number m) (Number n) = refl

pub segment_total : IsTotalOrder segment_cmp
segment_total =
    subst IsTotalOrder (λ i s t. sym (segment_cmp-ranks s t) i)
    (then_total (on_total segment_rank nat_cmp_total) (then_total (on_total segment_string nat_list_cmp_total) (on_total segment_number nat_cmp_total)))

rank_total : IsTotalOrder rank_cmp
rank_total = then_total (on_total (λ (p : ℕ × ℕ). p.0) nat_cmp_total) (on_total (λ (p : ℕ × ℕ). p.1) nat_cmp_total)

pub key_total : IsTotalOrder key_cmp
key_total = then_total (on_total (λ (k : Key). k.epoch) nat_cmp_total) (then_total (on_total (λ (k : Key). k.release) release_total)
    (then_total (on_total (λ (k : Key). k.stage) (on_total stage_rank rank_total))
    (then_total (on_total (λ (k : Key). k.post) (on_total post_rank rank_total))
    (then_total (on_total (λ (k : Key). k.dev) (on_total dev_rank rank_total))
    (on_total (λ (k : Key). k.local) (lists_total segment_total))))))

pub record_total : IsTotalOrder record_cmp
record_total = on_total key key_total

pub record_equiv : IsEquivalence (eq_by_cmp record_cmp)
record_equiv = eq_by_cmp_equiv record_total

pub record_po : IsPartialOrder (eq_by_cmp record_cmp) (as_partial_cmp record_cmp)
record_po = po record_total (λ x y. refl)
