-- Codes: bytes that compare as what they stand for and, where that ties, leave it to what follows them.
use Rattle.std.proofs.Common.{◌≡◌, ◌∙◌, ℕ, ◌+◌, ◌*◌, ◌<◌, List, [], ◌∷◌, ◌++◌, refl, sym, ap, append_assoc, arith, length}
use Rattle.std.proofs.Math.Nat.{mul_comm}
use Rattle.std.proofs.lemmas.List.Elements.{recursion_from_All}
use Rattle.std.specs.Cmp.Lexicographic.{slice_cmp}
use Rattle.std.specs.List.{All, AllByRecursion, flat_map}
use Rattle.std.specs.Ordering.{nat_cmp, ordering_then}
use Rattle.std.specs.declared.cmp.Ordering.{Ordering}
use Rattle.std.specs.declared.cmp.Ordering.TheVariants.{Less, Greater}
use Rattle.pep440_version.proofs.Ordering.Comparisons.{then_assoc}
use Rattle.pep440_version.proofs.Words.Blocks.{is_above, is_below, nat_cmp_block, nat_cmp_shift}
use Rattle.pep440_version.specs.Key.{local_cmp, rank_cmp, release_cmp, segment_cmp}
use Rattle.pep440_version.specs.Key.KeyLaws.{release_cmp-trim}
use Rattle.pep440_version.specs.Record.{Fits, LocalSegmentValue, SegmentFits, Text, Number}
use Rattle.pep440_version.specs.Key.Trim.{trim}
use Rattle.pep440_keys.proofs.Bytes.{needed_cmp, needed_le}
use Rattle.pep440_keys.specs.SortKeys.{HasNoZero, local_bytes, needed_bytes, number_bytes, rank_bytes, release_bytes, segment_bytes}

pub record IsCode {A : Type 0} (P : A → Type 0) (cmp : A → A → Ordering) (code : A → List ℕ) : Type 0 where
  pub splits : (a b : A) → P a → P b → (u v : List ℕ) → slice_cmp nat_cmp (code a ++ u) (code b ++ v) ≡ ordering_then (cmp a b) (slice_cmp nat_cmp u v)

-- ---- numbers and places

pub number_is_code : (base : ℕ) → IsCode Fits nat_cmp (number_bytes base)
number_is_code base = record {
  splits = λ m n p q u v.
      ap (λ o. ordering_then o (slice_cmp nat_cmp (needed_bytes m ++ u) (needed_bytes n ++ v))) (nat_cmp_shift base (length (needed_bytes m)) (length (needed_bytes n)))
      ∙ needed_cmp m n p q u v;
}

-- a rank and a count of bytes in one
rank_first : (r s : ℕ) (m n : ℕ) → nat_cmp (16 * r + length (needed_bytes m)) (16 * s + length (needed_bytes n)) ≡ ordering_then (nat_cmp r s) (nat_cmp (length (needed_bytes m)) (length (needed_bytes n)))
rank_first r s m n =
    (λ i. nat_cmp (mul_comm 16 r i + length (needed_bytes m)) (mul_comm 16 s i + length (needed_bytes n)))
    ∙ nat_cmp_block r (length (needed_bytes m)) s (length (needed_bytes n)) 16 (omega (arith, needed_le m)) (omega (arith, needed_le n))

pub place_is_code : IsCode (λ (p : ℕ × ℕ). Fits p.1) rank_cmp rank_bytes
place_is_code = record {
  splits = λ a b p q u v.
      let rest = slice_cmp nat_cmp (needed_bytes a.1 ++ u) (needed_bytes b.1 ++ v) in
      ap (λ o. ordering_then o rest) (rank_first a.0 b.0 a.1 b.1)
      ∙ then_assoc (nat_cmp a.0 b.0) (nat_cmp (length (needed_bytes a.1)) (length (needed_bytes b.1))) rest
      ∙ ap (ordering_then (nat_cmp a.0 b.0)) (needed_cmp a.1 b.1 p q u v)
      ∙ sym (then_assoc (nat_cmp a.0 b.0) (nat_cmp a.1 b.1) (slice_cmp nat_cmp u v));
}

-- ---- lists that end in 0

zero_below : (b : ℕ) → 0 < b → (u v : List ℕ) → slice_cmp nat_cmp (0 ∷ u) (b ∷ v) ≡ Less
zero_below b h u v = ap (λ o. ordering_then o (slice_cmp nat_cmp u v)) (is_below 0 b h)

above_zero : (b : ℕ) → 0 < b → (u v : List ℕ) → slice_cmp nat_cmp (b ∷ u) (0 ∷ v) ≡ Greater
above_zero b h u v = ap (λ o. ordering_then o (slice_cmp nat_cmp u v)) (is_above b 0 h)

regroup : (a b c d : List ℕ) → ((a ++ b) ++ c) ++ d ≡ a ++ ((b ++ c) ++ d)
regroup a b c d = ap (λ l. l ++ d) (append_assoc a b c) ∙ append_assoc a (b ++ c) d

-- a code that begins with a byte above 0
pub record Opens (code : List ℕ) : Type 0 where
  pub first : ℕ
  pub rest : List ℕ
  pub above : 0 < first
  pub is : code ≡ first ∷ rest

module _ {A : Type 0} {P : A → Type 0} {cmp : A → A → Ordering} {code : A → List ℕ} (c : IsCode P cmp code) (o : (a : A) → Opens (code a)) where
  abbrev ended : List A → List ℕ
  ended xs = flat_map code xs ++ 0 ∷ []

  elements : (xs ys : List A) → AllByRecursion P xs → AllByRecursion P ys → (u v : List ℕ) → slice_cmp nat_cmp (ended xs ++ u) (ended ys ++ v) ≡ ordering_then (slice_cmp cmp xs ys) (slice_cmp nat_cmp u v)
  elements [] [] p q u v = refl
  elements [] (y ∷ ys) p q u v =
      let w = o y in
      ap (λ l. slice_cmp nat_cmp (0 ∷ u) (((l ++ flat_map code ys) ++ 0 ∷ []) ++ v)) w.is ∙ zero_below w.first w.above u (((w.rest ++ flat_map code ys) ++ 0 ∷ []) ++ v)
  elements (x ∷ xs) [] p q u v =
      let w = o x in
      ap (λ l. slice_cmp nat_cmp (((l ++ flat_map code xs) ++ 0 ∷ []) ++ u) (0 ∷ v)) w.is ∙ above_zero w.first w.above (((w.rest ++ flat_map code xs) ++ 0 ∷ []) ++ u) v
  elements (x ∷ xs) (y ∷ ys) p q u v =
      (λ i. slice_cmp nat_cmp (regroup (code x) (flat_map code xs) (0 ∷ []) u i) (regroup (code y) (flat_map code ys) (0 ∷ []) v i))
      ∙ c.splits x y p.0 q.0 (ended xs ++ u) (ended ys ++ v)
      ∙ ap (ordering_then (cmp x y)) (elements xs ys p.1 q.1 u v)
      ∙ sym (then_assoc (cmp x y) (slice_cmp cmp xs ys) (slice_cmp nat_cmp u v))

  pub ended_is_code : IsCode (All P) (slice_cmp cmp) ended
  ended_is_code = record { splits = λ xs ys p q u v. elements xs ys (recursion_from_All P xs p) (recursion_from_All P ys q) u v }

-- ---- releases

pub number_opens : (n : ℕ) → Opens (number_bytes 1 n)
number_opens n = record { first = 1 + length (needed_bytes n); rest = needed_bytes n; above = omega arith; is = refl }

pub release_is_code : IsCode (λ xs. All Fits (trim xs)) release_cmp release_bytes
release_is_code = record {
  splits = λ xs ys p q u v.
      (ended_is_code (number_is_code 1) number_opens).splits (trim xs) (trim ys) p q u v
      ∙ sym (ap (λ o. ordering_then o (slice_cmp nat_cmp u v)) (release_cmp-trim xs ys));
}

-- ---- local parts

-- a text is a list of bytes above 0 that ends in 0
texts : (s t : List ℕ) → AllByRecursion (λ b. 0 < b) s → AllByRecursion (λ b. 0 < b) t → (u v : List ℕ)
    → slice_cmp nat_cmp ((s ++ 0 ∷ []) ++ u) ((t ++ 0 ∷ []) ++ v) ≡ ordering_then (slice_cmp nat_cmp s t) (slice_cmp nat_cmp u v)
texts [] [] p q u v = refl
texts [] (b ∷ t) p q u v = zero_below b q.0 u ((t ++ 0 ∷ []) ++ v)
texts (a ∷ s) [] p q u v = above_zero a p.0 ((s ++ 0 ∷ []) ++ u) v
texts (a ∷ s) (b ∷ t) p q u v = ap (ordering_then (nat_cmp a b)) (texts s t p.1 q.1 u v) ∙ sym (then_assoc (nat_cmp a b) (slice_cmp nat_cmp s t) (slice_cmp nat_cmp u v))

-- a segment that fits and has no zero byte
abbrev pub IsPlain : LocalSegmentValue → Type 0
IsPlain s = SegmentFits s × HasNoZero s

segments : (s t : LocalSegmentValue) → IsPlain s → IsPlain t → (u v : List ℕ) → slice_cmp nat_cmp (segment_bytes s ++ u) (segment_bytes t ++ v) ≡ ordering_then (segment_cmp s t) (slice_cmp nat_cmp u v)
segments (Text s) (Text t) p q u v = texts s t (recursion_from_All _ s p.1) (recursion_from_All _ t q.1) u v
segments (Text s) (Number n) p q u v =
    ap (λ o. ordering_then o (slice_cmp nat_cmp ((s ++ 0 ∷ []) ++ u) (needed_bytes n ++ v))) (is_below 1 (2 + length (needed_bytes n)) (omega arith))
segments (Number m) (Text t) p q u v =
    ap (λ o. ordering_then o (slice_cmp nat_cmp (needed_bytes m ++ u) ((t ++ 0 ∷ []) ++ v))) (is_above (2 + length (needed_bytes m)) 1 (omega arith))
segments (Number m) (Number n) p q u v = (number_is_code 2).splits m n p.0 q.0 u v

pub segment_opens : (s : LocalSegmentValue) → Opens (segment_bytes s)
segment_opens (Text t) = record { first = 1; rest = t ++ 0 ∷ []; above = omega arith; is = refl }
segment_opens (Number n) = record { first = 2 + length (needed_bytes n); rest = needed_bytes n; above = omega arith; is = refl }

pub local_is_code : IsCode (All IsPlain) local_cmp local_bytes
local_is_code = ended_is_code (record { splits = segments }) segment_opens
