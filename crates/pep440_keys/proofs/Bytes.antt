-- Numbers by their bytes: of as many bytes the greatest first decides, and without the zeros in front how many there are; and capacity for bytes and their parts.
use Rattle.std.proofs.Common.{◌≡◌, ◌∙◌, ℕ, zero, suc, ◌+◌, ◌*◌, ◌/◌, ◌%◌, ◌^◌, ◌<◌, ◌≤◌, List, [], ◌∷◌, ◌++◌, refl, sym, ap, add-zero, append_assoc, arith, length, Option, None, if◌then◌else◌, subst}
use Rattle.std.proofs.Math.Arith.{mod-mul}
use Rattle.std.proofs.Math.Dec.{eqb-suc-zero}
use Rattle.std.proofs.Math.Nat.{div-one, div-eq_of_lt, mod-one, mod-lt, mod-eq_of_lt, one-le-pow, pow-succ', zero-lt-suc}
use Rattle.std.specs.Cmp.Lexicographic.{slice_cmp}
use Rattle.std.specs.Int.{byte_at, bytes_high_first, to_be_bytes, w16, w32, w64}
use Rattle.std.specs.List.{flat_map}
use Rattle.std.specs.Ordering.{nat_cmp, ordering_then}
use Rattle.std.specs.declared.cmp.Ordering.{Ordering}
use Rattle.pep440_version.proofs.Ordering.Comparisons.{then_assoc}
use Rattle.pep440_version.proofs.Words.Blocks.{is_above, is_below, is_same, nat_cmp_block}
use Rattle.pep440_version.specs.Key.{dev_of, dev_rank, post_of, post_rank, stage_of, stage_rank}
use Rattle.pep440_version.specs.Record.{Fits, from_release}
use Rattle.pep440_version.specs.Key.Trim.{trim}
use Rattle.pep440_version.specs.declared.prerelease.Prerelease.{Prerelease}
use Rattle.pep440_keys.specs.SortKeys.{key_bytes, needed_bytes, number_bytes, rank_bytes, trim_leading_zeros}
use Rattle.std.proofs.lemmas.List.{length-append}

-- ---- numbers by their bytes: of as many bytes the greatest first decides, and without the zeros in front how many there are

-- ---- bytes without the zeros in front

unpadded_suc : (b : ℕ) (rest : List ℕ) → trim_leading_zeros (suc b ∷ rest) ≡ suc b ∷ rest
unpadded_suc b rest = ap (λ t. if t then trim_leading_zeros rest else suc b ∷ rest) (eqb-suc-zero b)

pub unpadded_le : (bytes : List ℕ) → length (trim_leading_zeros bytes) ≤ length bytes
unpadded_le [] = omega arith
unpadded_le (zero ∷ rest) = omega (arith, unpadded_le rest)
unpadded_le (suc b ∷ rest) = omega (arith, ap length (unpadded_suc b rest))

-- lists of one length, whatever follows them
pub as_long : (xs ys : List ℕ) → length xs ≡ length ys → (u v : List ℕ) → slice_cmp nat_cmp (xs ++ u) (ys ++ v) ≡ ordering_then (slice_cmp nat_cmp xs ys) (slice_cmp nat_cmp u v)
as_long [] [] e u v = refl
as_long [] (y ∷ ys) e u v = absurd (omega arith)
as_long (x ∷ xs) [] e u v = absurd (omega arith)
as_long (x ∷ xs) (y ∷ ys) e u v =
    let rest : length xs ≡ length ys = omega arith in
    ap (ordering_then (nat_cmp x y)) (as_long xs ys rest u v) ∙ sym (then_assoc (nat_cmp x y) (slice_cmp nat_cmp xs ys) (slice_cmp nat_cmp u v))

-- what is left of two of them: how much, and then the bytes
abbrev pub counted_cmp : List ℕ → List ℕ → List ℕ → List ℕ → Ordering
counted_cmp xs ys u v = ordering_then (nat_cmp (length xs) (length ys)) (slice_cmp nat_cmp (xs ++ u) (ys ++ v))

pub unpadded_cmp : (xs ys : List ℕ) → length xs ≡ length ys → (u v : List ℕ) → counted_cmp (trim_leading_zeros xs) (trim_leading_zeros ys) u v ≡ ordering_then (slice_cmp nat_cmp xs ys) (slice_cmp nat_cmp u v)
unpadded_cmp [] [] e u v = refl
unpadded_cmp [] (y ∷ ys) e u v = absurd (omega arith)
unpadded_cmp (x ∷ xs) [] e u v = absurd (omega arith)
unpadded_cmp (zero ∷ xs) (zero ∷ ys) e u v = unpadded_cmp xs ys (omega arith) u v
unpadded_cmp (zero ∷ xs) (suc y ∷ ys) e u v =
    let fewer : length (trim_leading_zeros xs) < length (suc y ∷ ys) = omega (arith, unpadded_le xs) in
    ap (λ l. counted_cmp (trim_leading_zeros xs) l u v) (unpadded_suc y ys)
    ∙ ap (λ o. ordering_then o (slice_cmp nat_cmp (trim_leading_zeros xs ++ u) ((suc y ∷ ys) ++ v))) (is_below _ _ fewer)
    ∙ sym (ap (λ o. ordering_then (ordering_then o (slice_cmp nat_cmp xs ys)) (slice_cmp nat_cmp u v)) (is_below 0 (suc y) (zero-lt-suc y)))
unpadded_cmp (suc x ∷ xs) (zero ∷ ys) e u v =
    let fewer : length (trim_leading_zeros ys) < length (suc x ∷ xs) = omega (arith, unpadded_le ys) in
    ap (λ l. counted_cmp l (trim_leading_zeros ys) u v) (unpadded_suc x xs)
    ∙ ap (λ o. ordering_then o (slice_cmp nat_cmp ((suc x ∷ xs) ++ u) (trim_leading_zeros ys ++ v))) (is_above _ _ fewer)
    ∙ sym (ap (λ o. ordering_then (ordering_then o (slice_cmp nat_cmp xs ys)) (slice_cmp nat_cmp u v)) (is_above (suc x) 0 (zero-lt-suc x)))
unpadded_cmp (suc x ∷ xs) (suc y ∷ ys) e u v =
    (λ i. counted_cmp (unpadded_suc x xs i) (unpadded_suc y ys i) u v)
    ∙ ap (λ o. ordering_then o (slice_cmp nat_cmp ((suc x ∷ xs) ++ u) ((suc y ∷ ys) ++ v))) (is_same _ _ e)
    ∙ as_long (suc x ∷ xs) (suc y ∷ ys) e u v

-- ---- the bytes of a number, the greatest first

byte_is : (k n : ℕ) → byte_at k n ≡ n / 256 ^ k % 256
byte_is zero n = ap (λ m. m % 256) (sym (div-one n))
byte_is (suc k) n = refl

bytes_long : (k n : ℕ) → length (bytes_high_first k n) ≡ k
bytes_long zero n = refl
bytes_long (suc k) n = ap suc (bytes_long k n)

-- the highest of k + 1 bytes, and the others
one_more : (k n : ℕ) → n % 256 ^ suc k ≡ byte_at k n * 256 ^ k + n % 256 ^ k
one_more k n =
    ap (λ m. n % m) (pow-succ' 256 k) ∙ mod-mul n (zero-lt-suc 255) (one-le-pow k 256 (zero-lt-suc 255)) ∙ ap (λ b. b * 256 ^ k + n % 256 ^ k) (sym (byte_is k n))

bytes_cmp : (k m n : ℕ) → slice_cmp nat_cmp (bytes_high_first k m) (bytes_high_first k n) ≡ nat_cmp (m % 256 ^ k) (n % 256 ^ k)
bytes_cmp zero m n = sym (is_same _ _ (mod-one m ∙ sym (mod-one n)))
bytes_cmp (suc k) m n =
    let some : 0 < 256 ^ k = one-le-pow k 256 (zero-lt-suc 255) in
    ap (ordering_then (nat_cmp (byte_at k m) (byte_at k n))) (bytes_cmp k m n)
    ∙ sym (nat_cmp_block (byte_at k m) (m % 256 ^ k) (byte_at k n) (n % 256 ^ k) (256 ^ k) (mod-lt m some) (mod-lt n some))
    ∙ (λ i. nat_cmp (sym (one_more k m) i) (sym (one_more k n) i))

-- ---- the bytes that a number needs

pub needed_is : (n : ℕ) (bytes : List ℕ) → bytes ≡ to_be_bytes w64 n → trim_leading_zeros bytes ≡ needed_bytes n
unfolding needed_bytes
needed_is n bytes e = ap trim_leading_zeros e

pub needed_le : (n : ℕ) → length (needed_bytes n) ≤ 8
unfolding needed_bytes
needed_le n = omega (arith, unpadded_le (bytes_high_first 8 n), bytes_long 8 n)

pub needed_cmp : (m n : ℕ) → Fits m → Fits n → (u v : List ℕ) → counted_cmp (needed_bytes m) (needed_bytes n) u v ≡ ordering_then (nat_cmp m n) (slice_cmp nat_cmp u v)
unfolding needed_bytes
needed_cmp m n p q u v =
    unpadded_cmp (bytes_high_first 8 m) (bytes_high_first 8 n) (bytes_long 8 m ∙ sym (bytes_long 8 n)) u v
    ∙ ap (λ o. ordering_then o (slice_cmp nat_cmp u v)) (bytes_cmp 8 m n ∙ (λ i. nat_cmp (mod-eq_of_lt p i) (mod-eq_of_lt q i)))

-- ---- zero, and numbers of one byte

high_byte : (k n : ℕ) → n < 256 → byte_at (suc k) n ≡ 0
high_byte k n small =
    let some : 0 < 256 ^ k = one-le-pow k 256 (zero-lt-suc 255) in
    let below : n < 256 ^ suc k = omega (arith, pow-succ' 256 k) in
    ap (λ m. m % 256) (div-eq_of_lt below)

none_needed : needed_bytes 0 ≡ []
unfolding needed_bytes
none_needed = refl

one_needed : (n : ℕ) → 0 < n → n < 256 → needed_bytes n ≡ n ∷ []
unfolding needed_bytes
one_needed zero some small = absurd (omega arith)
one_needed (suc n) some small =
    (λ i. trim_leading_zeros (high_byte 6 (suc n) small i ∷ high_byte 5 (suc n) small i ∷ high_byte 4 (suc n) small i ∷ high_byte 3 (suc n) small i
    ∷ high_byte 2 (suc n) small i ∷ high_byte 1 (suc n) small i ∷ high_byte 0 (suc n) small i ∷ mod-eq_of_lt small i ∷ []))
    ∙ unpadded_suc n []

pub zero_bytes : (base n : ℕ) → n ≡ 0 → number_bytes base n ≡ base ∷ []
zero_bytes base n e = (λ i. (base + length ((ap needed_bytes e ∙ none_needed) i)) ∷ (ap needed_bytes e ∙ none_needed) i) ∙ ap (λ k. k ∷ []) (add-zero base)

pub one_byte : (base n : ℕ) → 0 < n → n < 256 → number_bytes base n ≡ (base + 1) ∷ n ∷ []
one_byte base n some small = (λ i. (base + length (one_needed n some small i)) ∷ one_needed n some small i)

-- ---- numbers of two bytes, and of four

-- a byte that is zero, as those above a number are
dropped : (k n : ℕ) → n < 256 ^ k → trim_leading_zeros (bytes_high_first (suc k) n) ≡ trim_leading_zeros (bytes_high_first k n)
dropped k n small =
    let none : byte_at k n ≡ 0 = byte_is k n ∙ ap (λ m. m % 256) (div-eq_of_lt small) in
    ap (λ b. trim_leading_zeros (b ∷ bytes_high_first k n)) none

led : (b : ℕ) (rest : List ℕ) → 0 < b → trim_leading_zeros (b ∷ rest) ≡ b ∷ rest
led zero rest some = absurd (omega (arith, some))
led (suc b) rest some = unpadded_suc b rest

four_left : (n : ℕ) → n < 4294967296 → needed_bytes n ≡ trim_leading_zeros (bytes_high_first 4 n)
unfolding needed_bytes
four_left n small = dropped 7 n (omega (arith, small)) ∙ dropped 6 n (omega (arith, small)) ∙ dropped 5 n (omega (arith, small)) ∙ dropped 4 n (omega (arith, small))

two_needed : (n : ℕ) → 256 ≤ n → n < 65536 → needed_bytes n ≡ to_be_bytes w16 n
two_needed n some small =
    four_left n (omega (arith, small)) ∙ dropped 3 n (omega (arith, small)) ∙ dropped 2 n (omega (arith, small)) ∙ led (byte_at 1 n) (bytes_high_first 1 n) (omega (arith, byte_is 1 n, some, small))

four_needed : (n : ℕ) → 16777216 ≤ n → n < 4294967296 → needed_bytes n ≡ to_be_bytes w32 n
four_needed n some small = four_left n small ∙ led (byte_at 3 n) (bytes_high_first 3 n) (omega (arith, byte_is 3 n, some, small))

pub two_bytes : (base n : ℕ) → 256 ≤ n → n < 65536 → number_bytes base n ≡ (base + 2) ∷ to_be_bytes w16 n
two_bytes base n some small = (λ i. (base + length (two_needed n some small i)) ∷ two_needed n some small i)

pub four_bytes : (base n : ℕ) → 16777216 ≤ n → n < 4294967296 → number_bytes base n ≡ (base + 4) ∷ to_be_bytes w32 n
four_bytes base n some small = (λ i. (base + length (four_needed n some small i)) ∷ four_needed n some small i)

-- ---- a release alone

pub release_only_bytes : (release : List ℕ) → key_bytes (from_release release) ≡ 0 ∷ (flat_map (number_bytes 1) (trim release) ++ 0 ∷ 80 ∷ 0 ∷ 16 ∷ 0 ∷ [])
unfolding needed_bytes
release_only_bytes release = simp append_assoc

-- ---- what follows a release without a suffix

pub final_bytes : (pre : Option Prerelease) (post dev : Option ℕ) → pre ≡ None → post ≡ None → dev ≡ None
    → rank_bytes (stage_rank (stage_of None pre dev post None)) ++ rank_bytes (post_rank (post_of None post)) ++ rank_bytes (dev_rank (dev_of None dev)) ≡ 80 ∷ 0 ∷ 16 ∷ []
unfolding needed_bytes
final_bytes pre post dev e f g = λ i. rank_bytes (stage_rank (stage_of None (e i) (g i) (f i) None)) ++ rank_bytes (post_rank (post_of None (f i))) ++ rank_bytes (dev_rank (dev_of None (g i)))

-- ---- capacity for bytes, and so for each of their parts after the one before it

module _ (HasCapacity : ℕ → Type 0) where
  pub capacity_for_two : (first second : List ℕ) (more : ℕ) → HasCapacity (length (first ++ second) + more) → HasCapacity (length first + (length second + more))
  capacity_for_two first second more = subst HasCapacity (omega (arith, length-append first second))

  pub capacity_for_three : (first second third : List ℕ) (more : ℕ) → HasCapacity (length (first ++ second ++ third) + more) → HasCapacity (length first + (length second + (length third + more)))
  capacity_for_three first second third more = subst HasCapacity (omega (arith, length-append (first ++ second) third, length-append first second))
