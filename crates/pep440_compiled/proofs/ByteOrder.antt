-- Bytes in order, several at a time as one number.
use Rattle.std.proofs.Common.{◌≡◌, ◌∙◌, ℕ, zero, suc, ◌+◌, ◌-◌, ◌*◌, ◌<◌, ◌≤◌, List, [], ◌∷◌, ◌++◌, ap, append_assoc, arith, drop, get_or, length, refl, subst, sym, take, inl, inr}
use Rattle.std.proofs.Math.Seq.{drop-append_seam, take_all, take-append_seam}
use Rattle.std.proofs.lemmas.Cmp.{nat_cmp_total, tied_itself}
use Rattle.std.proofs.lemmas.List.{get_or-drop, length-append, length-drop, nil_from_length, take-append-drop, append-nil, take_all}
use Rattle.std.specs.FinMap.{nat_cmp-IsAntisymmetric}
use Rattle.std.specs.declared.cmp.Ordering.{Ordering}
use Rattle.std.specs.declared.cmp.Ordering.TheVariants.{Less, Equal, Greater}
use Rattle.std.specs.Cmp.Lexicographic.{slice_cmp}
use Rattle.std.specs.Ordering.{nat_cmp, ordering_then}
use Rattle.std.specs.Slice.Scan.{big_endian}
use Rattle.pep440_version.proofs.Ordering.Comparisons.{then_assoc}
use Rattle.pep440_version.proofs.Words.Blocks.{is_below, nat_cmp_block}
use Rattle.std.specs.Prelude.{◌⊎◌, map}
use Rattle.pep440_compiled.proofs.Fronts.{both_tie, itself, keyed, same_bytes}
use Rattle.pep440_compiled.specs.Version.{version_bytes, zero_bytes}
use Rattle.pep440_version.specs.RoundTrip.{IsParsed}
use Rattle.pep440_keys.proofs.Order.{followed_in_order, keys_in_order}
use Rattle.pep440_keys.specs.SortKeys.{key_bytes}
use Rattle.pep440_version.specs.Key.{record_cmp}
use Rattle.pep440_version.specs.Record.{Record}

abbrev pub AreBytes : List ℕ → Type 0
AreBytes xs = (k : ℕ) → get_or xs k 0 < 256

-- a byte behind each of two numbers
step : (m n x y : ℕ) (xs ys : List ℕ) → x < 256 → y < 256
    → ordering_then (nat_cmp m n) (slice_cmp nat_cmp (x ∷ xs) (y ∷ ys)) ≡ ordering_then (nat_cmp (m * 256 + x) (n * 256 + y)) (slice_cmp nat_cmp xs ys)
step m n x y xs ys p q = sym (then_assoc (nat_cmp m n) (nat_cmp x y) (slice_cmp nat_cmp xs ys)) ∙ ap (λ o. ordering_then o (slice_cmp nat_cmp xs ys)) (sym (nat_cmp_block m x n y 256 p q))

read_on : (count m n : ℕ) (xs ys : List ℕ) → count ≤ length xs → count ≤ length ys → AreBytes xs → AreBytes ys
    → ordering_then (nat_cmp m n) (slice_cmp nat_cmp xs ys)
    ≡ ordering_then (nat_cmp (big_endian m (take count xs)) (big_endian n (take count ys))) (slice_cmp nat_cmp (drop count xs) (drop count ys))
read_on zero m n xs ys p q b d = refl
read_on (suc count) m n [] ys p q b d = absurd (omega (arith, p))
read_on (suc count) m n (x ∷ xs) [] p q b d = absurd (omega (arith, q))
read_on (suc count) m n (x ∷ xs) (y ∷ ys) p q b d =
    step m n x y xs ys (b 0) (d 0) ∙ read_on count (m * 256 + x) (n * 256 + y) xs ys (omega (arith, p)) (omega (arith, q)) (λ k. b (suc k)) (λ k. d (suc k))

-- bytes that are one number
bytes_of_one_number : (count m n : ℕ) (xs ys : List ℕ) → count ≤ length xs → count ≤ length ys → AreBytes xs → AreBytes ys
    → big_endian m (take count xs) ≡ big_endian n (take count ys) → (m ≡ n) × (take count xs ≡ take count ys)
bytes_of_one_number zero m n xs ys p q b d e = (e, refl)
bytes_of_one_number (suc count) m n [] ys p q b d e = absurd (omega (arith, p))
bytes_of_one_number (suc count) m n (x ∷ xs) [] p q b d e = absurd (omega (arith, q))
bytes_of_one_number (suc count) m n (x ∷ xs) (y ∷ ys) p q b d e =
    let rest = bytes_of_one_number count (m * 256 + x) (n * 256 + y) xs ys (omega (arith, p)) (omega (arith, q)) (λ k. b (suc k)) (λ k. d (suc k)) e in
    let small : x < 256 = b 0 in
    let other : y < 256 = d 0 in
    let first : x ≡ y = omega (arith, rest.0, small, other) in
    (omega (arith, rest.0, small, other), λ i. first i ∷ rest.1 i)

-- ---- the first eight

rest_of : (xs : List ℕ) → take (length xs - 8) (drop 8 xs) ≡ drop 8 xs
rest_of xs = take_all (length xs - 8) (drop 8 xs) (omega (arith, length-drop 8 xs))

bytes_from : (k : ℕ) (xs : List ℕ) → AreBytes xs → AreBytes (drop k xs)
bytes_from k xs b j = subst (λ n. n < 256) (sym (get_or-drop k xs j 0)) (b (k + j))

pub rest_bytes : (xs : List ℕ) → AreBytes xs → AreBytes (take (length xs - 8) (drop 8 xs))
rest_bytes xs b = subst AreBytes (sym (rest_of xs)) (bytes_from 8 xs b)

in_words : (m n : ℕ) (xs ys : List ℕ) → 8 ≤ length xs → 8 ≤ length ys → AreBytes xs → AreBytes ys → m ≡ big_endian 0 (take 8 xs) → n ≡ big_endian 0 (take 8 ys)
    → slice_cmp nat_cmp xs ys ≡ ordering_then (nat_cmp m n) (slice_cmp nat_cmp (drop 8 xs) (drop 8 ys))
in_words m n xs ys p q b d e f = read_on 8 0 0 xs ys p q b d ∙ (λ i. ordering_then (nat_cmp (sym e i) (sym f i)) (slice_cmp nat_cmp (drop 8 xs) (drop 8 ys)))

unequal_decides : (o later : Ordering) → (o ≡ Equal → ⊥) → ordering_then o later ≡ o
unequal_decides Less later h = refl
unequal_decides Equal later h = absurd (h refl)
unequal_decides Greater later h = refl

pub other_words : (m n : ℕ) (xs ys : List ℕ) → 8 ≤ length xs → 8 ≤ length ys → AreBytes xs → AreBytes ys → m ≡ big_endian 0 (take 8 xs) → n ≡ big_endian 0 (take 8 ys) → (m ≡ n → ⊥)
    → nat_cmp m n ≡ slice_cmp nat_cmp xs ys
other_words m n xs ys p q b d e f h = sym (in_words m n xs ys p q b d e f ∙ unequal_decides (nat_cmp m n) _ (λ g. h (nat_cmp-IsAntisymmetric m n g)))

-- ---- what is left behind bytes that both begin with

-- one front, and what is left of each
pub record Alike (a b xs ys : List ℕ) : Type 0 where
  pub front : List ℕ
  pub first : a ≡ front ++ xs
  pub second : b ≡ front ++ ys

pub alike_first : (a b : List ℕ) → Alike a b a b
alike_first a b = record { front = []; first = refl; second = refl }

eight_more : (a front xs : List ℕ) → a ≡ front ++ xs → a ≡ (front ++ take 8 xs) ++ take (length xs - 8) (drop 8 xs)
eight_more a front xs e =
    e ∙ ap (λ l. front ++ l) (sym (take-append-drop 8 xs)) ∙ sym (append_assoc front (take 8 xs) (drop 8 xs)) ∙ ap (λ l. (front ++ take 8 xs) ++ l) (sym (rest_of xs))

pub alike_on : (m n : ℕ) (a b xs ys : List ℕ) → Alike a b xs ys → 8 ≤ length xs → 8 ≤ length ys → AreBytes xs → AreBytes ys → m ≡ big_endian 0 (take 8 xs) → n ≡ big_endian 0 (take 8 ys) → m ≡ n
    → Alike a b (take (length xs - 8) (drop 8 xs)) (take (length ys - 8) (drop 8 ys))
alike_on m n a b xs ys h p q o d e f g =
    let same = (bytes_of_one_number 8 0 0 xs ys p q o d (sym e ∙ g ∙ f)).1 in
    record {
      front = h.front ++ take 8 xs;
      first = eight_more a h.front xs h.first;
      second = eight_more b h.front ys h.second ∙ ap (λ l. (h.front ++ l) ++ take (length ys - 8) (drop 8 ys)) (sym same);
    }

after : (k : ℕ) (front xs ys : List ℕ) → k ≤ length front → slice_cmp nat_cmp (front ++ xs) (front ++ ys) ≡ slice_cmp nat_cmp (drop k (front ++ xs)) (drop k (front ++ ys))
after zero front xs ys few = refl
after (suc k) [] xs ys few = absurd (omega (arith, few))
after (suc k) (x ∷ front) xs ys few = ap (λ o. ordering_then o (slice_cmp nat_cmp (front ++ xs) (front ++ ys))) (tied_itself nat_cmp_total x) ∙ after k front xs ys (omega (arith, few))

pub left_decides : (a b xs ys : List ℕ) → Alike a b xs ys → slice_cmp nat_cmp a b ≡ slice_cmp nat_cmp xs ys
left_decides a b xs ys h =
    (λ i. slice_cmp nat_cmp (h.first i) (h.second i))
    ∙ after (length h.front) h.front xs ys (omega arith)
    ∙ (λ i. slice_cmp nat_cmp (drop-append_seam h.front xs i) (drop-append_seam h.front ys i))

tied : (o : Ordering) → ordering_then o Equal ≡ o
tied Less = refl
tied Equal = refl
tied Greater = refl

-- the last eight, where fewer are left
pub last_words : (m n : ℕ) (a b xs ys : List ℕ) → Alike a b xs ys → 8 ≤ length a → length a ≡ length b → length xs < 8 → AreBytes a → AreBytes b
    → m ≡ big_endian 0 (take 8 (drop (length a - 8) a)) → n ≡ big_endian 0 (take 8 (drop (length b - 8) b)) → nat_cmp m n ≡ slice_cmp nat_cmp a b
last_words m n a b xs ys h some same few o d e f =
    let k = length a - 8 in
    let count : length (drop k a) ≡ 8 = omega (arith, length-drop k a, some) in
    let also : length (drop k b) ≡ 8 = omega (arith, length-drop k b, some, same) in
    let inside : k ≤ length h.front = omega (arith, ap length h.first, length-append h.front xs, few) in
    let cut : slice_cmp nat_cmp a b ≡ slice_cmp nat_cmp (drop k a) (drop k b) =
    (λ i. slice_cmp nat_cmp (h.first i) (h.second i)) ∙ after k h.front xs ys inside ∙ (λ i. slice_cmp nat_cmp (drop k (sym h.first i)) (drop k (sym h.second i))) in
    let words = in_words m n (drop k a) (drop k b) (omega (arith, count)) (omega (arith, also)) (bytes_from k a o) (bytes_from k b d) e (f ∙ ap (λ l. big_endian 0 (take 8 (drop (l - 8) b))) (sym same)) in
    let none : drop 8 (drop k a) ≡ [] = nil_from_length _ (omega (arith, length-drop 8 (drop k a), count)) in
    let nor : drop 8 (drop k b) ≡ [] = nil_from_length _ (omega (arith, length-drop 8 (drop k b), also)) in
    sym (cut ∙ words ∙ (λ i. ordering_then (nat_cmp m n) (slice_cmp nat_cmp (none i) (nor i))) ∙ tied (nat_cmp m n))

-- ---- the end

pub none_left : (xs ys : List ℕ) → length xs ≡ 0 → nat_cmp 0 (length ys) ≡ slice_cmp nat_cmp xs ys
none_left [] [] e = refl
none_left [] (y ∷ ys) e = is_below 0 (length (y ∷ ys)) (omega arith)
none_left (x ∷ xs) ys e = absurd (omega (arith, e))

abbrev pub shared_cmp : List ℕ → List ℕ → Ordering
shared_cmp a b = slice_cmp nat_cmp (take (length b) a) (take (length a) b)

pub shared_first : (a b : List ℕ) → length a ≤ length b → slice_cmp nat_cmp a (take (length a) b) ≡ shared_cmp a b
shared_first a b few = ap (λ l. slice_cmp nat_cmp l (take (length a) b)) (sym (take_all (length b) a few))

pub shared_second : (a b : List ℕ) → length b ≤ length a → slice_cmp nat_cmp (take (length b) a) b ≡ shared_cmp a b
shared_second a b few = ap (slice_cmp nat_cmp (take (length b) a)) (sym (take_all (length a) b few))

-- ---- one that begins with the other

abbrev Begins : List ℕ → List ℕ → Type 0
Begins a b = ((w : List ℕ) × (b ≡ a ++ w)) ⊎ ((w : List ℕ) × (a ≡ b ++ w))

begins_more : (c : ℕ) (a b : List ℕ) → Begins a b → Begins (c ∷ a) (c ∷ b)
begins_more c a b h = elim h [ inl p ↦ inl (p.0, ap (λ l. c ∷ l) p.1) | inr p ↦ inr (p.0, ap (λ l. c ∷ l) p.1) ]

begins_after : (k a b : List ℕ) → Begins a b → Begins (k ++ a) (k ++ b)
begins_after [] a b h = h
begins_after (c ∷ k) a b h = begins_more c (k ++ a) (k ++ b) (begins_after k a b h)

ones_begin : (xs ys : List ℕ) → Begins (map (λ n. 1) xs) (map (λ n. 1) ys)
ones_begin [] ys = inl (map (λ n. 1) ys, refl)
ones_begin (x ∷ xs) [] = inr (map (λ n. 1) (x ∷ xs), refl)
ones_begin (x ∷ xs) (y ∷ ys) = begins_more 1 (map (λ n. 1) xs) (map (λ n. 1) ys) (ones_begin xs ys)

fewer : (a w : List ℕ) → length a ≤ length (a ++ w)
fewer a w = omega (arith, length-append a w)

begins_tie : (a b : List ℕ) → Begins a b → shared_cmp a b ≡ Equal
begins_tie a b h =
    elim h [
      | inl p ↦ (λ i. shared_cmp a (p.1 i)) ∙ sym (shared_first a (a ++ p.0) (fewer a p.0)) ∙ ap (slice_cmp nat_cmp a) (take-append_seam a p.0) ∙ itself a
      | inr p ↦ (λ i. shared_cmp (p.1 i) b) ∙ sym (shared_second (b ++ p.0) b (fewer b p.0)) ∙ ap (λ l. slice_cmp nat_cmp l b) (take-append_seam b p.0) ∙ itself b
    ]

-- ---- the bytes that both have tie, and so one begins with the other, or decide

abbrev Decided : List ℕ → List ℕ → Type 0
Decided a b = Begins a b ⊎ ((shared_cmp a b ≡ slice_cmp nat_cmp a b) × (shared_cmp a b ≡ Equal → ⊥))

decided_more : (x y : ℕ) (a b : List ℕ) (o : Ordering) → nat_cmp x y ≡ o → Decided a b → Decided (x ∷ a) (y ∷ b)
decided_more x y a b Less e h = inr (ap (λ t. ordering_then t (shared_cmp a b)) e ∙ sym (ap (λ t. ordering_then t (slice_cmp nat_cmp a b)) e), λ tie. let never = sym (ap (λ t. ordering_then t (shared_cmp a b)) e) ∙ tie in absurd (cc))
decided_more x y a b Greater e h = inr (ap (λ t. ordering_then t (shared_cmp a b)) e ∙ sym (ap (λ t. ordering_then t (slice_cmp nat_cmp a b)) e), λ tie. let never = sym (ap (λ t. ordering_then t (shared_cmp a b)) e) ∙ tie in absurd (cc))
decided_more x y a b Equal e h =
    elim h [
      | inl p ↦ inl (subst (λ z. Begins (x ∷ a) (z ∷ b)) (nat_cmp-IsAntisymmetric x y e) (begins_more x a b p))
      | inr p ↦ inr (ap (λ t. ordering_then t (shared_cmp a b)) e ∙ p.0 ∙ sym (ap (λ t. ordering_then t (slice_cmp nat_cmp a b)) e), λ tie. p.1 (sym (ap (λ t. ordering_then t (shared_cmp a b)) e) ∙ tie))
    ]

decided : (a b : List ℕ) → Decided a b
decided [] b = inl (inl (b, refl))
decided (x ∷ a) [] = inl (inr (x ∷ a, refl))
decided (x ∷ a) (y ∷ b) = decided_more x y a b (nat_cmp x y) refl (decided a b)

-- ---- compiled versions

keys_tie : (r q : Record) → IsParsed r → IsParsed q → (u v : List ℕ) → Begins (key_bytes r ++ u) (key_bytes q ++ v) → record_cmp r q ≡ Equal
keys_tie r q p o u v h =
    elim h [
      | inl s ↦
          (both_tie (record_cmp r q) (slice_cmp nat_cmp (u ++ s.0) v) (sym (followed_in_order r q (keyed r p) (keyed q o) (u ++ s.0) v)
          ∙ (λ i. slice_cmp nat_cmp (sym (append_assoc (key_bytes r) u s.0) i) (s.1 i)) ∙ itself ((key_bytes r ++ u) ++ s.0))).0
      | inr s ↦
          (both_tie (record_cmp r q) (slice_cmp nat_cmp u (v ++ s.0)) (sym (followed_in_order r q (keyed r p) (keyed q o) u (v ++ s.0))
          ∙ (λ i. slice_cmp nat_cmp (s.1 i) (sym (append_assoc (key_bytes q) v s.0) i)) ∙ itself ((key_bytes q ++ v) ++ s.0))).0
    ]

-- what does not tie is decided by the keys
decides : (s t o : Ordering) → s ≡ ordering_then o t → (o ≡ Equal → ⊥) → s ≡ o
decides s t Less e other = e
decides s t Greater e other = e
decides s t Equal e other = absurd (other refl)

-- keys before bytes of which the one begin with the others
followed : (r q : Record) → IsParsed r → IsParsed q → (u v : List ℕ) → Begins u v → shared_cmp (key_bytes r ++ u) (key_bytes q ++ v) ≡ record_cmp r q
followed r q p o u v more =
    elim (decided (key_bytes r ++ u) (key_bytes q ++ v)) [
      | inl h ↦ begins_tie (key_bytes r ++ u) (key_bytes q ++ v) h ∙ sym (keys_tie r q p o u v h)
      | inr h ↦ decides (shared_cmp (key_bytes r ++ u) (key_bytes q ++ v)) (slice_cmp nat_cmp u v) (record_cmp r q)
          (h.0 ∙ followed_in_order r q (keyed r p) (keyed q o) u v)
          (λ tie.
          let same = same_bytes (key_bytes r) (key_bytes q) (keys_in_order r q (keyed r p) (keyed q o) ∙ tie) in
          h.1 (begins_tie (key_bytes r ++ u) (key_bytes q ++ v) (subst (λ k. Begins (key_bytes r ++ u) (k ++ v)) same (begins_after (key_bytes r) u v more))))
    ]

-- zeros begin with one another
pub versions_in_order : (r q : Record) → IsParsed r → IsParsed q → shared_cmp (version_bytes r) (version_bytes q) ≡ record_cmp r q
versions_in_order r q p o = followed r q p o (zero_bytes r.release) (zero_bytes q.release) (ones_begin _ _)

-- a key, and one that something follows
pub key_first : (v s : Record) → IsParsed v → IsParsed s → (w : List ℕ) → shared_cmp (key_bytes v) (key_bytes s ++ w) ≡ record_cmp v s
key_first v s q p w = ap (λ l. shared_cmp l (key_bytes s ++ w)) (sym (append-nil (key_bytes v))) ∙ followed v s q p [] w (inl (w, refl))
