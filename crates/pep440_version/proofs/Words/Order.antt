-- Of packed records the words are in the order of the keys.
use Rattle.std.proofs.Common.{◌≡◌, ℕ, ◌+◌, ◌*◌, ◌^◌, ◌<◌, ◌≤◌, refl, sym, ap, ◌∙◌, arith, List, [], Some, None, unwrap_or, slice_index, true, false, Bool, if◌then◌else◌}
use Rattle.std.specs.Ordering.{nat_cmp, ordering_then}
use Rattle.pep440_version.specs.Key.{record_cmp, release_cmp}
use Rattle.pep440_version.specs.Record.{Record}
use Rattle.pep440_version.specs.Word.{is_packed, word_of, word}
use Rattle.pep440_version.proofs.Ordering.Comparisons.{then_assoc}
use Rattle.pep440_version.proofs.Words.Blocks.{nat_cmp_block, release_four, four_cmp, IsShort, packed}
use Rattle.pep440_version.proofs.Words.Suffixes.{Suffix, class_of, number_of, class_lt, record_of, places_cmp, suffixes_in_order}

-- the sum of products as numbers one behind another
nested : (a b c d e f : ℕ) → a * 2 ^ 48 + b * 2 ^ 40 + c * 2 ^ 32 + d * 2 ^ 24 + e * 2 ^ 21 + f ≡ ((((a * 256 + b) * 256 + c) * 256 + d) * 8 + e) * 2097152 + f
nested a b c d e f = omega arith

-- six numbers one behind another, the first ones deciding first
six_cmp : (a b c d e f g h k l m n : ℕ) → b < 256 → h < 256 → c < 256 → k < 256 → d < 256 → l < 256 → e < 8 → m < 8 → f < 2097152 → n < 2097152
    → nat_cmp (((((a * 256 + b) * 256 + c) * 256 + d) * 8 + e) * 2097152 + f) (((((g * 256 + h) * 256 + k) * 256 + l) * 8 + m) * 2097152 + n)
    ≡ ordering_then (ordering_then (nat_cmp a g) (ordering_then (nat_cmp b h) (ordering_then (nat_cmp c k) (nat_cmp d l)))) (ordering_then (nat_cmp e m) (nat_cmp f n))
six_cmp a b c d e f g h k l m n b8 h8 c8 k8 d8 l8 e3 m3 f21 n21 =
    let one = nat_cmp_block a b g h 256 b8 h8 in
    let two = nat_cmp_block (a * 256 + b) c (g * 256 + h) k 256 c8 k8 in
    let three = nat_cmp_block ((a * 256 + b) * 256 + c) d ((g * 256 + h) * 256 + k) l 256 d8 l8 in
    let four = nat_cmp_block (((a * 256 + b) * 256 + c) * 256 + d) e (((g * 256 + h) * 256 + k) * 256 + l) m 8 e3 m3 in
    let five = nat_cmp_block ((((a * 256 + b) * 256 + c) * 256 + d) * 8 + e) f ((((g * 256 + h) * 256 + k) * 256 + l) * 8 + m) n 2097152 f21 n21 in
    simp (five, four, three, two, one, then_assoc)

-- the word of a release and a suffix
abbrev pub word_at : List ℕ → Suffix → ℕ
word_at release s = word_of release (class_of s, number_of s)

-- the words of two short releases and suffixes are in the order of the numbers, the class and the number
words_in_order : (xs ys : List ℕ) (s t : Suffix) → IsShort xs → IsShort ys → number_of s ≤ 2097151 → number_of t ≤ 2097151
    → nat_cmp (word_at xs s) (word_at ys t) ≡ ordering_then (four_cmp xs ys) (places_cmp s t)
words_in_order xs ys s t x y i j =
    ap (λ w. nat_cmp w (word_at ys t)) (nested (slice_index xs 0) (slice_index xs 1) (slice_index xs 2) (slice_index xs 3) (class_of s) (number_of s))
    ∙ ap (λ w. nat_cmp (((((slice_index xs 0 * 256 + slice_index xs 1) * 256 + slice_index xs 2) * 256 + slice_index xs 3) * 8 + class_of s) * 2097152 + number_of s) w) (nested (slice_index ys 0) (slice_index ys 1) (slice_index ys 2) (slice_index ys 3) (class_of t) (number_of t))
    ∙ six_cmp (slice_index xs 0) (slice_index xs 1) (slice_index xs 2) (slice_index xs 3) (class_of s) (number_of s) (slice_index ys 0) (slice_index ys 1) (slice_index ys 2) (slice_index ys 3) (class_of t) (number_of t)
    (omega (arith, x.second)) (omega (arith, y.second)) (omega (arith, x.third)) (omega (arith, y.third)) (omega (arith, x.fourth)) (omega (arith, y.fourth)) (class_lt s) (class_lt t) (omega arith) (omega arith)

-- the records of two releases and suffixes
records_in_order : (xs ys : List ℕ) (s t : Suffix) → IsShort xs → IsShort ys → record_cmp (record_of xs s) (record_of ys t) ≡ ordering_then (four_cmp xs ys) (places_cmp s t)
records_in_order xs ys s t x y =
    ap (ordering_then (release_cmp xs ys)) (suffixes_in_order xs ys s t) ∙ ap (λ o. ordering_then o (places_cmp s t)) (release_four xs ys x.few y.few)

pub word_order : (r q : Record) → is_packed r ≡ true → is_packed q ≡ true → nat_cmp (word r) (word q) ≡ record_cmp r q
word_order r q h k =
    let x = packed r h in
    let y = packed q k in
    let a = x.local_segment in
    let b = y.local_segment in
    ap (λ o. nat_cmp (word_of r.release (unwrap_or o (5, 0))) (word q)) a.found
    ∙ ap (λ o. nat_cmp (word_at r.release a.only) (word_of q.release (unwrap_or o (5, 0)))) b.found
    ∙ words_in_order r.release q.release a.only b.only x.short y.short a.small b.small
    ∙ sym (records_in_order r.release q.release a.only b.only x.short y.short)
    ∙ (λ i. record_cmp (sym a.same i) (sym b.same i))

-- a word that is lent is that of a packed record
kept : (b : Bool) (x w : ℕ) → Some x ≡ (if b then Some w else None) → (b ≡ true) × (x ≡ w)
kept true x w e = (refl, cc e)
kept false x w e = cc e

-- two words that are lent compare as the records
pub lent_order : (r q : Record) (x y : ℕ) → Some x ≡ (if is_packed r then Some (word r) else None) → Some y ≡ (if is_packed q then Some (word q) else None) → nat_cmp x y ≡ record_cmp r q
lent_order r q x y e f =
    let a = kept (is_packed r) x (word r) e in
    let b = kept (is_packed q) y (word q) f in
    (λ i. nat_cmp (a.1 i) (b.1 i)) ∙ word_order r q a.0 b.0

-- and so as the records without local part, since these have none
pub lent_order_without_local : (r q : Record) (x y : ℕ) → Some x ≡ (if is_packed r then Some (word r) else None) → Some y ≡ (if is_packed q then Some (word q) else None)
    → nat_cmp x y ≡ record_cmp (record r { local = [] }) (record q { local = [] })
lent_order_without_local r q x y e f =
    let a = packed r (kept (is_packed r) x (word r) e).0 in
    let b = packed q (kept (is_packed q) y (word q) f).0 in
    lent_order r q x y e f ∙ (λ i. record_cmp (record r { local = a.no_local i }) (record q { local = b.no_local i }))
