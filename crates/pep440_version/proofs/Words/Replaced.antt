-- A word with another suffix shows the record with that suffix.
use Rattle.std.proofs.Common.{◌≡◌, ℕ, ◌+◌, ◌*◌, ◌%◌, ◌^◌, ◌<◌, ◌≤◌, refl, sym, ap, ◌∙◌, arith, List, length, take, slice_index, unwrap_or, Some, None, Option, Bool, true, false, if◌then◌else◌, ◌==◌, ◌/◌, ◌&&◌, ◌||◌, ◌⊎◌, inl, inr, subst, nat_le}
use Rattle.std.proofs.lemmas.Nat.{div-mul-add, mod-mul-add}
use Rattle.pep440_version.specs.Form.{IsWord, record_in, packed_record, is_class_of_part, with_part, word_with_part, word_with_suffix}
use Rattle.pep440_version.specs.Record.{Record}
use Rattle.pep440_version.specs.Word.{class_in, is_packed, number_in, suffix, word, word_of, is_short, word_with}
use Rattle.pep440_version.proofs.Words.Order.{word_at}
use Rattle.pep440_version.proofs.Words.Blocks.{packed, below, both, same}
use Rattle.pep440_version.proofs.Words.Suffixes.{Suffix, class_of, number_of, class_lt, Min, Dev, Alpha, Beta, Rc, Plain, Post, Max, record_of}
use Rattle.std.proofs.lemmas.Bool.Decides.{nat_tests}
use Rattle.pep440_version.specs.declared.packed.Part.{Part}
use Rattle.pep440_version.specs.declared.prerelease.PrereleaseKind.{PrereleaseKind}
use Rattle.pep440_version.specs.declared.packed.Part.TheVariants as part
use Rattle.pep440_version.specs.declared.prerelease.PrereleaseKind.TheVariants as Kind

-- ---- a word shows the record that it was made of

fields : (a c n : ℕ) → c < 8 → n < 2 ^ 21 → (class_in ((a * 8 + c) * 2 ^ 21 + n) ≡ c) × (number_in ((a * 8 + c) * 2 ^ 21 + n) ≡ n)
fields a c n small low =
    (ap (λ x. x % 8) (div-mul-add (a * 8 + c) (2 ^ 21) n low) ∙ mod-mul-add a 8 c small, mod-mul-add (a * 8 + c) (2 ^ 21) n low)

prefix : List ℕ → ℕ
prefix xs = slice_index xs 0 * 2 ^ 24 + slice_index xs 1 * 2 ^ 16 + slice_index xs 2 * 2 ^ 8 + slice_index xs 3

as_fields : (xs : List ℕ) (s : Suffix) → word_at xs s ≡ (prefix xs * 8 + class_of s) * 2 ^ 21 + number_of s
unfolding prefix
as_fields xs s = omega arith

-- the class and the number of a suffix, in its word
pub in_word : (xs : List ℕ) (s : Suffix) → number_of s ≤ 2097151 → (class_in (word_at xs s) ≡ class_of s) × (number_in (word_at xs s) ≡ number_of s)
in_word xs s low =
    let f = fields (prefix xs) (class_of s) (number_of s) (class_lt s) (omega arith) in
    (ap class_in (as_fields xs s) ∙ f.0, ap number_in (as_fields xs s) ∙ f.1)

-- the suffix of a packed record
pub record Given (r : Record) (class n : ℕ) : Type 0 where
  pub packed : is_packed r ≡ true
  pub found : suffix r ≡ Some (class, n)

pub given : (r : Record) (class n : ℕ) → Some (class, n) ≡ (if is_packed r then suffix r else None) → Given r class n
given r class n e = by (is_packed r) refl e
  where
    by : (b : Bool) → is_packed r ≡ b → Some (class, n) ≡ (if b then suffix r else None) → Given r class n
    by true p e = record { packed = p; found = sym e }
    by false p e = cc e

-- what the word of a packed record holds
pub shown : (count w class n : ℕ) (numbers : List ℕ) (r : Record) → take count numbers ≡ r.release → count ≡ length r.release → Given r class n
    → w ≡ word_of r.release (class, n) → IsWord count w numbers × (packed_record count w numbers ≡ r)
shown count w class n numbers r prefix long g sum =
    let x = packed r g.packed in
    let s = x.local_segment.only in
    let same : Some (class, n) ≡ Some (class_of s, number_of s) = sym g.found ∙ x.local_segment.found in
    let is_class : class ≡ class_of s = ap (λ (o : Option (ℕ × ℕ)). (unwrap_or o (0, 0)).0) same in
    let is_number : n ≡ number_of s = ap (λ (o : Option (ℕ × ℕ)). (unwrap_or o (0, 0)).1) same in
    let is_word : w ≡ word_at r.release s = sum ∙ (λ i. word_of r.release (is_class i, is_number i)) in
    let f = in_word r.release s x.local_segment.small in
    let is : packed_record count w numbers ≡ r = (λ i. record_in (prefix i) ((ap class_in is_word ∙ f.0) i) ((ap number_in is_word ∙ f.1) i)) ∙ sym x.local_segment.same in (
      record {
        count = omega (arith, x.short.few);
        packed = ap is_packed is ∙ g.packed;
        sum = is_word ∙ ap (λ o. word_of r.release (unwrap_or o (5, 0))) (sym x.local_segment.found) ∙ ap word (sym is);
      },
      is,
    )

suffix_of_record : (xs : List ℕ) (s : Suffix) → suffix (record_of xs s) ≡ Some (class_of s, number_of s)
suffix_of_record xs (Min n) = refl
suffix_of_record xs (Dev n) = refl
suffix_of_record xs (Alpha n) = refl
suffix_of_record xs (Beta n) = refl
suffix_of_record xs (Rc n) = refl
suffix_of_record xs Plain = refl
suffix_of_record xs (Post n) = refl
suffix_of_record xs (Max n) = refl

small : (n : ℕ) → n ≤ 2097151 → nat_le n 2097151 ≡ true
small n h = grind (arith, nat_tests)

is_packed_record : (xs : List ℕ) (s : Suffix) → is_short xs ≡ true → number_of s ≤ 2097151 → is_packed (record_of xs s) ≡ true
is_packed_record xs (Min n) e h = λ i. e i && small n h i
is_packed_record xs (Dev n) e h = λ i. e i && small n h i
is_packed_record xs (Alpha n) e h = λ i. e i && small n h i
is_packed_record xs (Beta n) e h = λ i. e i && small n h i
is_packed_record xs (Rc n) e h = λ i. e i && small n h i
is_packed_record xs Plain e h = λ i. e i && small 0 h i
is_packed_record xs (Post n) e h = λ i. e i && small n h i
is_packed_record xs (Max n) e h = λ i. e i && small n h i

-- the four numbers in front of a suffix
above : (a b c d w rest : ℕ) → rest < 2 ^ 24 → w ≡ a * 2 ^ 48 + b * 2 ^ 40 + c * 2 ^ 32 + d * 2 ^ 24 + rest
    → w / 2 ^ 24 * 2 ^ 24 ≡ a * 2 ^ 48 + b * 2 ^ 40 + c * 2 ^ 32 + d * 2 ^ 24
above a b c d w rest low is =
    let prefix : ℕ = a * 2 ^ 24 + b * 2 ^ 16 + c * 2 ^ 8 + d in
    let nested : w ≡ prefix * 2 ^ 24 + rest = omega arith in
    let top : w / 2 ^ 24 ≡ prefix = ap (λ x. x / 2 ^ 24) nested ∙ div-mul-add prefix (2 ^ 24) rest low in
    ap (λ x. x * 2 ^ 24) top ∙ omega arith

short_of : (r : Record) → is_packed r ≡ true → is_short r.release ≡ true
short_of r e =
    let a = both _ _ e in
    let b = both _ _ a.1 in
    let c = both _ _ b.1 in
    c.0

pub replaced : (count w : ℕ) (numbers : List ℕ) (s : Suffix) → IsWord count w numbers → number_of s ≤ 2097151
    → IsWord count (word_with w (class_of s) (number_of s)) numbers × (packed_record count (word_with w (class_of s) (number_of s)) numbers ≡ record_of (take count numbers) s)
replaced count w numbers s h low =
    let xs : List ℕ = take count numbers in
    let new : ℕ = word_with w (class_of s) (number_of s) in
    let x = packed (packed_record count w numbers) h.packed in
    let own : w ≡ word_at xs x.local_segment.only = h.sum ∙ ap (λ (o : Option (ℕ × ℕ)). word_of xs (unwrap_or o (5, 0))) x.local_segment.found in
    let top : w / 2 ^ 24 * 2 ^ 24 ≡ slice_index xs 0 * 2 ^ 48 + slice_index xs 1 * 2 ^ 40 + slice_index xs 2 * 2 ^ 32 + slice_index xs 3 * 2 ^ 24 =
    let lt = class_lt x.local_segment.only in let le = x.local_segment.small in
    above (slice_index xs 0) (slice_index xs 1) (slice_index xs 2) (slice_index xs 3) w (class_of x.local_segment.only * 2 ^ 21 + number_of x.local_segment.only) (omega arith) (omega arith) in
    let sum : new ≡ word_at xs s = ap (λ t. t + class_of s * 2 ^ 21 + number_of s) top in
    let f = in_word xs s low in
    let is : packed_record count new numbers ≡ record_of xs s = λ i. record_in xs ((ap class_in sum ∙ f.0) i) ((ap number_in sum ∙ f.1) i) in
    let short : is_short xs ≡ true = short_of (packed_record count w numbers) h.packed in (
      record {
        count = h.count;
        packed = ap is_packed is ∙ is_packed_record xs s short low;
        sum = sum ∙ ap (λ (o : Option (ℕ × ℕ)). word_of xs (unwrap_or o (5, 0))) (sym (suffix_of_record xs s)) ∙ ap word (sym is);
      },
      is,
    )

-- the word that a part is set in shows the record with that part
abbrev Shows : Part → ℕ → ℕ → List ℕ → ℕ → Type 0
Shows p count w numbers new = IsWord count new numbers × (packed_record count new numbers ≡ with_part p (packed_record count w numbers))

is_same : (a b : ℕ) → Some a ≡ Some b → a ≡ b
is_same a b e = ap (λ (o : Option ℕ). unwrap_or o 0) e

-- a part that is there, where the record of its suffix is the record with that part
present : (p : Part) (s : Suffix) (count w new : ℕ) (numbers : List ℕ) → IsWord count w numbers
    → (((class_in w == 5) || is_class_of_part p (class_in w)) ≡ true → record_of (take count numbers) s ≡ with_part p (packed_record count w numbers))
    → Some new ≡ word_with_suffix w (is_class_of_part p (class_in w)) (Some (class_of s, number_of s)) → Shows p count w numbers new
present p s count w new numbers h set e = by (nat_le (number_of s) 2097151 && ((class_in w == 5) || is_class_of_part p (class_in w))) refl e
  where
    by : (b : Bool) → (nat_le (number_of s) 2097151 && ((class_in w == 5) || is_class_of_part p (class_in w))) ≡ b
        → Some new ≡ (if b then Some (word_with w (class_of s) (number_of s)) else None) → Shows p count w numbers new
    by true t q =
        let both_hold = both (nat_le (number_of s) 2097151) ((class_in w == 5) || is_class_of_part p (class_in w)) t in
        let r = replaced count w numbers s h (below (number_of s) 2097151 both_hold.0) in
        subst (Shows p count w numbers) (sym (is_same new (word_with w (class_of s) (number_of s)) q)) (r.0, r.1 ∙ set both_hold.1)
    by false t q = cc q

-- a part that is not there
absent : (p : Part) (count w new : ℕ) (numbers : List ℕ) → IsWord count w numbers
    → (is_class_of_part p (class_in w) ≡ true → record_of (take count numbers) Plain ≡ with_part p (packed_record count w numbers))
    → (is_class_of_part p (class_in w) ≡ false → packed_record count w numbers ≡ with_part p (packed_record count w numbers))
    → Some new ≡ word_with_suffix w (is_class_of_part p (class_in w)) None → Shows p count w numbers new
absent p count w new numbers h removed kept e = by (is_class_of_part p (class_in w)) refl e
  where
    by : (b : Bool) → is_class_of_part p (class_in w) ≡ b → Some new ≡ (if b then Some (word_with w 5 0) else Some w) → Shows p count w numbers new
    by true t q =
        let r = replaced count w numbers Plain h (omega arith) in
        subst (Shows p count w numbers) (sym (is_same new (word_with w 5 0) q)) (r.0, r.1 ∙ removed t)
    by false t q = subst (Shows p count w numbers) (sym (is_same new w q)) (h, kept t)

either : (a b : Bool) → (a || b) ≡ true → (a ≡ true) ⊎ (b ≡ true)
either true b e = inl refl
either false b e = inr e

neither : (a b : Bool) → (a || b) ≡ false → (a ≡ false) × (b ≡ false)
neither true b e = cc e
neither false b e = (refl, e)

-- what holds of a record of class 5 and of one of class k holds of the word's, whose class is one of them
of_class : (P : ℕ → Type 0) (c k : ℕ) → P 5 → P k → ((c == 5) || (c == k)) ≡ true → P c
of_class P c k five own t = elim (either (c == 5) (c == k) t) [
  | inl e ↦ subst P (sym (same c 5 e)) five
  | inr e ↦ subst P (sym (same c k e)) own
]

-- the same of the three classes of pre-releases
of_pre_class : (P : ℕ → Type 0) (c : ℕ) → P 2 → P 3 → P 4 → ((c == 2) || ((c == 3) || (c == 4))) ≡ true → P c
of_pre_class P c alpha beta rc t = elim (either (c == 2) ((c == 3) || (c == 4)) t) [
  | inl e ↦ subst P (sym (same c 2 e)) alpha
  | inr other ↦ elim (either (c == 3) (c == 4) other) [
    | inl e ↦ subst P (sym (same c 3 e)) beta
    | inr e ↦ subst P (sym (same c 4 e)) rc
  ]
]

of_any_class : (P : ℕ → Type 0) (c : ℕ) → P 5 → P 2 → P 3 → P 4 → ((c == 5) || ((c == 2) || ((c == 3) || (c == 4)))) ≡ true → P c
of_any_class P c five alpha beta rc t = elim (either (c == 5) ((c == 2) || ((c == 3) || (c == 4))) t) [
  | inl e ↦ subst P (sym (same c 5 e)) five
  | inr e ↦ of_pre_class P c alpha beta rc e
]

pub part_is_set : (p : Part) (count w new : ℕ) (numbers : List ℕ) → IsWord count w numbers → Some new ≡ word_with_part w p
    → IsWord count new numbers × (packed_record count new numbers ≡ with_part p (packed_record count w numbers))
part_is_set (part.Min (Some n)) count w new numbers h e = present (part.Min (Some n)) (Min n) count w new numbers h
    (of_class (λ c. record_of (take count numbers) (Min n) ≡ with_part (part.Min (Some n)) (record_in (take count numbers) c (number_in w))) (class_in w) 0 refl refl) e
part_is_set (part.Dev (Some n)) count w new numbers h e = present (part.Dev (Some n)) (Dev n) count w new numbers h
    (of_class (λ c. record_of (take count numbers) (Dev n) ≡ with_part (part.Dev (Some n)) (record_in (take count numbers) c (number_in w))) (class_in w) 1 refl refl) e
part_is_set (part.Post (Some n)) count w new numbers h e = present (part.Post (Some n)) (Post n) count w new numbers h
    (of_class (λ c. record_of (take count numbers) (Post n) ≡ with_part (part.Post (Some n)) (record_in (take count numbers) c (number_in w))) (class_in w) 6 refl refl) e
part_is_set (part.Max (Some n)) count w new numbers h e = present (part.Max (Some n)) (Max n) count w new numbers h
    (of_class (λ c. record_of (take count numbers) (Max n) ≡ with_part (part.Max (Some n)) (record_in (take count numbers) c (number_in w))) (class_in w) 7 refl refl) e
part_is_set (part.Pre (Some p)) count w new numbers h e = by_kind p.kind p.number e
  where
    by_kind : (k : PrereleaseKind) (n : ℕ) → Some new ≡ word_with_part w (part.Pre (Some (record { kind = k; number = n }))) → Shows (part.Pre (Some (record { kind = k; number = n }))) count w numbers new
    by_kind Kind.Alpha n e = present (part.Pre (Some (record { kind = Kind.Alpha; number = n }))) (Alpha n) count w new numbers h
        (of_any_class (λ c. record_of (take count numbers) (Alpha n) ≡ with_part (part.Pre (Some (record { kind = Kind.Alpha; number = n }))) (record_in (take count numbers) c (number_in w))) (class_in w) refl refl refl refl) e
    by_kind Kind.Beta n e = present (part.Pre (Some (record { kind = Kind.Beta; number = n }))) (Beta n) count w new numbers h
        (of_any_class (λ c. record_of (take count numbers) (Beta n) ≡ with_part (part.Pre (Some (record { kind = Kind.Beta; number = n }))) (record_in (take count numbers) c (number_in w))) (class_in w) refl refl refl refl) e
    by_kind Kind.Rc n e = present (part.Pre (Some (record { kind = Kind.Rc; number = n }))) (Rc n) count w new numbers h
        (of_any_class (λ c. record_of (take count numbers) (Rc n) ≡ with_part (part.Pre (Some (record { kind = Kind.Rc; number = n }))) (record_in (take count numbers) c (number_in w))) (class_in w) refl refl refl refl) e
part_is_set (part.Min None) count w new numbers h e = absent (part.Min None) count w new numbers h
    (λ t. ap (λ c. with_part (part.Min None) (record_in (take count numbers) c (number_in w))) (sym (same (class_in w) 0 t)))
    (λ t. ap (λ (b : Bool). with_part (part.Min (if b then Some (number_in w) else None)) (packed_record count w numbers)) t) e
part_is_set (part.Dev None) count w new numbers h e = absent (part.Dev None) count w new numbers h
    (λ t. ap (λ c. with_part (part.Dev None) (record_in (take count numbers) c (number_in w))) (sym (same (class_in w) 1 t)))
    (λ t. ap (λ (b : Bool). with_part (part.Dev (if b then Some (number_in w) else None)) (packed_record count w numbers)) t) e
part_is_set (part.Post None) count w new numbers h e = absent (part.Post None) count w new numbers h
    (λ t. ap (λ c. with_part (part.Post None) (record_in (take count numbers) c (number_in w))) (sym (same (class_in w) 6 t)))
    (λ t. ap (λ (b : Bool). with_part (part.Post (if b then Some (number_in w) else None)) (packed_record count w numbers)) t) e
part_is_set (part.Max None) count w new numbers h e = absent (part.Max None) count w new numbers h
    (λ t. ap (λ c. with_part (part.Max None) (record_in (take count numbers) c (number_in w))) (sym (same (class_in w) 7 t)))
    (λ t. ap (λ (b : Bool). with_part (part.Max (if b then Some (number_in w) else None)) (packed_record count w numbers)) t) e
part_is_set (part.Pre None) count w new numbers h e = absent (part.Pre None) count w new numbers h
    (of_pre_class (λ c. record_of (take count numbers) Plain ≡ with_part (part.Pre None) (record_in (take count numbers) c (number_in w))) (class_in w) refl refl refl) kept e
  where
    kept : ((class_in w == 2) || ((class_in w == 3) || (class_in w == 4))) ≡ false → packed_record count w numbers ≡ with_part (part.Pre None) (packed_record count w numbers)
    kept t =
        let others = neither (class_in w == 2) ((class_in w == 3) || (class_in w == 4)) t in
        let last = neither (class_in w == 3) (class_in w == 4) others.1 in
        λ i. with_part (part.Pre (if others.0 i then Some (record { kind = Kind.Alpha; number = number_in w })
        else (if last.0 i then Some (record { kind = Kind.Beta; number = number_in w }) else (if last.1 i then Some (record { kind = Kind.Rc; number = number_in w }) else None)))) (packed_record count w numbers)
