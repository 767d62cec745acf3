-- What sort keys begin with, in the order of the versions; and that a key and the zeros that it leaves out tell all parts of a version that a string parses to.
use Rattle.std.proofs.Common.{◌≡◌, ◌∙◌, ℕ, refl, sym, ap, Bool, true, false, true≢false, List, [], ◌∷◌, ◌++◌, length, take, append_assoc, nat_eq, ◌==◌, ◌&&◌, ◌||◌, zero, suc, ◌+◌, ◌<◌, subst, arith, inl, inr, lit<, get_or, Option, Some, None}
use Rattle.std.proofs.Math.Seq.{take-append_seam, drop-append_seam}
use Rattle.std.proofs.lemmas.List.{append-nil, take-append-drop, nil_from_length}
use Rattle.std.proofs.lemmas.Cmp.{nat_list_cmp_total, nat_list_eq_equiv, tied_itself}
use Rattle.std.specs.Cmp.Lexicographic.{pointwise, same_text, slice_cmp}
use Rattle.std.specs.FinMap.{nat_cmp-IsAntisymmetric, slice_cmp-IsAntisymmetric, IsAntisymmetric}
use Rattle.std.specs.List.{starts_with, AllByRecursion, flat_map, list_all, All}
use Rattle.std.specs.Ordering.{is_eq, nat_cmp, ordering_then}
use Rattle.std.specs.Prelude.{drop, nat_le, replicate, if◌then◌else◌, ◌⊎◌, bytes_eq, map}
use Rattle.std.specs.declared.cmp.Ordering.{Ordering}
use Rattle.std.specs.declared.cmp.Ordering.TheVariants.{Less, Equal, Greater}
use Rattle.pep440_compiled.specs.KeyParts.{base_bytes, public_bytes, suffix_bytes, begins_with_ones, continues_with_zeros, ending_zeros, BeginsOtherwise}
use Rattle.pep440_version.specs.RoundTrip.{IsParsed}
use Rattle.pep440_keys.proofs.Codes.{number_is_code, place_is_code, release_is_code}
use Rattle.pep440_keys.proofs.Order.{dev_fits, no_zero, post_fits, release_fits, stage_fits, followed_in_order, keys_in_order}
use Rattle.pep440_keys.specs.SortKeys.{IsKeyed, number_bytes, rank_bytes, release_bytes, needed_bytes, key_bytes}
use Rattle.pep440_version.proofs.Ordering.Comparisons.{then_assoc}
use Rattle.pep440_version.specs.Key.{base_cmp, dev_rank, key, post_rank, rank_cmp, record_cmp, release_cmp, stage_rank, dev_of, kind_rank, post_of, segment_cmp, stage_of}
use Rattle.pep440_version.specs.Record.{Record, Fits, Number, Text}
use Rattle.std.proofs.lemmas.Bool.Decides.{nat_tests}
use Rattle.std.proofs.lemmas.Bool.{cases_Bool, cases_eq, eq-eqb, le-leb, ne_eqb, eqb-true}
use Rattle.pep440_keys.proofs.Bytes.{zero_bytes as zero_has_no_bytes}
use Rattle.pep440_rs.specs.Matching.{begins_with, without_last}
use Rattle.pep440_version.specs.Key.Trim.{prepend_trimmed, trim}
use Rattle.std.proofs.lemmas.List.Elements.{recursion_from_All, All-from_recursion}
use Rattle.pep440_compiled.specs.Version.{DenotesVersion, version_bytes, zero_bytes}
use Rattle.pep440_version.proofs.Reading.Agreement.{one_record}
use Rattle.pep440_version.proofs.RoundTrip.PrintIsRead.{derived_record, derived_rereads, reread}
use Rattle.pep440_version.specs.Grammar.{Derives}
use Rattle.pep440_version.specs.Key.KeyLaws.{release_cmp-trim}
use Rattle.pep440_version.specs.Print.{print}
use Rattle.pep440_version.specs.declared.prerelease.Prerelease.{Prerelease}
use Rattle.pep440_version.specs.declared.prerelease.PrereleaseKind.{PrereleaseKind}
use Rattle.pep440_version.specs.declared.prerelease.PrereleaseKind.TheVariants.{Alpha, Beta, Rc}

-- ---- the leading parts of sort keys, in the order of the versions; and which keys begin with them

pub keyed : (r : Record) → IsParsed r → IsKeyed r
keyed r p = record { valid = p.valid; local = λ k s h. no_zero _ (p.round_trips.local k s h) }

-- ---- the release

pub release_split : (epoch : ℕ) (numbers : List ℕ) → base_bytes epoch numbers ++ 0 ∷ [] ≡ number_bytes 0 epoch ++ release_bytes numbers
release_split epoch numbers = append_assoc (number_bytes 0 epoch) _ (0 ∷ [])

-- epoch and release, whatever follows them
pub base_in_order : (r q : Record) → IsParsed r → IsParsed q → (u v : List ℕ)
    → slice_cmp nat_cmp ((base_bytes r.epoch r.release ++ 0 ∷ []) ++ u) ((base_bytes q.epoch q.release ++ 0 ∷ []) ++ v) ≡ ordering_then (base_cmp r q) (slice_cmp nat_cmp u v)
base_in_order r q p o u v =
    let h = keyed r p in
    let k = keyed q o in
    (λ i. slice_cmp nat_cmp ((ap (λ l. l ++ u) (release_split r.epoch r.release) ∙ append_assoc (number_bytes 0 r.epoch) (release_bytes r.release) u) i)
    ((ap (λ l. l ++ v) (release_split q.epoch q.release) ∙ append_assoc (number_bytes 0 q.epoch) (release_bytes q.release) v) i))
    ∙ (number_is_code 0).splits r.epoch q.epoch h.valid.epoch k.valid.epoch _ _
    ∙ ap (ordering_then (nat_cmp r.epoch q.epoch)) (release_is_code.splits r.release q.release (release_fits r h) (release_fits q k) u v)
    ∙ sym (then_assoc (nat_cmp r.epoch q.epoch) (release_cmp r.release q.release) (slice_cmp nat_cmp u v))

-- ---- all but the local part

-- by all but the local part
abbrev pub public_cmp : Record → Record → Ordering
public_cmp r q = record_cmp (record r { local = [] }) (record q { local = [] })

public_split : (r : Record) (u : List ℕ) → public_bytes r ++ u ≡ (base_bytes r.epoch r.release ++ 0 ∷ []) ++ (rank_bytes (stage_rank (key r).stage) ++ (rank_bytes (post_rank (key r).post) ++ (rank_bytes (dev_rank (key r).dev) ++ u)))
public_split r u =
    let front = base_bytes r.epoch r.release in
    let stage = rank_bytes (stage_rank (key r).stage) in
    let post = rank_bytes (post_rank (key r).post) in
    let dev = rank_bytes (dev_rank (key r).dev) in
    append_assoc front (0 ∷ suffix_bytes r) u
    ∙ ap (λ l. front ++ 0 ∷ l) (append_assoc stage (post ++ dev) u ∙ ap (λ l. stage ++ l) (append_assoc post dev u))
    ∙ sym (append_assoc front (0 ∷ []) (stage ++ (post ++ (dev ++ u))))

five_in_turn : (a b c d e o : Ordering) → ordering_then (ordering_then a b) (ordering_then c (ordering_then d (ordering_then e o)))
    ≡ ordering_then (ordering_then a (ordering_then b (ordering_then c (ordering_then d (ordering_then e Equal))))) o
five_in_turn Less b c d e o = refl
five_in_turn Greater b c d e o = refl
five_in_turn Equal Less c d e o = refl
five_in_turn Equal Greater c d e o = refl
five_in_turn Equal Equal Less d e o = refl
five_in_turn Equal Equal Greater d e o = refl
five_in_turn Equal Equal Equal Less e o = refl
five_in_turn Equal Equal Equal Greater e o = refl
five_in_turn Equal Equal Equal Equal Less o = refl
five_in_turn Equal Equal Equal Equal Greater o = refl
five_in_turn Equal Equal Equal Equal Equal o = refl

pub tied_last : (o : Ordering) → ordering_then o Equal ≡ o
tied_last Less = refl
tied_last Equal = refl
tied_last Greater = refl

pub public_in_order : (r q : Record) → IsParsed r → IsParsed q → (u v : List ℕ) → slice_cmp nat_cmp (public_bytes r ++ u) (public_bytes q ++ v) ≡ ordering_then (public_cmp r q) (slice_cmp nat_cmp u v)
public_in_order r q p o u v =
    let h = keyed r p in
    let k = keyed q o in
    let stage = rank_cmp (stage_rank (key r).stage) (stage_rank (key q).stage) in
    let post = rank_cmp (post_rank (key r).post) (post_rank (key q).post) in
    let dev = rank_cmp (dev_rank (key r).dev) (dev_rank (key q).dev) in
    (λ i. slice_cmp nat_cmp (public_split r u i) (public_split q v i))
    ∙ base_in_order r q p o _ _
    ∙ ap (ordering_then (base_cmp r q)) (place_is_code.splits (stage_rank (key r).stage) (stage_rank (key q).stage) (stage_fits _ _ _ _ _ h.valid.pre) (stage_fits _ _ _ _ _ k.valid.pre) _ _
    ∙ ap (ordering_then stage) (place_is_code.splits (post_rank (key r).post) (post_rank (key q).post) (post_fits _ _ h.valid.max h.valid.post) (post_fits _ _ k.valid.max k.valid.post) _ _
    ∙ ap (ordering_then post) (place_is_code.splits (dev_rank (key r).dev) (dev_rank (key q).dev) (dev_fits _ _ h.valid.min h.valid.dev) (dev_fits _ _ k.valid.min k.valid.dev) u v)))
    ∙ five_in_turn (nat_cmp r.epoch q.epoch) (release_cmp r.release q.release) stage post dev (slice_cmp nat_cmp u v)

-- ---- what begins with a front

same_again : (p : List ℕ) → pointwise nat_eq p p ≡ true
same_again p = nat_list_eq_equiv.refl p

pub starts : (p w : List ℕ) → starts_with nat_eq (p ++ w) p ≡ true
starts p w = ap (pointwise nat_eq p) (take-append_seam p w) ∙ same_again p

pub starts_from : (x p : List ℕ) → starts_with nat_eq x p ≡ true → x ≡ p ++ drop (length p) x
starts_from x p e = sym (ap (λ l. l ++ drop (length p) x) (same_text p (take (length p) x) (sym e)) ∙ take-append-drop (length p) x)

-- both of two orders are ties
pub both_tie : (a b : Ordering) → ordering_then a b ≡ Equal → (a ≡ Equal) × (b ≡ Equal)
both_tie Less b e = absurd (cc)
both_tie Greater b e = absurd (cc)
both_tie Equal b e = (refl, e)

pub eq_true : (o : Ordering) → is_eq o ≡ true → o ≡ Equal
eq_true Less e = absurd (true≢false (sym e))
eq_true Greater e = absurd (true≢false (sym e))
eq_true Equal e = refl

-- two tests that imply each other
pub same_tests : (a b : Bool) → (a ≡ true → b ≡ true) → (b ≡ true → a ≡ true) → a ≡ b
same_tests true true f g = refl
same_tests false false f g = refl
same_tests true false f g = sym (f refl)
same_tests false true f g = g refl

pub same_bytes : (a b : List ℕ) → slice_cmp nat_cmp a b ≡ Equal → a ≡ b
same_bytes a b e = slice_cmp-IsAntisymmetric nat_cmp-IsAntisymmetric a b e

pub itself : (a : List ℕ) → slice_cmp nat_cmp a a ≡ Equal
itself a = tied_itself nat_list_cmp_total a

-- two codes are the same bytes exactly if they tie
alike : (a b : List ℕ) (o : Ordering) → ((u v : List ℕ) → slice_cmp nat_cmp (a ++ u) (b ++ v) ≡ ordering_then o (slice_cmp nat_cmp u v)) → pointwise nat_eq a b ≡ is_eq o
alike a b o splits = same_tests _ _
    (λ e. ap is_eq (both_tie o _ (sym (splits [] []) ∙ ap (λ l. slice_cmp nat_cmp (l ++ []) (b ++ [])) (same_text a b (sym e)) ∙ itself (b ++ []))).0)
    (λ e.
    let same : a ≡ b = sym (append-nil a) ∙ same_bytes (a ++ []) (b ++ []) (splits [] [] ∙ ap (λ x. ordering_then x Equal) (eq_true o e)) ∙ append-nil b in
    ap (λ l. pointwise nat_eq l b) same ∙ same_again b)

pub same_release_bytes : (s v : Record) → IsParsed s → IsParsed v → pointwise nat_eq (base_bytes v.epoch v.release ++ 0 ∷ []) (base_bytes s.epoch s.release ++ 0 ∷ []) ≡ is_eq (base_cmp v s)
same_release_bytes s v p q = alike (base_bytes v.epoch v.release ++ 0 ∷ []) (base_bytes s.epoch s.release ++ 0 ∷ []) (base_cmp v s) (base_in_order v s q p)

-- ---- the numbers that a release begins with, by the bytes of its sort key

zero_fits : Fits 0
zero_fits = lit< tt

-- ---- numbers

-- the same bytes lead the same number
pub same_number : (base m n : ℕ) (u v : List ℕ) → Fits m → Fits n → number_bytes base m ++ u ≡ number_bytes base n ++ v → m ≡ n
same_number base m n u v p q e =
    nat_cmp-IsAntisymmetric m n (both_tie (nat_cmp m n) (slice_cmp nat_cmp u v) (sym ((number_is_code base).splits m n p q u v) ∙ ap (slice_cmp nat_cmp (number_bytes base m ++ u)) (sym e) ∙ itself (number_bytes base m ++ u))).0

-- a number that is not 0 needs a byte
no_bytes : (n : ℕ) (bytes : List ℕ) → Fits n → bytes ≡ needed_bytes n → bytes ≡ [] → n ≡ 0
no_bytes n bytes p e none =
    same_number 1 n 0 [] [] p zero_fits (ap (λ l. l ++ []) ((λ i. (1 + length (sym e i)) ∷ sym e i) ∙ ap (λ l. (1 + length l) ∷ l) none ∙ sym (zero_has_no_bytes 1 0 refl)))

pub none_needed : needed_bytes 0 ≡ []
none_needed = nil_from_length (needed_bytes 0) (omega (arith, ap length (zero_has_no_bytes 1 0 refl)))

pub some_needed : (n : ℕ) → Fits n → (n ≡ 0 → ⊥) → 0 < length (needed_bytes n)
some_needed n p other =
    elim (cases_eq (length (needed_bytes n)) 0) [
      | inl e ↦ absurd (other (no_bytes n (needed_bytes n) p refl (nil_from_length (needed_bytes n) e)))
      | inr more ↦ omega (arith, more)
    ]

-- ---- releases without zeros at their end

abbrev pub IsTrimmed : List ℕ → Type 0
IsTrimmed xs = trim xs ≡ xs

tail_is : (x : ℕ) (xs ts : List ℕ) → prepend_trimmed x ts ≡ x ∷ xs → ts ≡ xs
tail_is x xs [] e = short (x == 0) e
  where
    short : (b : Bool) → (if b then [] else x ∷ []) ≡ x ∷ xs → [] ≡ xs
    short true e = absurd (cc)
    short false e = ap (drop 1) e
tail_is x xs (t ∷ ts) e = ap (drop 1) e

pub trimmed_tail : (x : ℕ) (xs : List ℕ) → IsTrimmed (x ∷ xs) → IsTrimmed xs
trimmed_tail x xs h = tail_is x xs (trim xs) h

-- a last number is not 0
trimmed_last : (x : ℕ) → IsTrimmed (x ∷ []) → x ≡ 0 → ⊥
trimmed_last zero h e = cc
trimmed_last (suc x) h e = absurd (omega (arith, e))

-- ---- zeros that follow

le_suc : (k n : ℕ) → nat_le (suc k) (suc n) ≡ nat_le k n
le_suc k n = grind (arith, nat_tests)

ones_step : (k b : ℕ) (bytes : List ℕ) → begins_with_ones (suc k) (b ∷ bytes) ≡ (b == 1) && begins_with_ones k bytes
ones_step k b bytes =
    ap (λ t. t && ((b == 1) && list_all (λ n. n == 1) (take k bytes))) (le_suc k (length bytes)) ∙ turned (nat_le k (length bytes)) (b == 1) (list_all (λ n. n == 1) (take k bytes))
  where
    turned : (x y z : Bool) → x && (y && z) ≡ y && (x && z)
    turned true y z = refl
    turned false true z = refl
    turned false false z = refl

-- a release that has numbers begins with k zeros exactly if its first k bytes are ones
none_asked : (bytes : List ℕ) → begins_with_ones 0 bytes ≡ true
none_asked bytes = ap (λ b. b && true) (le-leb 0 (length bytes) (omega arith))

pub none_continue : (bytes : List ℕ) → continues_with_zeros 0 bytes ≡ true
none_continue [] = none_asked []
none_continue (b ∷ bytes) = ap (λ t. (b == 0) || t) (none_asked (b ∷ bytes)) ∙ or_true (b == 0)
  where
    or_true : (x : Bool) → x || true ≡ true
    or_true true = refl
    or_true false = refl

more_numbers : (ys : List ℕ) → IsTrimmed (0 ∷ ys) → 0 < length ys
more_numbers [] h = absurd (trimmed_last 0 h refl)
more_numbers (y ∷ ys) h = omega arith

-- one number more
zeros_step : (k x : ℕ) (xs w : List ℕ) → IsTrimmed (x ∷ xs) → Fits x → (0 < length xs → IsTrimmed xs → begins_with xs (replicate k 0) ≡ begins_with_ones k (flat_map (number_bytes 1) xs ++ w))
    → begins_with (x ∷ xs) (replicate (suc k) 0) ≡ begins_with_ones (suc k) (flat_map (number_bytes 1) (x ∷ xs) ++ w)
zeros_step k x xs w h p again =
    elim (cases_eq x 0) [
      | inl e ↦
          ap (λ b. b && begins_with xs (replicate k 0)) (eq-eqb x 0 e)
          ∙ again (more_numbers xs (subst (λ n. IsTrimmed (n ∷ xs)) e h)) (trimmed_tail x xs h)
          ∙ sym (ap (λ l. begins_with_ones (suc k) ((l ++ flat_map (number_bytes 1) xs) ++ w)) (zero_has_no_bytes 1 x e) ∙ ones_step k 1 (flat_map (number_bytes 1) xs ++ w))
      | inr other ↦
          let first : (1 + length (needed_bytes x) == 1) ≡ false = ne_eqb _ 1 (λ e. let some = some_needed x p other in omega (arith, e, some)) in
          ap (λ b. b && begins_with xs (replicate k 0)) (ne_eqb x 0 other)
          ∙ sym (ones_step k (1 + length (needed_bytes x)) ((needed_bytes x ++ flat_map (number_bytes 1) xs) ++ w) ∙ ap (λ b. b && begins_with_ones k ((needed_bytes x ++ flat_map (number_bytes 1) xs) ++ w)) first)
    ]

-- a release that has numbers begins with k zeros exactly if its first k bytes are ones
zeros_alike : (k : ℕ) (xs w : List ℕ) → 0 < length xs → IsTrimmed xs → AllByRecursion Fits xs → begins_with xs (replicate k 0) ≡ begins_with_ones k (flat_map (number_bytes 1) xs ++ w)
zeros_alike zero xs w some h p = sym (none_asked (flat_map (number_bytes 1) xs ++ w))
zeros_alike (suc k) [] w some h p = absurd (omega arith)
zeros_alike (suc k) (x ∷ xs) w some h p = zeros_step k x xs w h p.0 (λ more trimmed. zeros_alike k xs w more trimmed p.1)

-- ---- a whole prefix

-- numbers, and zeros after them
abbrev pub padded : List ℕ → ℕ → List ℕ
padded xs k = xs ++ replicate k 0

abbrev pub numbers_code : List ℕ → List ℕ
numbers_code xs = flat_map (number_bytes 1) xs

none_begin : (k : ℕ) → begins_with [] (replicate k 0) ≡ true
none_begin zero = refl
none_begin (suc k) = none_begin k

-- an empty release does not begin with a number that is not 0
never_begins : (ts more : List ℕ) → 0 < length ts → IsTrimmed ts → begins_with [] (ts ++ more) ≡ false
never_begins [] more some h = absurd (omega arith)
never_begins (t ∷ []) more some h = ap (λ b. b && begins_with [] more) (ne_eqb 0 t (λ e. trimmed_last t h (sym e)))
never_begins (t ∷ u ∷ ts) more some h = ap (λ b. (0 == t) && b) (never_begins (u ∷ ts) more (omega arith) (trimmed_tail t (u ∷ ts) h)) ∙ and_false (0 == t)
  where
    and_false : (b : Bool) → b && false ≡ false
    and_false true = refl
    and_false false = refl

pub starts_step : (c u v : List ℕ) → starts_with nat_eq (c ++ u) (c ++ v) ≡ starts_with nat_eq u v
starts_step [] u v = refl
starts_step (b ∷ c) u v = ap (λ t. t && starts_with nat_eq (c ++ u) (c ++ v)) (eq-eqb b b refl) ∙ starts_step c u v

pub drop_step : (c u v : List ℕ) → drop (length (c ++ v)) (c ++ u) ≡ drop (length v) u
drop_step [] u v = refl
drop_step (b ∷ c) u v = drop_step c u v

not_zero_first : (n : ℕ) (rest w : List ℕ) → starts_with nat_eq (0 ∷ w) ((1 + n) ∷ rest) ≡ false
not_zero_first n rest w = ap (λ b. b && pointwise nat_eq rest (take (length rest) w)) (ne_eqb (1 + n) 0 (λ e. omega (arith, e)))

pub begins_by_bytes : (ts xs w : List ℕ) (k : ℕ) → IsTrimmed ts → IsTrimmed xs → AllByRecursion Fits ts → AllByRecursion Fits xs
    → begins_with xs (padded ts k) ≡ starts_with nat_eq (numbers_code xs ++ 0 ∷ w) (numbers_code ts) && continues_with_zeros k (drop (length (numbers_code ts)) (numbers_code xs ++ 0 ∷ w))
begins_by_bytes [] [] w k g h p q = none_begin k
begins_by_bytes [] (x ∷ xs) w k g h p q =
    zeros_alike k (x ∷ xs) (0 ∷ w) (omega arith) h q
    ∙ sym (ap (λ b. b || begins_with_ones k (numbers_code (x ∷ xs) ++ 0 ∷ w)) (ne_eqb (1 + length (needed_bytes x)) 0 (λ e. omega (arith, e))))
begins_by_bytes (t ∷ ts) [] w k g h p q =
    never_begins (t ∷ ts) (replicate k 0) (omega arith) g
    ∙ sym (ap (λ b. b && continues_with_zeros k (drop (length (numbers_code (t ∷ ts))) (0 ∷ w))) (not_zero_first (length (needed_bytes t)) (needed_bytes t ++ numbers_code ts) w))
begins_by_bytes (t ∷ ts) (x ∷ xs) w k g h p q =
    elim (cases_eq x t) [
      | inl e ↦
          let same : numbers_code (x ∷ xs) ++ 0 ∷ w ≡ number_bytes 1 t ++ (numbers_code xs ++ 0 ∷ w) = append_assoc (number_bytes 1 x) (numbers_code xs) (0 ∷ w) ∙ ap (λ n. number_bytes 1 n ++ (numbers_code xs ++ 0 ∷ w)) e in
          ap (λ b. b && begins_with xs (padded ts k)) (eq-eqb x t e)
          ∙ begins_by_bytes ts xs w k (trimmed_tail t ts g) (trimmed_tail x xs h) p.1 q.1
          ∙ sym ((λ i. starts_with nat_eq (same i) (numbers_code (t ∷ ts)) && continues_with_zeros k (drop (length (numbers_code (t ∷ ts))) (same i)))
          ∙ (λ i. starts_step (number_bytes 1 t) (numbers_code xs ++ 0 ∷ w) (numbers_code ts) i && continues_with_zeros k (drop_step (number_bytes 1 t) (numbers_code xs ++ 0 ∷ w) (numbers_code ts) i)))
      | inr other ↦
          ap (λ b. b && begins_with xs (padded ts k)) (ne_eqb x t other)
          ∙ sym (ap (λ b. b && continues_with_zeros k (drop (length (numbers_code (t ∷ ts))) (numbers_code (x ∷ xs) ++ 0 ∷ w))) (not_started other))
    ]
  where
    not_started : (x ≡ t → ⊥) → starts_with nat_eq (numbers_code (x ∷ xs) ++ 0 ∷ w) (numbers_code (t ∷ ts)) ≡ false
    not_started other =
        elim (cases_Bool (starts_with nat_eq (numbers_code (x ∷ xs) ++ 0 ∷ w) (numbers_code (t ∷ ts)))) [
          | inl e ↦
              let begun = starts_from (numbers_code (x ∷ xs) ++ 0 ∷ w) (numbers_code (t ∷ ts)) e in
              absurd (other (same_number 1 x t _ _ q.0 p.0 (sym (append_assoc (number_bytes 1 x) (numbers_code xs) (0 ∷ w)) ∙ begun ∙ append_assoc (number_bytes 1 t) (numbers_code ts) _)))
          | inr e ↦ e
        ]

-- ---- releases as their trimmed numbers and the zeros after them

-- ---- trimmed numbers, and zeros

lone : (x : ℕ) → ((x ≡ 0) × (prepend_trimmed x [] ≡ [])) ⊎ ((x ≡ 0 → ⊥) × (prepend_trimmed x [] ≡ x ∷ []))
lone x =
    elim (cases_eq x 0) [
      | inl e ↦ inl (e, ap (λ b. if b then [] else x ∷ []) (eq-eqb x 0 e))
      | inr other ↦ inr (other, ap (λ b. if b then [] else x ∷ []) (ne_eqb x 0 other))
    ]

-- what trim leaves, and how many it takes
abbrev IsPadded : List ℕ → List ℕ → Type 0
IsPadded xs ts = xs ≡ padded ts (length (drop (length ts) xs))

pad_step : (x : ℕ) (xs ts : List ℕ) → IsPadded xs ts → IsPadded (x ∷ xs) (prepend_trimmed x ts)
pad_step x xs (t ∷ ts) e = ap (λ l. x ∷ l) e
pad_step x xs [] e =
    elim (lone x) [
      | inl z ↦ subst (λ l. IsPadded (x ∷ xs) l) (sym z.1) ((λ i. z.0 i ∷ e i))
      | inr o ↦ subst (λ l. IsPadded (x ∷ xs) l) (sym o.1) (ap (λ l. x ∷ l) e)
    ]

pub trim_pad : (xs : List ℕ) → xs ≡ padded (trim xs) (ending_zeros xs)
trim_pad [] = refl
trim_pad (x ∷ xs) = pad_step x xs (trim xs) (trim_pad xs)

again_step : (x : ℕ) (ts : List ℕ) → IsTrimmed ts → IsTrimmed (prepend_trimmed x ts)
again_step x (t ∷ ts) h = ap (prepend_trimmed x) h
again_step x [] h =
    elim (lone x) [
      | inl z ↦ subst IsTrimmed (sym z.1) refl
      | inr o ↦ subst IsTrimmed (sym o.1) o.1
    ]

pub trim_again : (xs : List ℕ) → IsTrimmed (trim xs)
trim_again [] = refl
trim_again (x ∷ xs) = again_step x (trim xs) (trim_again xs)

trim_zeros : (k : ℕ) → trim (replicate k 0) ≡ []
trim_zeros zero = refl
trim_zeros (suc k) = ap (prepend_trimmed 0) (trim_zeros k)

pub trim_padded : (ts : List ℕ) (k : ℕ) → IsTrimmed ts → trim (padded ts k) ≡ ts
trim_padded [] k h = trim_zeros k
trim_padded (t ∷ ts) k h = ap (prepend_trimmed t) (trim_padded ts k (trimmed_tail t ts h)) ∙ ap (prepend_trimmed t) (sym (trimmed_tail t ts h)) ∙ h

replicate_length : (k : ℕ) → length {A = ℕ} (replicate k 0) ≡ k
replicate_length zero = refl
replicate_length (suc k) = ap suc (replicate_length k)

pub zeros_padded : (ts : List ℕ) (k : ℕ) → IsTrimmed ts → ending_zeros (padded ts k) ≡ k
zeros_padded ts k h = ap (λ l. length (drop (length l) (padded ts k))) (trim_padded ts k h) ∙ ap length (drop-append_seam ts (replicate k 0)) ∙ replicate_length k

-- ---- what a release begins with

begins_zeros : (k : ℕ) (ps : List ℕ) → begins_with (replicate k 0) ps ≡ begins_with [] ps
begins_zeros zero ps = refl
begins_zeros (suc k) [] = refl
begins_zeros (suc k) (p ∷ ps) = ap (λ b. (0 == p) && b) (begins_zeros k ps)

begins_padded : (xs : List ℕ) (k : ℕ) (ps : List ℕ) → begins_with (padded xs k) ps ≡ begins_with xs ps
begins_padded [] k ps = begins_zeros k ps
begins_padded (x ∷ xs) k [] = refl
begins_padded (x ∷ xs) k (p ∷ ps) = ap (λ b. (x == p) && b) (begins_padded xs k ps)

pub trim_fits : (xs : List ℕ) → All Fits xs → AllByRecursion Fits (trim xs)
trim_fits xs h = go xs (recursion_from_All Fits xs h)
  where
    one : (x : ℕ) (ts : List ℕ) → Fits x → AllByRecursion Fits ts → AllByRecursion Fits (prepend_trimmed x ts)
    one x (t ∷ ts) f h = (f, h)
    one x [] f h =
        elim (lone x) [
          | inl z ↦ subst (AllByRecursion Fits) (sym z.1) tt
          | inr o ↦ subst (AllByRecursion Fits) (sym o.1) (f, tt)
        ]

    go : (xs : List ℕ) → AllByRecursion Fits xs → AllByRecursion Fits (trim xs)
    go [] h = tt
    go (x ∷ xs) h = one x (trim xs) h.0 (go xs h.1)

-- a key whose epoch and release these are begins with the front of these numbers exactly if the epochs are the same and the release begins
-- with the numbers
pub prefix_by_bytes : (epoch : ℕ) (numbers : List ℕ) (other : ℕ) (release w : List ℕ) → Fits epoch → All Fits numbers → Fits other → All Fits release
    → starts_with nat_eq (base_bytes other release ++ 0 ∷ w) (base_bytes epoch numbers) && continues_with_zeros (ending_zeros numbers) (drop (length (base_bytes epoch numbers)) (base_bytes other release ++ 0 ∷ w))
    ≡ (other == epoch) && begins_with release numbers
prefix_by_bytes epoch numbers other release w f all g alls =
    elim (cases_eq other epoch) [
      | inl e ↦
          let K = numbers_code (trim release) ++ 0 ∷ w in
          let N = numbers_code (trim numbers) in
          let at : base_bytes other release ++ 0 ∷ w ≡ number_bytes 0 epoch ++ K = append_assoc (number_bytes 0 other) (numbers_code (trim release)) (0 ∷ w) ∙ ap (λ n. number_bytes 0 n ++ K) e in
          (λ i. starts_with nat_eq (at i) (base_bytes epoch numbers) && continues_with_zeros (ending_zeros numbers) (drop (length (base_bytes epoch numbers)) (at i)))
          ∙ (λ i. starts_step (number_bytes 0 epoch) K N i && continues_with_zeros (ending_zeros numbers) (drop_step (number_bytes 0 epoch) K N i))
          ∙ sym (begins_by_bytes (trim numbers) (trim release) w (ending_zeros numbers) (trim_again numbers) (trim_again release) (trim_fits numbers all) (trim_fits release alls))
          ∙ ap (begins_with (trim release)) (sym (trim_pad numbers))
          ∙ sym (begins_padded (trim release) (ending_zeros release) numbers) ∙ ap (λ l. begins_with l numbers) (sym (trim_pad release))
          ∙ sym (ap (λ b. b && begins_with release numbers) (eq-eqb other epoch e))
      | inr apart ↦
          ap (λ b. b && continues_with_zeros (ending_zeros numbers) (drop (length (base_bytes epoch numbers)) (base_bytes other release ++ 0 ∷ w))) (not_started apart)
          ∙ sym (ap (λ b. b && begins_with release numbers) (ne_eqb other epoch apart))
    ]
  where
    not_started : (other ≡ epoch → ⊥) → starts_with nat_eq (base_bytes other release ++ 0 ∷ w) (base_bytes epoch numbers) ≡ false
    not_started apart =
        elim (cases_Bool (starts_with nat_eq (base_bytes other release ++ 0 ∷ w) (base_bytes epoch numbers))) [
          | inl e ↦
              let begun = starts_from (base_bytes other release ++ 0 ∷ w) (base_bytes epoch numbers) e in
              absurd (apart (same_number 0 other epoch _ _ g f (sym (append_assoc (number_bytes 0 other) _ (0 ∷ w)) ∙ begun ∙ append_assoc (number_bytes 0 epoch) _ _)))
          | inr e ↦ e
        ]

-- ---- without the last number

last_zero : (ts : List ℕ) (k : ℕ) → without_last (padded ts (suc k)) ≡ padded ts k
last_zero [] zero = refl
last_zero [] (suc k) = ap (λ l. 0 ∷ l) (last_zero [] k)
last_zero (t ∷ []) zero = refl
last_zero (t ∷ []) (suc k) = ap (λ l. t ∷ l) (last_zero [] (suc k))
last_zero (t ∷ u ∷ ts) k = ap (λ l. t ∷ l) (last_zero (u ∷ ts) k)

-- where a release ends in a zero, one is taken
pub zero_taken : (xs : List ℕ) (k : ℕ) → ending_zeros xs ≡ suc k → (trim (without_last xs) ≡ trim xs) × (ending_zeros (without_last xs) ≡ k)
zero_taken xs k e =
    let is : without_last xs ≡ padded (trim xs) k = ap without_last (trim_pad xs ∙ ap (padded (trim xs)) e) ∙ last_zero (trim xs) k in
    (ap trim is ∙ trim_padded (trim xs) k (trim_again xs), ap ending_zeros is ∙ zeros_padded (trim xs) k (trim_again xs))

pub last_taken : (xs : List ℕ) (x : ℕ) → without_last (xs ++ x ∷ []) ≡ xs
last_taken [] x = refl
last_taken (y ∷ []) x = refl
last_taken (y ∷ z ∷ xs) x = ap (λ l. y ∷ l) (last_taken (z ∷ xs) x)

-- a zero more, or another number more
more_zeros : (ts : List ℕ) (k : ℕ) → padded ts k ++ 0 ∷ [] ≡ padded ts (suc k)
more_zeros [] zero = refl
more_zeros [] (suc k) = ap (λ l. 0 ∷ l) (more_zeros [] k)
more_zeros (t ∷ ts) k = ap (λ l. t ∷ l) (more_zeros ts k)

pub zero_more : (xs : List ℕ) → (trim (xs ++ 0 ∷ []) ≡ trim xs) × (ending_zeros (xs ++ 0 ∷ []) ≡ ending_zeros xs + 1)
zero_more xs =
    let is : xs ++ 0 ∷ [] ≡ padded (trim xs) (suc (ending_zeros xs)) = ap (λ l. l ++ 0 ∷ []) (trim_pad xs) ∙ more_zeros (trim xs) (ending_zeros xs) in
    (ap trim is ∙ trim_padded (trim xs) (suc (ending_zeros xs)) (trim_again xs), ap ending_zeros is ∙ zeros_padded (trim xs) (suc (ending_zeros xs)) (trim_again xs) ∙ omega arith)

pub number_more : (xs : List ℕ) (x : ℕ) → (x ≡ 0 → ⊥) → IsTrimmed (xs ++ x ∷ [])
number_more [] x other =
    elim (lone x) [ inl z ↦ absurd (other z.0) | inr o ↦ o.1 ]
number_more (y ∷ []) x other = ap (prepend_trimmed y) (number_more [] x other)
number_more (y ∷ z ∷ xs) x other = ap (prepend_trimmed y) (number_more (z ∷ xs) x other)

pub trimmed_zeros : (xs : List ℕ) → IsTrimmed xs → ending_zeros xs ≡ 0
trimmed_zeros xs h = ap ending_zeros (sym (append-nil xs)) ∙ zeros_padded xs 0 h

pub zeros_none : (xs : List ℕ) → ending_zeros xs ≡ 0 → IsTrimmed xs
zeros_none xs e = sym (trim_pad xs ∙ ap (padded (trim xs)) e ∙ append-nil (trim xs))

pub without_last_fits : (xs : List ℕ) → All Fits xs → All Fits (without_last xs)
without_last_fits xs h = All-from_recursion Fits (without_last xs) (go xs (recursion_from_All Fits xs h))
  where
    go : (xs : List ℕ) → AllByRecursion Fits xs → AllByRecursion Fits (without_last xs)
    go [] h = tt
    go (x ∷ []) h = tt
    go (x ∷ y ∷ xs) h = (h.0, go (y ∷ xs) h.1)

-- ---- bytes denote one version: a sort key and the zeros that it leaves out tell all parts of a version that a string parses to

-- ---- parts that tie

same_rank : (p q : ℕ × ℕ) → rank_cmp p q ≡ Equal → (p.0 ≡ q.0) × (p.1 ≡ q.1)
same_rank p q e =
    let both = both_tie (nat_cmp p.0 q.0) (nat_cmp p.1 q.1) e in
    (nat_cmp-IsAntisymmetric p.0 q.0 both.0, nat_cmp-IsAntisymmetric p.1 q.1 both.1)

same_kind : (k j : PrereleaseKind) → 2 + kind_rank k ≡ 2 + kind_rank j → k ≡ j
same_kind Alpha Alpha e = refl
same_kind Alpha Beta e = absurd (omega (arith, e))
same_kind Alpha Rc e = absurd (omega (arith, e))
same_kind Beta Alpha e = absurd (omega (arith, e))
same_kind Beta Beta e = refl
same_kind Beta Rc e = absurd (omega (arith, e))
same_kind Rc Alpha e = absurd (omega (arith, e))
same_kind Rc Beta e = absurd (omega (arith, e))
same_kind Rc Rc e = refl

-- no stage of a version without a pre-release has the rank of one
no_kind : (k : PrereleaseKind) (dev post : Option ℕ) → 2 + kind_rank k ≡ (stage_rank (stage_of None None dev post None)).0 → ⊥
no_kind Alpha None post e = omega (arith, e)
no_kind Alpha (Some d) None e = omega (arith, e)
no_kind Alpha (Some d) (Some p) e = omega (arith, e)
no_kind Beta None post e = omega (arith, e)
no_kind Beta (Some d) None e = omega (arith, e)
no_kind Beta (Some d) (Some p) e = omega (arith, e)
no_kind Rc None post e = omega (arith, e)
no_kind Rc (Some d) None e = omega (arith, e)
no_kind Rc (Some d) (Some p) e = omega (arith, e)

abbrev stage_ranks : Option Prerelease → Option ℕ → Option ℕ → ℕ × ℕ
stage_ranks pre dev post = stage_rank (stage_of None pre dev post None)

same_pre : (pre : Option Prerelease) (dev post : Option ℕ) (other : Option Prerelease) (dev2 post2 : Option ℕ)
    → (stage_ranks pre dev post).0 ≡ (stage_ranks other dev2 post2).0 → (stage_ranks pre dev post).1 ≡ (stage_ranks other dev2 post2).1 → pre ≡ other
same_pre None dev post None dev2 post2 e f = refl
same_pre (Some p) dev post None dev2 post2 e f = absurd (no_kind p.kind dev2 post2 e)
same_pre None dev post (Some q) dev2 post2 e f = absurd (no_kind q.kind dev post (sym e))
same_pre (Some p) dev post (Some q) dev2 post2 e f =
    let kinds = same_kind p.kind q.kind e in
    (λ i. Some (record { kind = kinds i; number = f i }))

same_post : (post other : Option ℕ) → (post_rank (post_of None post)).0 ≡ (post_rank (post_of None other)).0 → (post_rank (post_of None post)).1 ≡ (post_rank (post_of None other)).1 → post ≡ other
same_post None None e f = refl
same_post None (Some q) e f = absurd (omega (arith, e))
same_post (Some p) None e f = absurd (omega (arith, e))
same_post (Some p) (Some q) e f = ap Some f

same_dev : (dev other : Option ℕ) → (dev_rank (dev_of None dev)).0 ≡ (dev_rank (dev_of None other)).0 → (dev_rank (dev_of None dev)).1 ≡ (dev_rank (dev_of None other)).1 → dev ≡ other
same_dev None None e f = refl
same_dev None (Some q) e f = absurd (omega (arith, e))
same_dev (Some p) None e f = absurd (omega (arith, e))
same_dev (Some p) (Some q) e f = ap Some f

same_segment : IsAntisymmetric segment_cmp
same_segment (Text s) (Text t) e = ap Text (slice_cmp-IsAntisymmetric nat_cmp-IsAntisymmetric s t e)
same_segment (Text s) (Number n) e = absurd (cc)
same_segment (Number m) (Text t) e = absurd (cc)
same_segment (Number m) (Number n) e = ap Number (nat_cmp-IsAntisymmetric m n e)

-- ---- whole versions

-- the same without sentinels
abbrev plain : Record → Record
plain r = record r { min = None; max = None }

plain_is : (r : Record) → IsParsed r → plain r ≡ r
plain_is r p = λ i. record r { min = sym p.round_trips.no_min i; max = sym p.round_trips.no_max i }

same_plain : (r q : Record) → record_cmp (plain r) (plain q) ≡ Equal → ending_zeros r.release ≡ ending_zeros q.release → plain r ≡ plain q
same_plain r q e zeros =
    let epoch = both_tie _ _ e in
    let release = both_tie _ _ epoch.1 in
    let stage = both_tie _ _ release.1 in
    let post = both_tie _ _ stage.1 in
    let dev = both_tie _ _ post.1 in
    let epochs = nat_cmp-IsAntisymmetric r.epoch q.epoch epoch.0 in
    let trims : trim r.release ≡ trim q.release = slice_cmp-IsAntisymmetric nat_cmp-IsAntisymmetric (trim r.release) (trim q.release) (sym (release_cmp-trim r.release q.release) ∙ release.0) in
    let releases : r.release ≡ q.release = trim_pad r.release ∙ (λ i. padded (trims i) (zeros i)) ∙ sym (trim_pad q.release) in
    let stages = same_rank (stage_ranks r.pre r.dev r.post) (stage_ranks q.pre q.dev q.post) stage.0 in
    let posts = same_rank (post_rank (post_of None r.post)) (post_rank (post_of None q.post)) post.0 in
    let devs = same_rank (dev_rank (dev_of None r.dev)) (dev_rank (dev_of None q.dev)) dev.0 in
    let pre = same_pre r.pre r.dev r.post q.pre q.dev q.post stages.0 stages.1 in
    let post_is = same_post r.post q.post posts.0 posts.1 in
    let dev_is = same_dev r.dev q.dev devs.0 devs.1 in
    let local = slice_cmp-IsAntisymmetric same_segment r.local q.local dev.1 in
    (λ i. record { epoch = epochs i; release = releases i; pre = pre i; post = post_is i; dev = dev_is i; local = local i; min = None; max = None })

-- the same key and the same zeros are those of the same version
pub same_version : (r q : Record) → IsParsed r → IsParsed q → key_bytes r ≡ key_bytes q → ending_zeros r.release ≡ ending_zeros q.release → r ≡ q
same_version r q p o e zeros =
    let tie : record_cmp r q ≡ Equal = sym (keys_in_order r q (keyed r p) (keyed q o)) ∙ ap (slice_cmp nat_cmp (key_bytes r)) (sym e) ∙ itself (key_bytes r) in
    sym (plain_is r p) ∙ same_plain r q ((λ i. record_cmp (plain_is r p i) (plain_is q o i)) ∙ tie) zeros ∙ plain_is q o

-- ---- printed forms

same_print : (s v : Record) → IsParsed s → IsParsed v → print s ≡ print v → s ≡ v
same_print s v p q e = one_record (print s) s v (reread s p.valid p.round_trips) (subst (λ t. Derives t v) (sym e) (reread v q.valid q.round_trips))

-- of two versions with the same key the numbers of zeros decide whether they print alike
pub alike_by_zeros : (s v : Record) → IsParsed s → IsParsed v → key_bytes v ≡ key_bytes s → nat_eq (ending_zeros v.release) (ending_zeros s.release) ≡ bytes_eq (print s) (print v)
alike_by_zeros s v p q e = same_tests _ _
    (λ same. ap (λ r. bytes_eq (print s) (print r)) (same_version v s q p e (eqb-true (ending_zeros v.release) (ending_zeros s.release) same)) ∙ nat_list_eq_equiv.refl (print s))
    (λ alike. eq-eqb (ending_zeros v.release) (ending_zeros s.release) (ap (λ (r : Record). ending_zeros r.release) (sym (same_print s v p q (same_text (print s) (print v) (sym alike))))))

pub alike_not : (s v : Record) → IsParsed s → IsParsed v → (key_bytes v ≡ key_bytes s → ⊥) → false ≡ bytes_eq (print s) (print v)
alike_not s v p q other = same_tests _ _
    (λ no_one. absurd (cc))
    (λ alike. absurd (other (ap key_bytes (sym (same_print s v p q (same_text (print s) (print v) (sym alike)))))))

-- ---- compiled forms

zeros_cmp : (xs ys : List ℕ) → slice_cmp nat_cmp (map (λ n. 1) xs) (map (λ n. 1) ys) ≡ Equal → length xs ≡ length ys
zeros_cmp [] [] e = refl
zeros_cmp [] (y ∷ ys) e = absurd (cc)
zeros_cmp (x ∷ xs) [] e = absurd (cc)
zeros_cmp (x ∷ xs) (y ∷ ys) e = ap suc (zeros_cmp xs ys e)

-- the same bytes, whatever zeros follow
one_form : (r q : Record) → IsParsed r → IsParsed q → version_bytes r ≡ version_bytes q → r ≡ q
one_form r q p o e =
    let tie = both_tie _ _ (sym (followed_in_order r q (keyed r p) (keyed q o) (zero_bytes r.release) (zero_bytes q.release)) ∙ ap (slice_cmp nat_cmp (version_bytes r)) (sym e) ∙ itself (version_bytes r)) in
    same_version r q p o (slice_cmp-IsAntisymmetric nat_cmp-IsAntisymmetric (key_bytes r) (key_bytes q) (keys_in_order r q (keyed r p) (keyed q o) ∙ tie.0)) (zeros_cmp _ _ tie.1)

pub one_denoted : (bytes : List ℕ) (r q : Record) → DenotesVersion bytes r → DenotesVersion bytes q → r ≡ q
one_denoted bytes r q d e = one_form r q d.parsed e.parsed (ap (drop 1) (sym d.same ∙ e.same))

pub parsed : (text : List ℕ) (r : Record) → Derives text r → IsParsed r
parsed text r d = record { valid = derived_record text r d; round_trips = derived_rereads text r d }

-- zeros, and bytes that do not begin with one
zeros_first : (xs ys u v : List ℕ) → BeginsOtherwise 1 u → BeginsOtherwise 1 v → map (λ n. 1) xs ++ u ≡ map (λ n. 1) ys ++ v → (length xs ≡ length ys) × (u ≡ v)
zeros_first [] [] u v p q e = (refl, e)
zeros_first [] (y ∷ ys) [] v p q e = absurd (omega (arith, ap length e))
zeros_first [] (y ∷ ys) (b ∷ u) v p q e = absurd (p (ap (λ l. get_or l 0 0) e))
zeros_first (x ∷ xs) [] u [] p q e = absurd (omega (arith, ap length e))
zeros_first (x ∷ xs) [] u (b ∷ v) p q e = absurd (q (sym (ap (λ l. get_or l 0 0) e)))
zeros_first (x ∷ xs) (y ∷ ys) u v p q e =
    let rest = zeros_first xs ys u v p q (ap (drop 1) e) in
    (ap suc rest.0, rest.1)

-- the version of a member, and what follows it
pub member_version : (r q : Record) (u v : List ℕ) → IsParsed r → IsParsed q → BeginsOtherwise 1 u → BeginsOtherwise 1 v → version_bytes r ++ u ≡ version_bytes q ++ v → (r ≡ q) × (u ≡ v)
member_version r q u v p o other another e =
    let zr = zero_bytes r.release in
    let zq = zero_bytes q.release in
    let split : key_bytes r ++ (zr ++ u) ≡ key_bytes q ++ (zq ++ v) = sym (append_assoc (key_bytes r) zr u) ∙ e ∙ append_assoc (key_bytes q) zq v in
    let tie = both_tie _ _ (sym (followed_in_order r q (keyed r p) (keyed q o) (zr ++ u) (zq ++ v)) ∙ ap (slice_cmp nat_cmp (key_bytes r ++ (zr ++ u))) (sym split) ∙ itself (key_bytes r ++ (zr ++ u))) in
    let keys : key_bytes r ≡ key_bytes q = slice_cmp-IsAntisymmetric nat_cmp-IsAntisymmetric (key_bytes r) (key_bytes q) (keys_in_order r q (keyed r p) (keyed q o) ∙ tie.0) in
    let zeros = zeros_first _ _ u v other another (slice_cmp-IsAntisymmetric nat_cmp-IsAntisymmetric (zr ++ u) (zq ++ v) tie.1) in
    (same_version r q p o keys zeros.0, zeros.1)
