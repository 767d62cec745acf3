-- What is decoded has the bytes that it was decoded from.
use Rattle.std.proofs.Common.{◌≡◌, ◌∙◌, ℕ, zero, suc, ◌+◌, ◌-◌, ◌^◌, ◌<◌, ◌≤◌, List, [], ◌∷◌, ◌++◌, Option, append_assoc, ap, arith, drop, get_or, length, lit<, refl, replicate, subst, sym, take, w64, if◌then◌else◌, ◌&&◌, ◌*◌, ◌/◌, ◌%◌, Bool, true, false, Some, None, Result, Ok, Err, is_some, nat_lt}
use Rattle.std.proofs.Math.Dec.{eqb-suc-zero}
use Rattle.std.proofs.Math.Seq.{take-append_seam}
use Rattle.std.proofs.lemmas.Grind.{flat_map-append}
use Rattle.std.proofs.lemmas.List.{append-nil, length-append, length-drop, length-replicate, nil_from_length}
use Rattle.std.proofs.lemmas.Nat.{be_bytes_8, from_be_bytes-to_be_bytes_8}
use Rattle.std.specs.Int.{from_be_bytes, to_be_bytes, bytes_high_first}
use Rattle.std.specs.List.{flat_map, list_all}
use Rattle.pep440_compiled.proofs.Checking.{key_in_turn, ones}
use Rattle.pep440_compiled.proofs.Fronts.{IsTrimmed, none_needed, same_number, trim_padded, zeros_none, zeros_padded}
use Rattle.pep440_compiled.specs.KeyParts.{BeginsOtherwise, ending_zeros, suffix_bytes}
use Rattle.pep440_compiled.specs.KeyViews.{IsViewOf}
use Rattle.pep440_compiled.specs.Version.{DenotesVersion}
use Rattle.pep440_compiled.specs.declared.views.VersionView.{VersionView}
use Rattle.pep440_keys.proofs.Bytes.{needed_is, one_byte, needed_le, unpadded_le}
use Rattle.pep440_keys.specs.SortKeys.{key_bytes, local_bytes, needed_bytes, number_bytes, segment_bytes, trim_leading_zeros, rank_bytes}
use Rattle.pep440_version.specs.Record.{Fits, LocalSegmentValue, Record, Text, from_parts}
use Rattle.pep440_version.specs.Key.Trim.{trim}
use Rattle.pep440_version.specs.declared.prerelease.Prerelease.{Prerelease}
use Rattle.std.specs.Char.{is_ascii_digit}
use Rattle.std.specs.Result.{is_ok, result_ok}
use Rattle.std.specs.Str.Parse.{ParsesUnsigned, digits_value}
use Rattle.pep440_version.proofs.Reading.Digits.{value_of}
use Rattle.pep440_version.specs.Grammar.{is_numeral}

-- ---- Numbers by their bytes, and back

-- with the zeros in front that were left out
padded_step : (k m : ℕ) (bytes rest : List ℕ) → m ≤ k → replicate (k - m) 0 ++ rest ≡ bytes → replicate (suc k - m) 0 ++ rest ≡ 0 ∷ bytes
padded_step k m bytes rest le e = ap (λ n. replicate n 0 ++ rest) (let s : suc k - m ≡ suc (k - m) = omega (arith, le) in s) ∙ ap (λ l. 0 ∷ l) e

padded : (bytes : List ℕ) → replicate (length bytes - length (trim_leading_zeros bytes)) 0 ++ trim_leading_zeros bytes ≡ bytes
padded [] = refl
padded (zero ∷ rest) = padded_step (length rest) (length (trim_leading_zeros rest)) rest (trim_leading_zeros rest) (unpadded_le rest) (padded rest)
padded (suc b ∷ rest) =
    (λ i. replicate (length (suc b ∷ rest) - length (whole i)) 0 ++ whole i) ∙ ap (λ n. replicate n 0 ++ suc b ∷ rest) (let s : length (suc b ∷ rest) - length (suc b ∷ rest) ≡ 0 = omega arith in s)
  where
    whole : trim_leading_zeros (suc b ∷ rest) ≡ suc b ∷ rest
    whole = ap (λ t. if t then trim_leading_zeros rest else suc b ∷ rest) (eqb-suc-zero b)

bytes_long : (k n : ℕ) → length (bytes_high_first k n) ≡ k
bytes_long zero n = refl
bytes_long (suc k) n = ap suc (bytes_long k n)

eight : (n : ℕ) → replicate (8 - length (needed_bytes n)) 0 ++ needed_bytes n ≡ to_be_bytes w64 n
unfolding needed_bytes
eight n = ap (λ k. replicate (k - length (trim_leading_zeros (bytes_high_first 8 n))) 0 ++ trim_leading_zeros (bytes_high_first 8 n)) (sym (bytes_long 8 n)) ∙ padded (bytes_high_first 8 n)

taken : (k j : ℕ) → j ≤ k → take {A = ℕ} j (replicate k 0) ≡ replicate j 0
taken zero zero le = refl
taken (suc k) zero le = refl
taken zero (suc j) le = absurd (omega (arith, le))
taken (suc k) (suc j) le = ap (λ l. 0 ∷ l) (taken k j (omega (arith, le)))

all_dropped : (k : ℕ) → drop {A = ℕ} k (replicate k 0) ≡ []
all_dropped zero = refl
all_dropped (suc k) = all_dropped k

none_after : (k j : ℕ) → j ≤ k → drop {A = ℕ} (k - j) (drop j (replicate k 0)) ≡ []
none_after k zero le = ap (λ n. drop {A = ℕ} n (replicate k 0)) (let s : k - 0 ≡ k = omega arith in s) ∙ all_dropped k
none_after zero (suc j) le = absurd (omega (arith, le))
none_after (suc k) (suc j) le = ap (λ n. drop {A = ℕ} n (drop j (replicate k 0))) (let s : suc k - suc j ≡ k - j = omega arith in s) ∙ none_after k j (omega (arith, le))

-- the end of eight zeros replaced by these bytes
pub padded_is : (start : ℕ) (bytes : List ℕ) → length bytes ≤ 8 → start ≡ 8 - length bytes
    → take start (replicate 8 0) ++ (bytes ++ drop (8 - start) (drop start (replicate 8 0))) ≡ replicate (8 - length bytes) 0 ++ bytes
padded_is start bytes few s =
    let le : start ≤ 8 = omega (arith, s) in
    ap (λ l. take start (replicate 8 0) ++ (bytes ++ l)) (none_after 8 start le)
    ∙ ap (λ l. take start (replicate 8 0) ++ l) (append-nil bytes)
    ∙ ap (λ l. l ++ bytes) (taken 8 start le)
    ∙ ap (λ k. replicate k 0 ++ bytes) s

-- these bytes, with zeros in front of them, are those of the number
pub number_of : (n start : ℕ) (bytes : List ℕ) → Fits n → bytes ≡ needed_bytes n → length bytes ≤ 8 → start ≡ 8 - length bytes
    → from_be_bytes w64 (take start (replicate 8 0) ++ (bytes ++ drop (8 - start) (drop start (replicate 8 0)))) ≡ n
number_of n start bytes f e few s =
    ap (from_be_bytes w64) (padded_is start bytes few s)
    ∙ ap (λ l. from_be_bytes w64 (replicate (8 - length l) 0 ++ l)) e
    ∙ ap (from_be_bytes w64) (eight n)
    ∙ from_be_bytes-to_be_bytes_8 n f

-- ---- numbers by their digits

given : {A : Type 0} (b : Bool) (a : A) → is_some (if b then Some a else None) ≡ b
given true a = refl
given false a = refl

by_result : {A E : Type 0} (r : Result A E) → is_ok r ≡ is_some (result_ok r)
by_result (Ok x) = refl
by_result (Err e) = refl

pub numeral_by_parse : {E : Type 0} (digits : List ℕ) (r : Result ℕ E) → list_all is_ascii_digit digits ≡ true → 0 < length digits → ParsesUnsigned 64 10 digits r → is_ok r ≡ is_numeral digits
numeral_by_parse digits r all some p =
    let small = nat_lt (digits_value 10 digits) (2 ^ 64) in
    by_result r ∙ ap is_some (value_of digits r all some p) ∙ given small (digits_value 10 digits) ∙ sym (ap (λ b. b && small) all)

-- ---- an epoch; a rank and a number

pub epoch_parts : (bytes later rest : List ℕ) (first n : ℕ) → bytes ≡ first ∷ later → bytes ≡ number_bytes 0 n ++ rest → (first ≡ length (needed_bytes n)) × (later ≡ needed_bytes n ++ rest)
epoch_parts bytes later rest first n is e =
    let at : first ≡ 0 + length (needed_bytes n) = ap (λ l. get_or l 0 0) (sym is ∙ e) in
    (omega (arith, at), ap (drop 1) (sym is ∙ e))

-- what stands before the bytes of the number, and where they stand
pub ranked_parts : (bytes later rest : List ℕ) (first rank n : ℕ) → bytes ≡ first ∷ later → bytes ≡ rank_bytes (rank, n) ++ rest
    → (first % 16 ≡ length (needed_bytes n)) × (first / 16 ≡ rank) × (later ≡ needed_bytes n ++ rest)
ranked_parts bytes later rest first rank n is e =
    let at : first ≡ 16 * rank + length (needed_bytes n) = ap (λ l. get_or l 0 0) (sym is ∙ e) in
    let few = needed_le n in
    (omega (arith, at, few), omega (arith, at, few), ap (drop 1) (sym is ∙ e))

-- ---- what is decoded

-- ---- numbers by their bytes

bytes_fit : (k : ℕ) (bytes : List ℕ) → ((i : ℕ) → get_or bytes i 0 < 256) → (i : ℕ) → get_or (replicate k 0 ++ bytes) i 0 < 256
bytes_fit zero bytes h i = h i
bytes_fit (suc k) bytes h zero = lit< tt
bytes_fit (suc k) bytes h (suc i) = bytes_fit k bytes h i

unpadded : (k : ℕ) (bytes : List ℕ) → BeginsOtherwise 0 bytes → trim_leading_zeros (replicate k 0 ++ bytes) ≡ bytes
unpadded zero [] o = refl
unpadded zero (zero ∷ rest) o = absurd (o refl)
unpadded zero (suc b ∷ rest) o = ap (λ t. if t then trim_leading_zeros rest else suc b ∷ rest) (eqb-suc-zero b)
unpadded (suc k) bytes o = unpadded k bytes o

pub number_again : (n start : ℕ) (bytes : List ℕ) → ((i : ℕ) → get_or bytes i 0 < 256) → BeginsOtherwise 0 bytes → length bytes ≤ 8 → start ≡ 8 - length bytes
    → n ≡ from_be_bytes w64 (take start (replicate 8 0) ++ (bytes ++ drop (8 - start) (drop start (replicate 8 0)))) → bytes ≡ needed_bytes n
number_again n start bytes h o few s e =
    let k = 8 - length bytes in
    let long : length {A = ℕ} (replicate k 0 ++ bytes) ≡ 8 = omega (arith, few, length-append (replicate k 0) bytes, length-replicate {A = ℕ} k 0) in
    let back = be_bytes_8 (replicate k 0 ++ bytes) n long (bytes_fit k bytes h) (e ∙ ap (from_be_bytes w64) (padded_is start bytes few s)) in
    sym (unpadded k bytes o) ∙ needed_is n (replicate k 0 ++ bytes) (sym back)

eight_fit : (bytes : List ℕ) → ((i : ℕ) → get_or bytes i 0 < 256) → from_be_bytes w64 bytes < 2 ^ 64
eight_fit bytes h = omega (arith, h 0, h 1, h 2, h 3, h 4, h 5, h 6, h 7)

-- at most eight bytes that do not begin with a 0 are those of a number
pub some_number : (bytes : List ℕ) → ((i : ℕ) → get_or bytes i 0 < 256) → BeginsOtherwise 0 bytes → length bytes ≤ 8 → (n : ℕ) × Fits n × (bytes ≡ needed_bytes n)
some_number bytes h o few =
    let k = 8 - length bytes in
    let whole = replicate k 0 ++ bytes in
    let n = from_be_bytes w64 whole in
    let long : length {A = ℕ} whole ≡ 8 = omega (arith, few, length-append (replicate k 0) bytes, length-replicate {A = ℕ} k 0) in
    let back = be_bytes_8 whole n long (bytes_fit k bytes h) refl in
    (n, eight_fit whole (bytes_fit k bytes h), sym (unpadded k bytes o) ∙ needed_is n whole (sym back))

unpadded_first : (bytes rest : List ℕ) → trim_leading_zeros bytes ≡ 0 ∷ rest → ⊥
unpadded_first [] rest e = cc
unpadded_first (zero ∷ bytes) rest e = unpadded_first bytes rest e
unpadded_first (suc b ∷ bytes) rest e =
    let whole : trim_leading_zeros (suc b ∷ bytes) ≡ suc b ∷ bytes = ap (λ t. if t then trim_leading_zeros bytes else suc b ∷ bytes) (eqb-suc-zero b) in
    let first : suc b ≡ 0 = ap (λ l. get_or l 0 0) (sym whole ∙ e) in
    absurd (omega (arith, first))

pub needed_first : (n first : ℕ) (bytes later : List ℕ) → bytes ≡ first ∷ later → first ≡ 0 → bytes ≡ needed_bytes n → ⊥
unfolding needed_bytes
needed_first n first bytes later is z e = unpadded_first (to_be_bytes w64 n) later (sym e ∙ is ∙ ap (λ b. b ∷ later) z)

same_needed : (m n : ℕ) → Fits m → Fits n → needed_bytes m ≡ needed_bytes n → m ≡ n
same_needed m n f g e = same_number 0 m n [] [] f g (ap (λ l. ((0 + length l) ∷ l) ++ []) e)

pub needed_one : (byte : ℕ) → (byte ≡ 0 → ⊥) → byte < 256 → byte ∷ [] ≡ needed_bytes byte
needed_one byte o small = sym (ap (drop 1) (one_byte 0 byte (omega (arith, o)) small))

pub one_number : (n byte : ℕ) (bytes : List ℕ) → Fits n → byte < 256 → (byte ≡ 0 → ⊥) → bytes ≡ byte ∷ [] → bytes ≡ needed_bytes n → byte ≡ n
one_number n byte bytes f small o is e = same_needed byte n (omega (arith, small)) f (sym (needed_one byte o small) ∙ sym is ∙ e)

pub zero_number : (bytes : List ℕ) → length bytes ≡ 0 → bytes ≡ needed_bytes 0
zero_number bytes none = nil_from_length bytes none ∙ sym none_needed

pub no_number : (n : ℕ) (bytes : List ℕ) → Fits n → length bytes ≡ 0 → bytes ≡ needed_bytes n → 0 ≡ n
no_number n bytes f none e = same_needed 0 n (lit< tt) f (sym (zero_number bytes none) ∙ e)

-- the same bytes before the rest, as many
pub one_counted : (m n count : ℕ) (bytes u v : List ℕ) → Fits m → Fits n → count ≡ length (needed_bytes m) → count ≡ length (needed_bytes n) → bytes ≡ needed_bytes m ++ u → bytes ≡ needed_bytes n ++ v → m ≡ n
one_counted m n count bytes u v f g c d e h = same_number 0 m n u v f g (λ i. (0 + (sym c ∙ d) i) ∷ (sym e ∙ h) i)

-- a number of one byte, and what stands behind it
pub short_number : (n byte : ℕ) (needed bytes later rest : List ℕ) → Fits n → byte < 256 → needed ≡ needed_bytes n → length needed ≡ 1 → bytes ≡ byte ∷ later → bytes ≡ needed ++ rest
    → (byte ≡ n) × (later ≡ rest)
short_number n byte [] bytes later rest f small e one is also = absurd (omega (arith, one))
short_number n byte (x ∷ []) bytes later rest f small e one is also =
    let same : byte ≡ x = ap (λ l. get_or l 0 0) (sym is ∙ also) in
    (same ∙ one_number n x (x ∷ []) f (omega (arith, same, small)) (λ z. needed_first n x (x ∷ []) [] refl z e) refl e, ap (drop 1) (sym is ∙ also))
short_number n byte (x ∷ y ∷ more) bytes later rest f small e one is also = absurd (omega (arith, one))

pub begins_otherwise : (bytes later : List ℕ) (first : ℕ) → bytes ≡ first ∷ later → (first ≡ 0 → ⊥) → BeginsOtherwise 0 bytes
begins_otherwise bytes later first is other = subst (BeginsOtherwise 0) (sym is) other

-- a byte that has a base and a count of bytes, and these
pub coded_again : (base : ℕ) (bytes later rest : List ℕ) (first count n : ℕ) → bytes ≡ first ∷ later → first ≡ base + count → count ≡ length (needed_bytes n) → later ≡ needed_bytes n ++ rest → bytes ≡ number_bytes base n ++ rest
coded_again base bytes later rest first count n is at c e = is ∙ (λ i. (at ∙ ap (λ k. base + k) c) i ∷ e i)

-- ---- items that loops have read

pub none_coded : {A : Type 0} (code : A → List ℕ) (bytes left later : List ℕ) (seen : List A) (first : ℕ) → bytes ≡ flat_map code seen ++ left → left ≡ first ∷ later → first ≡ 0 → bytes ≡ flat_map code seen ++ 0 ∷ later
none_coded code bytes left later seen first e is z = e ∙ ap (λ l. flat_map code seen ++ l) (is ∙ ap (λ b. b ∷ later) z)

pub one_coded : {A : Type 0} (code : A → List ℕ) (bytes left rest : List ℕ) (seen new : List A) (x : A) → bytes ≡ flat_map code seen ++ left → left ≡ code x ++ rest → new ≡ seen ++ x ∷ [] → bytes ≡ flat_map code new ++ rest
one_coded code bytes left rest seen new x e is n =
    e ∙ ap (λ l. flat_map code seen ++ l) is
    ∙ sym (append_assoc (flat_map code seen) (code x) rest)
    ∙ ap (λ l. (flat_map code seen ++ l) ++ rest) (sym (append-nil (code x)))
    ∙ ap (λ l. l ++ rest) (sym (flat_map-append code seen (x ∷ [])))
    ∙ ap (λ l. flat_map code l ++ rest) (sym n)

-- ---- releases

pub whole_trimmed : (xs : List ℕ) → length (trim xs) ≡ length xs → IsTrimmed xs
whole_trimmed xs h = zeros_none xs (omega (arith, h, length-drop (length (trim xs)) xs))

pub release_written : (numbers new : List ℕ) (zeros : ℕ) → IsTrimmed numbers → new ≡ numbers ++ replicate zeros 0 → (zeros ≡ ending_zeros new) × (trim new ≡ numbers)
release_written numbers new zeros t e =
    (sym (ap ending_zeros e ∙ zeros_padded numbers zeros t), ap trim e ∙ trim_padded numbers zeros t)

-- ---- stage, post and dev

pub three_again : (bytes s a p b d rest : List ℕ) → bytes ≡ s ++ a → a ≡ p ++ b → b ≡ d ++ rest → bytes ≡ (s ++ (p ++ d)) ++ rest
three_again bytes s a p b d rest e f g =
    e ∙ ap (λ l. s ++ l) (f ∙ ap (λ l. p ++ l) g ∙ sym (append_assoc p d rest)) ∙ sym (append_assoc s (p ++ d) rest)

-- ---- local parts

pub text_again : (first : ℕ) (bytes text rest : List ℕ) → first ≡ 1 → bytes ≡ text ++ 0 ∷ rest → first ∷ bytes ≡ segment_bytes (Text text) ++ rest
text_again first bytes text rest one e = (λ i. one i ∷ e i) ∙ sym (append_assoc (1 ∷ text) (0 ∷ []) rest)

pub text_before : (bytes text rest : List ℕ) → bytes ≡ text ++ 0 ∷ rest → take (length bytes - length rest - 1) bytes ≡ text
text_before bytes text rest e =
    let count : length bytes - length rest - 1 ≡ length text = omega (arith, ap length e, length-append text (0 ∷ rest)) in
    (λ i. take (count i) (e i)) ∙ take-append_seam text (0 ∷ rest)

-- ---- the zeros after a key

pub one_before : (bytes left kept : List ℕ) (last k : ℕ) → bytes ≡ left ++ replicate k 1 → left ≡ kept ++ last ∷ [] → last ≡ 1 → bytes ≡ kept ++ replicate (suc k) 1
one_before bytes left kept last k e is one =
    e ∙ ap (λ l. l ++ replicate k 1) (is ∙ ap (λ b. kept ++ b ∷ []) one) ∙ append_assoc kept (1 ∷ []) (replicate k 1)

pub view_again : (bytes rest key : List ℕ) (k : ℕ) → bytes ≡ 4 ∷ rest → rest ≡ key ++ replicate k 1 → bytes ≡ 4 ∷ (key ++ replicate (length rest - length key) 1)
view_again bytes rest key k is r =
    let count : k ≡ length rest - length key = omega (arith, ap length r, length-append key (replicate k 1), length-replicate {A = ℕ} k 1) in
    is ∙ ap (λ l. 4 ∷ l) r ∙ ap (λ n. 4 ∷ (key ++ replicate n 1)) count

-- ---- whole versions

pub version_again : (bytes numbers suffix rest : List ℕ) (epoch : ℕ) (release : List ℕ) (pre : Option Prerelease) (post dev : Option ℕ) (local : List LocalSegmentValue)
    → bytes ≡ number_bytes 0 epoch ++ numbers → numbers ≡ flat_map (number_bytes 1) (trim release) ++ 0 ∷ suffix → suffix ≡ suffix_bytes (from_parts 0 [] pre post dev []) ++ rest → rest ≡ local_bytes local
    → bytes ≡ key_bytes (from_parts epoch release pre post dev local)
version_again bytes numbers suffix rest epoch release pre post dev local e f g h =
    e ∙ ap (λ l. number_bytes 0 epoch ++ l) (f ∙ ap (λ l. flat_map (number_bytes 1) (trim release) ++ 0 ∷ l) (g ∙ ap (λ l. suffix_bytes (from_parts 0 [] pre post dev []) ++ l) h))
    ∙ sym (key_in_turn (from_parts epoch release pre post dev local))

pub denoted : (bytes : List ℕ) (view : VersionView) (r : Record) → IsViewOf view r → bytes ≡ 4 ∷ (view.key.now ++ replicate view.zeros 1) → DenotesVersion bytes r
denoted bytes view r v e = record {
  parsed = v.parsed;
  same =
      e ∙ (λ i. 4 ∷ (v.key i ++ replicate (v.zeros i) 1))
      ∙ ap (λ l. 4 ∷ (key_bytes r ++ l)) (sym (ones (drop (length (trim r.release)) r.release)));
}
