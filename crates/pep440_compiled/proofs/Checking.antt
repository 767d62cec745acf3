-- What loops over the bytes of a version have tested.
use Rattle.std.proofs.Common.{◌≡◌, ◌∙◌, ℕ, zero, suc, ◌+◌, ◌<◌, lit<, refl, sym, ap, subst, arith, inl, inr, Bool, false, true, List, [], ◌∷◌, ◌++◌, length, nat_lt, replicate, ◌-◌, ◌≤◌, All, append_assoc, drop, get_or, map}
use Rattle.std.proofs.lemmas.Bool.{cases_eq, lt-ltb, ltb-true}
use Rattle.std.proofs.lemmas.List.{length-append, length-replicate, append-nil, get_or-map, length-drop, length-map, replicate_more}
use Rattle.std.proofs.lemmas.List.Elements.{All-from_recursion}
use Rattle.std.specs.List.{All, AllByRecursion, flat_map, list_all}
use Rattle.pep440_compiled.proofs.Loops.{Leads, Reads}
use Rattle.pep440_compiled.proofs.Fronts.{IsTrimmed, none_needed, padded, some_needed, number_more, trim_again, trim_pad, trim_padded, zero_more, zeros_padded}
use Rattle.pep440_compiled.specs.KeyParts.{ending_zeros, suffix_bytes}
use Rattle.pep440_keys.specs.SortKeys.{needed_bytes, number_bytes, segment_bytes, key_bytes, local_bytes, rank_bytes}
use Rattle.pep440_version.specs.Record.{Fits, LocalSegmentValue, SegmentFits, Record, Text, from_parts}
use Rattle.pep440_version.specs.RoundTrip.{SegmentRoundTrips, IsParsed, is_lower}
use Rattle.pep440_version.specs.Key.Trim.{trim}
use Rattle.std.proofs.lemmas.Bool.Decides.{nat_tests}
use Rattle.std.proofs.lemmas.Str.{IsUtf8-from_ascii}
use Rattle.std.proofs.lemmas.Str.Ascii.{IsAscii-from_all}
use Rattle.std.specs.Str.{IsUtf8}
use Rattle.pep440_compiled.specs.Version.{zero_bytes}
use Rattle.pep440_version.proofs.Reading.Prefixes.{both_first, both_second, same_front}
use Rattle.pep440_version.specs.Grammar.{starts}
use Rattle.pep440_version.specs.Key.{dev_rank, key, post_rank, stage_rank}
use Rattle.pep440_version.specs.Segments.{segment}
use Rattle.pep440_version.specs.declared.segment.LocalSegment.{LocalSegment}

-- ---- release numbers

-- whether a release may end behind these numbers, with so many zeros after them
pub record Ends (zeros : ℕ) (seen : List ℕ) (may_end : Bool) : Type 0 where
  pub trimmed : may_end ≡ true → IsTrimmed seen
  pub some : may_end ≡ true → 0 < length seen + zeros
  pub back : IsTrimmed seen → 0 < length seen + zeros → may_end ≡ true

pub ends_first : (zeros : ℕ) → Ends zeros [] (nat_lt 0 zeros)
ends_first zeros = record {
  trimmed = λ e. refl;
  some = λ e. omega (arith, ltb-true 0 zeros e);
  back = λ t some. lt-ltb 0 zeros (omega (arith, some));
}

not_trimmed : (seen : List ℕ) (n : ℕ) → IsTrimmed (seen ++ n ∷ []) → 0 < n
not_trimmed seen n t =
    elim (cases_eq n 0) [
      | inl e ↦
          let shorter : length (trim seen) ≡ length (seen ++ 0 ∷ []) = ap length (sym (zero_more seen).0 ∙ ap (λ n. trim (seen ++ n ∷ [])) (sym e) ∙ t ∙ ap (λ n. seen ++ n ∷ []) e) in
          absurd (omega (arith, shorter, ap length (trim_pad seen), length-append (trim seen) (replicate (ending_zeros seen) 0), length-append seen (0 ∷ [])))
      | inr other ↦ omega (arith, other)
    ]

pub ends_next : (zeros : ℕ) (seen : List ℕ) (n : ℕ) → Ends zeros (seen ++ n ∷ []) (nat_lt 0 n)
ends_next zeros seen n = record {
  trimmed = λ e. number_more seen n (λ z. let some = ltb-true 0 n e in omega (arith, some, z));
  some = λ e. omega (arith, length-append seen (n ∷ []));
  back = λ t some. lt-ltb 0 n (not_trimmed seen n t);
}

by_count : (n first count : ℕ) → first ≡ 1 + count → (n ≡ 0 → count ≡ 0) → ((n ≡ 0 → ⊥) → 0 < count) → nat_lt 0 n ≡ nat_lt 1 first
by_count zero first count e none some = let one : first ≡ 1 = omega (arith, e, none refl) in sym (ap (λ f. nat_lt 1 f) one)
by_count (suc n) first count e none some =
    let more = some (λ z. omega (arith, z)) in
    lt-ltb 0 (suc n) (omega arith) ∙ sym (lt-ltb 1 first (omega (arith, e, more)))

-- by the byte that counts the bytes of the last number
pub ends_by_count : (zeros : ℕ) (seen : List ℕ) (n first : ℕ) → Fits n → first ≡ 1 + length (needed_bytes n) → Ends zeros (seen ++ n ∷ []) (nat_lt 1 first)
ends_by_count zeros seen n first fits e =
    subst (Ends zeros (seen ++ n ∷ [])) (by_count n first (length (needed_bytes n)) e (λ z. ap length (ap needed_bytes z ∙ none_needed)) (some_needed n fits)) (ends_next zeros seen n)

-- the numbers that were read
pub record Tested (bytes left : List ℕ) (zeros : ℕ) (may_end : Bool) : Type 0 where
  pub seen : List ℕ
  pub fit : AllByRecursion Fits seen
  pub reads : Reads Fits (number_bytes 1) bytes seen left
  pub coded : bytes ≡ flat_map (number_bytes 1) seen ++ left
  pub ends : Ends zeros seen may_end

pub one_more : {A : Type 0} (P : A → Type 0) (xs : List A) (x : A) → AllByRecursion P xs → P x → AllByRecursion P (xs ++ x ∷ [])
one_more P [] x all p = (p, tt)
one_more P (y ∷ xs) x all p = (all.0, one_more P xs x all.1 p)

zeros_fit : (xs : List ℕ) (zeros : ℕ) → AllByRecursion Fits xs → AllByRecursion Fits (padded xs zeros)
zeros_fit [] zero all = tt
zeros_fit [] (suc k) all = (lit< tt, zeros_fit [] k tt)
zeros_fit (x ∷ xs) k all = (all.0, zeros_fit xs k all.1)

-- the release that ends behind them
pub release_tested : (bytes later seen : List ℕ) (zeros : ℕ) → AllByRecursion Fits seen → IsTrimmed seen → 0 < length seen + zeros → bytes ≡ flat_map (number_bytes 1) seen ++ 0 ∷ later
    → (release : List ℕ) × All Fits release × (0 < length release) × (zeros ≡ ending_zeros release) × (bytes ≡ flat_map (number_bytes 1) (trim release) ++ 0 ∷ later)
release_tested bytes later seen zeros fit t some e = (
  padded seen zeros,
  All-from_recursion Fits (padded seen zeros) (zeros_fit seen zeros fit),
  omega (arith, some, length-append seen (replicate zeros 0), length-replicate {A = ℕ} zeros 0),
  sym (zeros_padded seen zeros t),
  e ∙ ap (λ l. flat_map (number_bytes 1) l ++ 0 ∷ later) (sym (trim_padded seen zeros t)),
)

-- it may end where a release does
pub may_end_there : (seen release : List ℕ) (k : ℕ) (may_end : Bool) → Ends k seen may_end → seen ≡ trim release → k ≡ ending_zeros release → 0 < length release → may_end ≡ true
may_end_there seen release k may_end ends same z some =
    ends.back (subst IsTrimmed (sym same) (trim_again release)) (omega (arith, some, ap length same, z, ap length (trim_pad release), length-append (trim release) (replicate (ending_zeros release) 0), length-replicate {A = ℕ} (ending_zeros release) 0))

-- ---- local segments

abbrev pub IsParsedSegment : LocalSegmentValue → Type 0
IsParsedSegment s = SegmentFits s × SegmentRoundTrips s

pub record TestedSegments (bytes left : List ℕ) : Type 0 where
  pub seen : List LocalSegmentValue
  pub fit : AllByRecursion IsParsedSegment seen
  pub leads : Leads IsParsedSegment segment_bytes bytes left
  pub coded : bytes ≡ flat_map segment_bytes seen ++ left

pub segments_fit : (xs : List LocalSegmentValue) → AllByRecursion IsParsedSegment xs → All SegmentFits xs
segments_fit xs all = All-from_recursion SegmentFits xs (go xs all)
  where
    go : (xs : List LocalSegmentValue) → AllByRecursion IsParsedSegment xs → AllByRecursion SegmentFits xs
    go [] all = tt
    go (x ∷ xs) all = (all.0.0, go xs all.1)

pub segments_reread : (xs : List LocalSegmentValue) → AllByRecursion IsParsedSegment xs → All SegmentRoundTrips xs
segments_reread xs all = All-from_recursion SegmentRoundTrips xs (go xs all)
  where
    go : (xs : List LocalSegmentValue) → AllByRecursion IsParsedSegment xs → AllByRecursion SegmentRoundTrips xs
    go [] all = tt
    go (x ∷ xs) all = (all.0.1, go xs all.1)

-- ---- before compiling

pub one_of : (xs : List LocalSegment) (i : ℕ) (x : LocalSegment) → x ≡ get_or xs i x → i < length xs → All SegmentRoundTrips (map segment xs) → SegmentRoundTrips (segment x)
one_of xs i x is inside all =
    subst SegmentRoundTrips (get_or-map segment xs i x (segment x) inside ∙ sym (ap segment is)) (all i (segment x) (omega (arith, inside, length-map xs segment)))

-- ---- the zeros after a key

pub ones : (xs : List ℕ) → map {B = ℕ} (λ n. 1) xs ≡ replicate (length xs) 1
ones [] = refl
ones (x ∷ xs) = ap (λ l. 1 ∷ l) (ones xs)

pub trim_le : (release kept : List ℕ) → kept ≡ trim release → length kept ≤ length release
trim_le release kept e = omega (arith, ap length e, ap length (trim_pad release), length-append (trim release) (replicate (ending_zeros release) 0))

pub zeros_written : (release kept : List ℕ) (end : ℕ) → kept ≡ trim release → end ≡ length release → replicate (end - length kept) 1 ≡ zero_bytes release
zeros_written release kept end e s =
    (λ i. replicate (s i - length (e i)) 1)
    ∙ ap (λ n. replicate n 1) (sym (length-drop (length (trim release)) release))
    ∙ sym (ones (drop (length (trim release)) release))

pub one_written : (old seen new : List ℕ) (counter kept : ℕ) → kept ≤ counter → seen ≡ old ++ replicate (counter - kept) 1 → new ≡ seen ++ 1 ∷ [] → new ≡ old ++ replicate (counter + 1 - kept) 1
one_written old seen new counter kept le s e =
    let next : counter + 1 - kept ≡ counter - kept + 1 = omega (arith, le) in
    e ∙ ap (λ l. l ++ 1 ∷ []) s ∙ append_assoc old (replicate (counter - kept) 1) (1 ∷ []) ∙ ap (λ l. old ++ l) (replicate_more (counter - kept) 1 ∙ ap (λ n. replicate n 1) (sym next))

-- ---- stage, post and dev

-- the three in turn, and what follows them
pub suffix_in_turn : (bytes : List ℕ) (r : Record) (rest : List ℕ) → bytes ≡ suffix_bytes r ++ rest
    → bytes ≡ rank_bytes (stage_rank (key r).stage) ++ (rank_bytes (post_rank (key r).post) ++ (rank_bytes (dev_rank (key r).dev) ++ rest))
suffix_in_turn bytes r rest e =
    let stage = rank_bytes (stage_rank (key r).stage) in
    let post = rank_bytes (post_rank (key r).post) in
    let dev = rank_bytes (dev_rank (key r).dev) in
    e ∙ append_assoc stage (post ++ dev) rest ∙ ap (λ l. stage ++ l) (append_assoc post dev rest)

-- ---- items that loops have read

pub all_read : {A : Type 0} (xs seen ys : List A) → xs ≡ seen ++ ys → ys ≡ [] → seen ≡ xs
all_read xs seen ys e none = sym (e ∙ ap (λ l. seen ++ l) none ∙ append-nil seen)

pub one_read : {A : Type 0} (xs seen ys more new : List A) (y x : A) → xs ≡ seen ++ ys → ys ≡ y ∷ more → x ≡ y → new ≡ seen ++ x ∷ [] → xs ≡ new ++ more
one_read xs seen ys more new y x e s same n =
    e ∙ ap (λ l. seen ++ l) s ∙ ap (λ z. seen ++ z ∷ more) (sym same) ∙ sym (append_assoc seen (x ∷ []) more) ∙ ap (λ l. l ++ more) (sym n)

-- ---- strings of local parts

lower_ascii : (b : ℕ) → is_lower b ≡ true → b < 128
lower_ascii b h = grind (arith, nat_tests)

all_ascii : (t : List ℕ) → list_all is_lower t ≡ true → AllByRecursion (λ b. b < 128) t
all_ascii [] h = tt
all_ascii (b ∷ t) h = (lower_ascii b (both_first (is_lower b) (list_all is_lower t) h), all_ascii t (both_second (is_lower b) (list_all is_lower t) h))

pub lower_utf8 : (t : List ℕ) → list_all is_lower t ≡ true → IsUtf8 t
lower_utf8 t h = IsUtf8-from_ascii t (IsAscii-from_all t (All-from_recursion (λ b. b < 128) t (all_ascii t h)))

-- the string of a segment is its lower-case letters and digits, after which a 0 follows
pub text_split : (bytes lower after text rest : List ℕ) → bytes ≡ lower ++ after → list_all is_lower lower ≡ true → starts is_lower after ≡ false → SegmentRoundTrips (Text text) → bytes ≡ text ++ 0 ∷ rest
    → (lower ≡ text) × (after ≡ 0 ∷ rest)
text_split bytes lower after text rest joined all ended again e = same_front is_lower lower after text (0 ∷ rest) all ended again.1 refl (sym joined ∙ e)

-- ---- whole sort keys

in_turn : (e f s p d l : List ℕ) → e ++ (f ++ 0 ∷ []) ++ s ++ p ++ d ++ l ≡ e ++ (f ++ 0 ∷ ((s ++ (p ++ d)) ++ l))
in_turn e f s p d l = simp append_assoc

pub key_in_turn : (r : Record) → key_bytes r ≡ rank_bytes (0, r.epoch) ++ (flat_map (number_bytes 1) (trim r.release) ++ 0 ∷ (suffix_bytes r ++ local_bytes r.local))
key_in_turn r = in_turn (number_bytes 0 r.epoch) _ _ _ _ _

pub release_again : (release numbers new : List ℕ) (count : ℕ) → numbers ≡ trim release → count ≡ ending_zeros release → new ≡ numbers ++ replicate count 0 → new ≡ release
release_again release numbers new count e z n = n ∙ (λ i. e i ++ replicate (z i) 0) ∙ sym (trim_pad release)

-- a record that a string parses to is made of its other parts
pub without_sentinels : (r : Record) → IsParsed r → from_parts r.epoch r.release r.pre r.post r.dev r.local ≡ r
without_sentinels r p = λ i. record (from_parts r.epoch r.release r.pre r.post r.dev r.local) { min = sym p.round_trips.no_min i; max = sym p.round_trips.no_max i }
