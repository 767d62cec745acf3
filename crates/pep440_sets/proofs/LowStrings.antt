-- One more local segment, zeros and a letter, is below what is above the local part.
use Rattle.std.proofs.Common.{◌≡◌, ◌∙◌, ◌&&◌, ◌<◌, ◌≤◌, ◌^◌, ℕ, zero, suc, refl, sym, ap, arith, true, false, List, [], ◌∷◌, ◌++◌, inl, inr, length}
use Rattle.std.proofs.lemmas.Bool.{cases_eq, true≢false}
use Rattle.std.proofs.lemmas.Bool.Decides.{nat_tests}
use Rattle.std.proofs.lemmas.Cmp.{tied_itself}
use Rattle.std.proofs.lemmas.List.Elements.{All-append, All-from_recursion}
use Rattle.std.specs.Char.{is_ascii_digit}
use Rattle.std.specs.Cmp.{first_so, second_so}
use Rattle.std.specs.Cmp.Lexicographic.{slice_cmp}
use Rattle.std.specs.List.{AllByRecursion, list_all}
use Rattle.std.specs.Ordering.{nat_cmp, ordering_then}
use Rattle.std.specs.Prelude.{nat_lt, replicate}
use Rattle.std.specs.Str.Parse.{digits_value}
use Rattle.std.specs.declared.cmp.Ordering.{Ordering}
use Rattle.std.specs.declared.cmp.Ordering.TheVariants.{Less, Equal, Greater}
use Rattle.pep440_version.proofs.Words.Blocks.{is_below as nat_below, is_same}
use Rattle.pep440_version.specs.Grammar.{is_numeral}
use Rattle.pep440_version.specs.Key.{local_cmp, segment_cmp}
use Rattle.pep440_version.specs.Key.KeyLaws.{segment_total}
use Rattle.pep440_version.specs.Record.{LocalSegmentValue, Number, Record, SegmentFits, Text}
use Rattle.pep440_version.specs.RoundTrip.{IsParsed, SegmentRoundTrips, is_lower}
use Rattle.pep440_sets.specs.Witnesses.{low_string, string_after, with_low_segment}

-- ---- strings

zeros_digits : (k : ℕ) → (digits_value 10 (replicate k 48) ≡ 0) × (list_all is_ascii_digit (replicate k 48) ≡ true)
zeros_digits zero = (refl, refl)
zeros_digits (suc k) = zeros_digits k

above_zero : (b : ℕ) → is_lower b ≡ true → (b ≡ 48 → ⊥) → 48 < b
above_zero b h other = grind (arith, nat_tests, h, other)

low_lower : (k : ℕ) → list_all is_lower (low_string k) ≡ true
low_lower zero = refl
low_lower (suc k) = low_lower k

low_no_numeral : (k : ℕ) → list_all is_ascii_digit (low_string k) ≡ false
low_no_numeral zero = refl
low_no_numeral (suc k) = low_no_numeral k

low_some : (k : ℕ) → 0 < length (low_string k)
low_some zero = omega arith
low_some (suc k) = omega arith

-- a string is zeros alone, or the low string is below it
data Beside (k : ℕ) (t : List ℕ) : Type 0 where
  zeros : (n : ℕ) → t ≡ replicate n 48 → Beside k t
  above : slice_cmp nat_cmp (low_string k) t ≡ Less → Beside k t

beside : (k : ℕ) (t : List ℕ) → length t ≤ k → list_all is_lower t ≡ true → Beside k t
beside k [] le h = zeros 0 refl
beside zero (b ∷ t) le h = absurd (omega arith)
beside (suc k) (b ∷ t) le h =
    elim (cases_eq b 48) [
      | inl e ↦ more e (beside k t (omega arith) (second_so (is_lower b) (list_all is_lower t) h))
      | inr other ↦ above (ap (λ o. ordering_then o (slice_cmp nat_cmp (low_string k) t)) (nat_below 48 b (above_zero b (first_so (is_lower b) (list_all is_lower t) h) other)))
    ]
  where
    more : b ≡ 48 → Beside k t → Beside (suc k) (b ∷ t)
    more e (zeros n z) = zeros (suc n) (λ i. e i ∷ z i)
    more e (above l) = above (ap (λ o. ordering_then o (slice_cmp nat_cmp (low_string k) t)) (is_same 48 b (sym e)) ∙ l)

low_below : (k : ℕ) (t : List ℕ) → length t ≤ k → SegmentRoundTrips (Text t) → slice_cmp nat_cmp (low_string k) t ≡ Less
low_below k t le h = by (beside k t le h.1)
  where
    by : Beside k t → slice_cmp nat_cmp (low_string k) t ≡ Less
    by (above l) = l
    by (zeros n z) =
        let digits = zeros_digits n in
        let numeral : is_numeral t ≡ true = ap is_numeral z ∙ (λ i. digits.1 i && nat_lt (digits.0 i) (2 ^ 64)) in
        absurd (true≢false (sym numeral ∙ h.2))

-- ---- local parts

pub longer_above : (l : List LocalSegmentValue) (s : LocalSegmentValue) → local_cmp l (l ++ s ∷ []) ≡ Less
longer_above [] s = refl
longer_above (x ∷ l) s = ap (λ o. ordering_then o (local_cmp l (l ++ s ∷ []))) (tied_itself segment_total x) ∙ longer_above l s

pub then_less : (o x y : Ordering) → ordering_then o x ≡ Less → (x ≡ Less → y ≡ Less) → ordering_then o y ≡ Less
then_less Less x y h f = refl
then_less Equal x y h f = f h
then_less Greater x y h f = absurd (cc)

low_first : (x : LocalSegmentValue) (l : List LocalSegmentValue) (o : Ordering) → SegmentRoundTrips x → ordering_then (segment_cmp (Text (low_string (string_after [] (x ∷ l)))) x) o ≡ Less
low_first (Text t) l o h = ap (λ c. ordering_then c o) (low_below (length t) t (omega arith) h)
low_first (Number n) l o h = refl

pub low_local : (l m : List LocalSegmentValue) → AllByRecursion SegmentRoundTrips m → local_cmp l m ≡ Less → local_cmp (l ++ Text (low_string (string_after l m)) ∷ []) m ≡ Less
low_local [] [] a h = absurd (cc)
low_local [] (x ∷ m) a h = low_first x m (slice_cmp segment_cmp [] m) a.0
low_local (y ∷ l) [] a h = absurd (cc)
low_local (y ∷ l) (x ∷ m) a h = then_less (segment_cmp y x) (local_cmp l m) (local_cmp (l ++ Text (low_string (string_after l m)) ∷ []) m) h (low_local l m a.1)

-- ---- the version

one_fits : (k : ℕ) → AllByRecursion SegmentFits (Text (low_string k) ∷ [])
one_fits k = (tt, tt)

one_rereads : (k : ℕ) → AllByRecursion SegmentRoundTrips (Text (low_string k) ∷ [])
one_rereads k = ((low_some k, low_lower k, ap (λ b. b && nat_lt (digits_value 10 (low_string k)) (2 ^ 64)) (low_no_numeral k)), tt)

pub low_parsed : (v : Record) (k : ℕ) → IsParsed v → IsParsed (with_low_segment v k)
low_parsed v k p = record {
  valid = record {
    epoch = p.valid.epoch;
    some = p.valid.some;
    release = p.valid.release;
    pre = p.valid.pre;
    post = p.valid.post;
    dev = p.valid.dev;
    local = All-append SegmentFits v.local (Text (low_string k) ∷ []) p.valid.local (All-from_recursion SegmentFits (Text (low_string k) ∷ []) (one_fits k));
    min = p.valid.min;
    max = p.valid.max;
  };
  round_trips = record {
    no_min = p.round_trips.no_min;
    no_max = p.round_trips.no_max;
    local = All-append SegmentRoundTrips v.local (Text (low_string k) ∷ []) p.round_trips.local (All-from_recursion SegmentRoundTrips (Text (low_string k) ∷ []) (one_rereads k));
  };
}
