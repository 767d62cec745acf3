-- A print is read again, and what is read can be.
use Rattle.std.proofs.Common.{◌≡◌, ◌<◌, ◌^◌, ◌==◌, ℕ, suc, zero, Bool, true, false, List, [], ◌∷◌, ◌++◌, refl, sym, ap, arith, length, inl, inr, get_or, codes, subst, eqb-true, map, Option, Some, None, IfSome, nat_lt, lt-ltb}
use Rattle.std.proofs.lemmas.Bool.{cases_Bool}
use Rattle.std.proofs.lemmas.Bool.Decides.{nat_tests}
use Rattle.std.proofs.lemmas.List.{append-nil, length-map}
use Rattle.std.proofs.lemmas.List.Elements.{All-from_get_or}
use Rattle.std.proofs.lemmas.Fmt.{digits_decimal, digits_value-decimal, decimal_nonempty}
use Rattle.std.specs.Char.{is_ascii_digit, is_ascii_alphanumeric, to_ascii_lowercase}
use Rattle.std.specs.Fmt.{decimal}
use Rattle.std.specs.List.{All, list_all}
use Rattle.std.specs.Str.Parse.{digits_value}
use Rattle.pep440_version.specs.declared.prerelease.PrereleaseKind.{PrereleaseKind}
use Rattle.pep440_version.specs.declared.prerelease.PrereleaseKind.TheVariants.{Alpha, Beta, Rc}
use Rattle.pep440_version.specs.declared.prerelease.Prerelease.{Prerelease}
use Rattle.pep440_version.specs.Grammar.{starts, IsNumber, IsRelease, IsEpoch, Spellings, IsSpelling, IsSpelled, IsSeparator, IsCount, pre_spellings, post_spellings, dev_spellings, IsPre, IsPost, IsDev, parse_segment, IsSegment, AreSegments, IsLocal, Derives, is_numeral}
use Rattle.pep440_version.specs.Print.{dotted, epoch_text, prerelease_kind_text, pre_text, labelled, print_segment, local_text, print}
use Rattle.pep440_version.specs.Record.{Record, LocalSegmentValue, Text, Number, Fits, SegmentFits, IsRecord}
use Rattle.pep440_version.specs.RoundTrip.{is_lower, SegmentRoundTrips, RoundTrips}
use Rattle.pep440_version.proofs.Reading.Prefixes.{both_first, both_second}
use Rattle.pep440_version.proofs.Reading.Digits.{digits_model}

pub decimal_number : (n : ℕ) → Fits n → IsNumber (decimal n) n
decimal_number n fits = (decimal_nonempty n fits, digits_decimal digits_model n fits, digits_value-decimal digits_model n fits, fits)

-- each number of a list whose numbers fit, and 0 past its end
pub fits_at : (ns : List ℕ) → All Fits ns → (i : ℕ) → Fits (get_or ns i 0)
fits_at [] h i = omega arith
fits_at (n ∷ ns) h zero = h 0 0 (omega arith)
fits_at (n ∷ ns) h (suc i) = fits_at ns (λ k d lt. h (suc k) d (omega (arith, lt))) i

release_reads : (n : ℕ) (ns : List ℕ) → ((i : ℕ) → Fits (get_or (n ∷ ns) i 0)) → IsRelease (dotted decimal (n ∷ ns)) (n ∷ ns)
release_reads n [] fits = subst (λ t. IsNumber t n) (sym (append-nil (decimal n))) (decimal_number n (fits 0))
release_reads n (m ∷ ns) fits = (decimal n, dotted decimal (m ∷ ns), decimal_number n (fits 0), release_reads m ns (λ i. fits (suc i)), refl)

epoch_reads : (n : ℕ) → Fits n → IsEpoch (epoch_text n) n
epoch_reads n fits = elim (cases_Bool (n == 0)) [
  | inl e ↦ rw e (inl (refl, eqb-true n 0 e))
  | inr e ↦ rw e (inr (decimal n, decimal_number n fits, refl))
]

numbers_read : (ns : List ℕ) → 0 < length ns → ((i : ℕ) → Fits (get_or ns i 0)) → IsRelease (dotted decimal ns) ns
numbers_read [] some fits = absurd (omega (arith, some))
numbers_read (n ∷ ns) some fits = release_reads n ns fits

-- ---- pre, post and dev: a count is always printed, so no separator can stand where one was left out

spelled_reads : {A : Type 0} (table : Spellings A) (before word after : List ℕ) (a : A) (n : ℕ) → Fits n → IsSeparator before → IsSpelling table word a → starts is_ascii_digit after ≡ false
    → IsSpelled table (before ++ (word ++ decimal n)) after a n
spelled_reads table before word after a n fits first spelling stop = record {
  before = before;
  word = word;
  between = [];
  digits = decimal n;
  decomposition = refl;
  first = first;
  spelling = spelling;
  second = inl refl;
  count = inr (decimal_number n fits);
  keeps_separator = λ _ e. absurd (omega (arith, ap length e, decimal_nonempty n fits));
  keeps_digits = stop;
}

kind_reads : (k : PrereleaseKind) → IsSpelling pre_spellings (prerelease_kind_text k) k
kind_reads Alpha = inr (inl (refl, refl))
kind_reads Beta = inr (inr (inr (inl (refl, refl))))
kind_reads Rc = inr (inr (inr (inr (inl (refl, refl)))))

pre_reads : (pre : Option Prerelease) (after : List ℕ) → IfSome pre (λ p. Fits p.number) → starts is_ascii_digit after ≡ false → IsPre (pre_text pre) after pre
pre_reads None after fits stop = refl
pre_reads (Some p) after fits stop = spelled_reads pre_spellings [] (prerelease_kind_text p.kind) after p.kind p.number fits (inl refl) (kind_reads p.kind) stop

post_reads : (post : Option ℕ) (after : List ℕ) → IfSome post Fits → starts is_ascii_digit after ≡ false → IsPost (labelled (codes ".post") post) after post
post_reads None after fits stop = refl
post_reads (Some n) after fits stop = inr (spelled_reads post_spellings (codes ".") (codes "post") after tt n fits (inr (46, refl, refl)) (inl (refl, refl)) stop)

dev_reads : (dev : Option ℕ) (after : List ℕ) → IfSome dev Fits → starts is_ascii_digit after ≡ false → IsDev (labelled (codes ".dev") dev) after dev
dev_reads None after fits stop = refl
dev_reads (Some n) after fits stop = spelled_reads dev_spellings (codes ".") (codes "dev") after tt n fits (inr (46, refl, refl)) (inl (refl, refl)) stop

-- no digit begins what follows
local_stops : (local : List LocalSegmentValue) → starts is_ascii_digit (local_text local ++ []) ≡ false
local_stops [] = refl
local_stops (s ∷ rest) = refl

labelled_stops : (label : List ℕ) (n : Option ℕ) (after : List ℕ) → starts is_ascii_digit after ≡ false → starts is_ascii_digit (labelled (46 ∷ label) n ++ after) ≡ false
labelled_stops label None after stop = stop
labelled_stops label (Some n) after stop = refl

-- ---- local

digit_alphanumeric : (b : ℕ) → is_ascii_digit b ≡ true → is_ascii_alphanumeric b ≡ true
digit_alphanumeric b h = grind (arith, nat_tests)

lower_alphanumeric : (b : ℕ) → is_lower b ≡ true → is_ascii_alphanumeric b ≡ true
lower_alphanumeric b h = grind (arith, nat_tests)

lower_kept : (b : ℕ) → is_lower b ≡ true → to_ascii_lowercase b ≡ b
lower_kept b h = grind (arith, nat_tests)

alphanumeric_lower : (b : ℕ) → is_ascii_alphanumeric b ≡ true → is_lower (to_ascii_lowercase b) ≡ true
alphanumeric_lower b h = grind (arith, nat_tests)

digit_kept : (b : ℕ) → is_ascii_digit (to_ascii_lowercase b) ≡ is_ascii_digit b
digit_kept b = grind (arith, nat_tests)

digit_lower : (b : ℕ) → is_ascii_digit b ≡ true → is_lower b ≡ true
digit_lower b h = grind (arith, nat_tests)

all_pass : (p q : ℕ → Bool) → ((b : ℕ) → p b ≡ true → q b ≡ true) → (t : List ℕ) → list_all p t ≡ true → list_all q t ≡ true
all_pass p q f [] h = refl
all_pass p q f (b ∷ t) h = rw (f b (both_first _ _ h), all_pass p q f t (both_second (p b) _ h)) refl

all_kept : (t : List ℕ) → list_all is_lower t ≡ true → map to_ascii_lowercase t ≡ t
all_kept [] h = refl
all_kept (b ∷ t) h =
    let one = lower_kept b (both_first (is_lower b) _ h) in
    let more = all_kept t (both_second (is_lower b) _ h) in
    λ i. one i ∷ more i

all_lowered : (t : List ℕ) → list_all is_ascii_alphanumeric t ≡ true → list_all is_lower (map to_ascii_lowercase t) ≡ true
all_lowered [] h = refl
all_lowered (b ∷ t) h = rw (alphanumeric_lower b (both_first _ _ h), all_lowered t (both_second (is_ascii_alphanumeric b) _ h)) refl

digits_kept : (t : List ℕ) → list_all is_ascii_digit (map to_ascii_lowercase t) ≡ list_all is_ascii_digit t
digits_kept [] = refl
digits_kept (b ∷ t) = rw (digit_kept b, digits_kept t) refl

pub segment_reads : (s : LocalSegmentValue) → SegmentFits s → SegmentRoundTrips s → IsSegment (print_segment s) s
segment_reads (Number n) fits h =
    let digits : list_all is_ascii_digit (decimal n) ≡ true = digits_decimal digits_model n fits in (
      decimal_nonempty n fits,
      all_pass is_ascii_digit is_ascii_alphanumeric digit_alphanumeric (decimal n) digits,
      rw (digits, digits_value-decimal digits_model n fits, lt-ltb n (2 ^ 64) fits) refl,
    )
segment_reads (Text t) fits h = (h.0, all_pass is_lower is_ascii_alphanumeric lower_alphanumeric t h.1, rw (h.2, all_kept t h.1) refl)

segments_read : (s : LocalSegmentValue) (rest : List LocalSegmentValue) → All SegmentFits (s ∷ rest) → All SegmentRoundTrips (s ∷ rest) → AreSegments (dotted print_segment (s ∷ rest)) (s ∷ rest)
segments_read s [] fits h = subst (λ t. IsSegment t s) (sym (append-nil (print_segment s))) (segment_reads s (fits 0 s (omega arith)) (h 0 s (omega arith)))
segments_read s (t ∷ rest) fits h = (
  print_segment s,
  dotted print_segment (t ∷ rest),
  46,
  segment_reads s (fits 0 s (omega arith)) (h 0 s (omega arith)),
  refl,
  segments_read t rest (λ k d lt. fits (suc k) d (omega (arith, lt))) (λ k d lt. h (suc k) d (omega (arith, lt))),
  refl,
)

local_reads : (local : List LocalSegmentValue) → All SegmentFits local → All SegmentRoundTrips local → IsLocal (local_text local) local
local_reads [] fits h = refl
local_reads (s ∷ rest) fits h = (dotted print_segment (s ∷ rest), segments_read s rest fits h, refl)

pub reread : (r : Record) → IsRecord r → RoundTrips r → Derives (print r) r
reread r h again =
    let l : List ℕ = local_text r.local ++ [] in
    let d : List ℕ = labelled (codes ".dev") r.dev in
    let q : List ℕ = labelled (codes ".post") r.post in
    let stop_dev = local_stops r.local in
    let stop_post : starts is_ascii_digit (d ++ l) ≡ false = labelled_stops (codes "dev") r.dev l stop_dev in
    let stop_pre : starts is_ascii_digit (q ++ (d ++ l)) ≡ false = labelled_stops (codes "post") r.post (d ++ l) stop_post in
    record {
      w1 = [];
      v = [];
      e = epoch_text r.epoch;
      n = dotted decimal r.release;
      p = pre_text r.pre;
      q = q;
      d = d;
      l = local_text r.local;
      w2 = [];
      decomposition = ap (λ t. epoch_text r.epoch ++ (dotted decimal r.release ++ (pre_text r.pre ++ (q ++ (d ++ t))))) (sym (append-nil (local_text r.local)));
      blanks = refl;
      letter = inl refl;
      epoch = epoch_reads r.epoch h.epoch;
      release = numbers_read r.release h.some (fits_at r.release h.release);
      pre = pre_reads r.pre (q ++ (d ++ l)) h.pre stop_pre;
      post = post_reads r.post (d ++ l) h.post stop_post;
      dev = dev_reads r.dev l h.dev stop_dev;
      local = local_reads r.local h.local again.local;
      end = refl;
      no_min = again.no_min;
      no_max = again.no_max;
    }

-- ---- what is read

read_text : (t : List ℕ) → 0 < length t → list_all is_ascii_alphanumeric t ≡ true → is_numeral t ≡ false → SegmentRoundTrips (Text (map to_ascii_lowercase t))
read_text t some all none = (subst (λ n. 0 < n) (sym (length-map t to_ascii_lowercase)) some, all_lowered t all, numeral)
  where
    numeral : is_numeral (map to_ascii_lowercase t) ≡ false
    numeral = elim (cases_Bool (list_all is_ascii_digit t)) [
      | inl e ↦ rw (all_kept t (all_pass is_ascii_digit is_lower digit_lower t e)) none
      | inr e ↦ rw (digits_kept t, e) refl
    ]

of_text : (t : List ℕ) → 0 < length t → list_all is_ascii_alphanumeric t ≡ true → SegmentFits (parse_segment t) × SegmentRoundTrips (parse_segment t)
of_text t some all = elim (cases_Bool (is_numeral t)) [
  | inl e ↦ rw e (ltb_fits t (both_second (list_all is_ascii_digit t) _ e), tt)
  | inr e ↦ rw e (tt, read_text t some all e)
]
  where
    ltb_fits : (t : List ℕ) → nat_lt (digits_value 10 t) (2 ^ 64) ≡ true → Fits (digits_value 10 t)
    ltb_fits t e = grind (arith, nat_tests)

segment_is : (text : List ℕ) (s : LocalSegmentValue) → IsSegment text s → SegmentFits s × SegmentRoundTrips s
segment_is text s h = subst (λ x. SegmentFits x × SegmentRoundTrips x) (sym h.2) (of_text text h.0 h.1)

-- what holds of the first and of the others holds of all
all_more : {A : Type 0} (P : A → Type 0) (x : A) (xs : List A) → P x → All P xs → All P (x ∷ xs)
all_more P x xs one more zero d lt = one
all_more P x xs one more (suc k) d lt = more k d (omega (arith, lt))

pub none_all : {A : Type 0} (P : A → Type 0) → All P []
none_all P k d lt = absurd (omega (arith, lt))

segments_are : (text : List ℕ) (local : List LocalSegmentValue) → AreSegments text local → All SegmentFits local × All SegmentRoundTrips local
segments_are text [] h = elim h [ ]
segments_are text (s ∷ []) h =
    let one = segment_is text s h in
    (all_more SegmentFits s [] one.0 (none_all SegmentFits), all_more SegmentRoundTrips s [] one.1 (none_all SegmentRoundTrips))
segments_are text (s ∷ t ∷ rest) (first, after, b, h, sep, more, decomposition) =
    let one = segment_is first s h in
    let others = segments_are after (t ∷ rest) more in
    (all_more SegmentFits s (t ∷ rest) one.0 others.0, all_more SegmentRoundTrips s (t ∷ rest) one.1 others.1)

pub local_is : (part : List ℕ) (local : List LocalSegmentValue) → IsLocal part local → All SegmentFits local × All SegmentRoundTrips local
local_is part [] h = (none_all SegmentFits, none_all SegmentRoundTrips)
local_is part (s ∷ rest) (text, h, decomposition) = segments_are text (s ∷ rest) h

number_fits : (digits : List ℕ) (n : ℕ) → IsNumber digits n → Fits n
number_fits digits n h = h.3

count_fits : (digits : List ℕ) (n : ℕ) → IsCount digits n → Fits n
count_fits digits n (inl h) = subst Fits (sym h.1) (omega arith)
count_fits digits n (inr h) = number_fits digits n h

epoch_fits : (text : List ℕ) (n : ℕ) → IsEpoch text n → Fits n
epoch_fits text n (inl h) = subst Fits (sym h.1) (omega arith)
epoch_fits text n (inr h) = number_fits h.0 n h.1

release_some : (text ns : List ℕ) → IsRelease text ns → 0 < length ns
release_some text [] h = elim h [ ]
release_some text (n ∷ ns) h = omega arith

release_fits : (text ns : List ℕ) → IsRelease text ns → (i : ℕ) → Fits (get_or ns i 0)
release_fits text [] h i = elim h [ ]
release_fits text (n ∷ []) h zero = number_fits text n h
release_fits text (n ∷ []) h (suc i) = omega arith
release_fits text (n ∷ m ∷ rest) (digits, after, h, more, decomposition) zero = number_fits digits n h
release_fits text (n ∷ m ∷ rest) (digits, after, h, more, decomposition) (suc i) = release_fits after (m ∷ rest) more i

pre_fits : (part after : List ℕ) (pre : Option Prerelease) → IsPre part after pre → IfSome pre (λ p. Fits p.number)
pre_fits part after None h = tt
pre_fits part after (Some p) h = count_fits h.digits p.number h.count

post_fits : (part after : List ℕ) (post : Option ℕ) → IsPost part after post → IfSome post Fits
post_fits part after None h = tt
post_fits part after (Some n) (inl h) = number_fits h.0 n h.1
post_fits part after (Some n) (inr h) = count_fits h.digits n h.count

dev_fits : (part after : List ℕ) (dev : Option ℕ) → IsDev part after dev → IfSome dev Fits
dev_fits part after None h = tt
dev_fits part after (Some n) h = count_fits h.digits n h.count

pub derived_record : (text : List ℕ) (r : Record) → Derives text r → IsRecord r
derived_record text r h = record {
  epoch = epoch_fits h.e r.epoch h.epoch;
  some = release_some h.n r.release h.release;
  release = All-from_get_or Fits r.release 0 (λ i lt. release_fits h.n r.release h.release i);
  pre = pre_fits h.p _ r.pre h.pre;
  post = post_fits h.q _ r.post h.post;
  dev = dev_fits h.d _ r.dev h.dev;
  local = (local_is h.l r.local h.local).0;
  min = rw h.no_min tt;
  max = rw h.no_max tt;
}

pub derived_rereads : (text : List ℕ) (r : Record) → Derives text r → RoundTrips r
derived_rereads text r h = record { no_min = h.no_min; no_max = h.no_max; local = (local_is h.l r.local h.local).1 }

-- a record that some text means is meant by its print
pub derived_again : (text : List ℕ) (r : Record) → Derives text r → Derives (print r) r
derived_again text r h = reread r (derived_record text r h) (derived_rereads text r h)
