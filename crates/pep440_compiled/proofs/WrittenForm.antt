-- A compiled form that is written part by part.
use Rattle.std.proofs.Common.{◌≡◌, ◌∙◌, ◌<◌, ℕ, List, [], ◌∷◌, ◌++◌, Option, None, Some, true, false, ap, inr, refl, sym, subst, append_assoc, arith, true≢false, ◌≤◌, ◌+◌, suc, codes, drop, get_or, length, take, ◌^◌, IfSome, is_none, ◌||◌, ◌==◌, inl}
use Rattle.std.proofs.lemmas.Bool.{cases_Bool, lt-ltb, ltb-true}
use Rattle.std.proofs.lemmas.Grind.{flat_map-append}
use Rattle.std.proofs.lemmas.List.{append-nil, length-append, length-replicate, take-append-drop}
use Rattle.std.specs.Char.{is_ascii_alphanumeric, is_ascii_digit, is_ascii_lowercase}
use Rattle.std.specs.Fmt.{decimal}
use Rattle.std.specs.List.{flat_map, list_all, All}
use Rattle.std.specs.Prelude.{replicate}
use Rattle.std.specs.Str.Parse.{digits_value}
use Rattle.pep440_rs.proofs.Reread.Plain.{all_weaker}
use Rattle.pep440_version.specs.Rejections.{Rejection, Rejects}
use Rattle.pep440_keys.specs.SortKeys.{local_bytes, number_bytes, rank_bytes, segment_bytes}
use Rattle.pep440_version.proofs.Reading.LocalAgrees.{segments_cons}
use Rattle.pep440_version.proofs.RoundTrip.PrintIsRead.{decimal_number, segment_reads}
use Rattle.pep440_version.proofs.Reading.NormalParts.{Digits, release_more}
use Rattle.pep440_version.specs.Normal.{HasSuffix, spelling}
use Rattle.pep440_version.specs.Grammar.{AreSegments, Derives, IsNumber, IsPre, IsRelease, IsSegment, IsSeparator, IsSpelling, is_numeral, pre_spellings, starts}
use Rattle.pep440_version.specs.Key.{dev_of, dev_rank, post_of, post_rank, stage_of, stage_rank}
use Rattle.pep440_version.specs.Key.Trim.{trim}
use Rattle.pep440_version.specs.Record.{Fits, LocalSegmentValue, Record, SegmentFits, Text, Number, from_parts}
use Rattle.pep440_version.specs.RoundTrip.{is_lower, SegmentRoundTrips}
use Rattle.pep440_compiled.proofs.Checking.{ones}
use Rattle.pep440_compiled.proofs.Fronts.{parsed}
use Rattle.pep440_compiled.proofs.PrintedParts.{untrimmed}
use Rattle.pep440_compiled.proofs.Fronts as release
use Rattle.pep440_compiled.specs.KeyParts.{ending_zeros}
use Rattle.pep440_compiled.specs.Strings.{HasNoNumeral, IsPrinted}
use Rattle.pep440_compiled.specs.Version.{DenotesVersion, compiled_bytes, zero_bytes}
use Rattle.pep440_version.proofs.Reading.Prefixes.{both_first, both_second, same_front}
use Rattle.pep440_version.specs.Print.{dotted, local_text, print_segment}
use Rattle.pep440_version.specs.declared.prerelease.Prerelease.{Prerelease}
use Rattle.pep440_version.specs.declared.prerelease.PrereleaseKind.{PrereleaseKind}

-- a segment that is a number
pub number_segment : (digits : List ℕ) (n : ℕ) → IsNumber digits n → IsSegment digits (Number n)
number_segment digits n is = (is.0, all_weaker is_ascii_digit is_ascii_alphanumeric digit_alphanumeric digits is.1, rw (is.1, is.2, lt-ltb n (2 ^ 64) is.3) refl)
  where
    digit_alphanumeric : (b : ℕ) → is_ascii_digit b ≡ true → is_ascii_alphanumeric b ≡ true
    digit_alphanumeric b is = rw is refl

-- a leading segment that is no number is a string
pub string_segment : (text segment rest : List ℕ) → HasNoNumeral text → text ≡ segment ++ rest → 0 < length segment → list_all is_lower segment ≡ true → starts is_lower rest ≡ false → IsSegment segment (Text segment)
string_segment text segment rest none split some lower ended = segment_reads (Text segment) tt (
  some,
  lower,
  elim (cases_Bool (is_numeral segment)) [
    | inl e ↦
        let all = both_first (list_all is_ascii_digit segment) _ e in
        let fits = ltb-true _ _ (both_second (list_all is_ascii_digit segment) _ e) in
        absurd (none segment rest (digits_value 10 segment) (some, all, refl, fits) ended split)
    | inr e ↦ e
  ],
)

-- a string is rejected, if its error is not 'out of memory'
pub rejected : (bytes text : List ℕ) (o : Option Rejection) → text ≡ bytes → is_none o ≡ false → IfSome o (Rejects text) → (f : Rejection) × Rejects bytes f
rejected bytes text None same some why = absurd (true≢false some)
rejected bytes text (Some f) same some why = (f, subst (λ t. Rejects t f) same why)

pub string_written : (old text : List ℕ) → ((old ++ 1 ∷ []) ++ text) ++ 0 ∷ [] ≡ old ++ segment_bytes (Text text)
string_written old text = simp append_assoc

-- the segments before the rest are written
pub record AreWritten (text rest old form : List ℕ) : Type 0 where
  pub seen : List LocalSegmentValue
  pub whole : (later : List LocalSegmentValue) → AreSegments rest later → AreSegments text (seen ++ later)
  pub written : form ≡ old ++ flat_map segment_bytes seen

one_written : (old form new : List ℕ) (seen : List LocalSegmentValue) (s : LocalSegmentValue) → form ≡ old ++ flat_map segment_bytes seen → new ≡ form ++ segment_bytes s → new ≡ old ++ flat_map segment_bytes (seen ++ s ∷ [])
one_written old form new seen s before next =
    next ∙ ap (λ l. l ++ segment_bytes s) before ∙ append_assoc old (flat_map segment_bytes seen) (segment_bytes s)
    ∙ ap (λ l. old ++ (flat_map segment_bytes seen ++ l)) (sym (append-nil (segment_bytes s)))
    ∙ ap (λ l. old ++ l) (sym (flat_map-append segment_bytes seen (s ∷ [])))

pub segment_more : (text rest old form new first later : List ℕ) (s : LocalSegmentValue) → AreWritten text rest old form → rest ≡ first ++ 46 ∷ later → IsSegment first s → new ≡ form ++ segment_bytes s → AreWritten text later old new
segment_more text rest old form new first later s before joined is next = record {
  seen = before.seen ++ s ∷ [];
  whole = λ more h.
      subst (AreSegments text) (sym (append_assoc before.seen (s ∷ []) more))
      (before.whole (s ∷ more) (subst (λ t. AreSegments t (s ∷ more)) (sym joined) (segments_cons first later 46 s more is refl h)));
  written = one_written old form new before.seen s before.written next;
}

pub last_segment : (text rest old form new first : List ℕ) (s : LocalSegmentValue) → AreWritten text rest old form → rest ≡ first → IsSegment first s → new ≡ form ++ segment_bytes s → (segments : List LocalSegmentValue) × AreSegments text segments × (new ≡ old ++ flat_map segment_bytes segments)
last_segment text rest old form new first s before joined is next =
    (before.seen ++ s ∷ [], before.whole (s ∷ []) (subst (λ t. IsSegment t s) (sym joined) is), one_written old form new before.seen s before.written next)

pub some_bytes : (bytes : List ℕ) → (length bytes == 0) ≡ false → 0 < length bytes
some_bytes [] none = absurd (true≢false none)
some_bytes (b ∷ bytes) none = omega arith

-- what follows the same bytes is the same
pub same_after : (front a b : List ℕ) → front ++ a ≡ front ++ b → a ≡ b
same_after [] a b e = e
same_after (x ∷ front) a b e = same_after front a b (ap (drop 1) e)

-- ---- a segment, by its string

pub no_digit : (text : List ℕ) → starts is_lower text ≡ false → starts is_ascii_digit text ≡ false
no_digit [] none = refl
no_digit (b ∷ rest) none = elim (cases_Bool (is_ascii_digit b)) [
  | inl e ↦ absurd (true≢false (sym (ap (λ d. d || is_ascii_lowercase b) e) ∙ none))
  | inr e ↦ e
]

digits_lower : (digits : List ℕ) → list_all is_ascii_digit digits ≡ true → list_all is_lower digits ≡ true
digits_lower digits all = all_weaker is_ascii_digit is_lower (λ b is. rw is refl) digits all

-- where a number is the leading segment, the printed segment is that number
pub numeral_is : (text rest : List ℕ) (n : ℕ) → ((digits : List ℕ) × IsNumber digits n × (text ≡ digits ++ rest)) → starts is_lower rest ≡ false
    → (s : LocalSegmentValue) (later : List ℕ) → IsPrinted text s later → (s ≡ Number n) × (rest ≡ later)
numeral_is text rest n (digits, number, split) ended (Number m) later printed =
    let other = decimal_number m printed.valid in
    let same = same_front is_lower (decimal m) later digits rest (digits_lower (decimal m) other.1) printed.ended (digits_lower digits number.1) ended (sym printed.is ∙ split) in
    (ap Number (sym other.2 ∙ ap (digits_value 10) same.0 ∙ number.2), sym same.1)
numeral_is text rest n (digits, number, split) ended (Text t) later printed =
    let same = same_front is_lower t later digits rest printed.round_trips.1 printed.ended (digits_lower digits number.1) ended (sym printed.is ∙ split) in
    let numeral : is_numeral digits ≡ true = rw (number.1, number.2, lt-ltb n (2 ^ 64) number.3) refl in
    absurd (true≢false (sym numeral ∙ sym (ap is_numeral same.0) ∙ printed.round_trips.2))

-- and where none is, it is the string
pub string_is : (text segment rest : List ℕ) → HasNoNumeral text → text ≡ segment ++ rest → list_all is_lower segment ≡ true → starts is_lower rest ≡ false
    → (s : LocalSegmentValue) (later : List ℕ) → IsPrinted text s later → (s ≡ Text segment) × (rest ≡ later)
string_is text segment rest none split lower ended (Number m) later printed = absurd (none (decimal m) later m (decimal_number m printed.valid) printed.ended printed.is)
string_is text segment rest none split lower ended (Text t) later printed =
    let same = same_front is_lower t later segment rest printed.round_trips.1 printed.ended lower ended (sym printed.is ∙ split) in
    (ap Text same.0, sym same.1)

-- ---- the segments after those that are written

-- the rest is of segments with which the form becomes the whole
pub record AreLeft (rest form whole : List ℕ) : Type 0 where
  pub left : List LocalSegmentValue
  pub some : 0 < length left
  pub fit : All SegmentFits left
  pub again : All SegmentRoundTrips left
  pub is : rest ≡ dotted print_segment left
  pub bytes : form ++ flat_map segment_bytes left ≡ whole

pub all_left : (text old : List ℕ) (segments : List LocalSegmentValue) → 0 < length segments → All SegmentFits segments → All SegmentRoundTrips segments → text ≡ dotted print_segment segments
    → AreLeft text old (old ++ flat_map segment_bytes segments)
all_left text old segments some fit again is = record { left = segments; some = some; fit = fit; again = again; is = is; bytes = refl }

pub whole_fits : (old : List ℕ) (segments : List LocalSegmentValue) → length old + length (flat_map segment_bytes segments) ≤ 64 → length (old ++ flat_map segment_bytes segments) ≤ 64
whole_fits old segments fits = omega (arith, fits, length-append old (flat_map segment_bytes segments))

-- segments, each after a dot
abbrev pub dotted_more : List LocalSegmentValue → List ℕ
dotted_more others = flat_map (λ y. codes "." ++ print_segment y) others

-- ---- one of them is written

-- what follows it are the others
pub record AreAfter (after form whole : List ℕ) : Type 0 where
  pub others : List LocalSegmentValue
  pub fit : All SegmentFits others
  pub again : All SegmentRoundTrips others
  pub is : after ≡ dotted_more others
  pub bytes : form ++ flat_map segment_bytes others ≡ whole

-- the first segment that is left, and the others
pub record FirstLeft (rest form whole : List ℕ) : Type 0 where
  pub first : LocalSegmentValue
  pub others : List LocalSegmentValue
  pub printed : IsPrinted rest first (dotted_more others)
  pub fits : length form + length (segment_bytes first) ≤ 64
  pub after : (later new : List ℕ) → later ≡ dotted_more others → new ≡ form ++ segment_bytes first → AreAfter later new whole

no_lower : (others : List LocalSegmentValue) → starts is_lower (dotted_more others) ≡ false
no_lower [] = refl
no_lower (s ∷ others) = refl

pub first_left : {rest form whole : List ℕ} → AreLeft rest form whole → length whole ≤ 64 → FirstLeft rest form whole
first_left {rest} {form} {whole} h small = by h.left h.some h.fit h.again h.is h.bytes
  where
    by : (left : List LocalSegmentValue) → 0 < length left → All SegmentFits left → All SegmentRoundTrips left → rest ≡ dotted print_segment left → form ++ flat_map segment_bytes left ≡ whole → FirstLeft rest form whole
    by [] some fit again is bytes = absurd (omega (arith, some))
    by (s ∷ others) some fit again is bytes =
        let more = flat_map segment_bytes others in
        record {
          first = s;
          others = others;
          printed = record { valid = fit 0 s (omega arith); round_trips = again 0 s (omega arith); ended = no_lower others; is = is };
          fits = omega (arith, small, ap length bytes, length-append form (segment_bytes s ++ more), length-append (segment_bytes s) more);
          after = λ later new rest_is new_is. record {
            others = others;
            fit = λ k d lt. fit (suc k) d (omega (arith, lt));
            again = λ k d lt. again (suc k) d (omega (arith, lt));
            is = rest_is;
            bytes = ap (λ l. l ++ more) new_is ∙ append_assoc form (segment_bytes s) more ∙ bytes;
          };
        }

last_of : (others : List LocalSegmentValue) (form whole : List ℕ) → dotted_more others ≡ [] → form ++ flat_map segment_bytes others ≡ whole → form ≡ whole
last_of [] form whole none bytes = sym (append-nil form) ∙ bytes
last_of (s ∷ others) form whole none bytes = absurd (omega (arith, ap length none))

-- nothing follows the last one
pub last_written : {after form whole : List ℕ} → AreAfter after form whole → after ≡ [] → form ≡ whole
last_written h none = last_of h.others _ _ (sym h.is ∙ none) h.bytes

dot_of : (others : List LocalSegmentValue) → 0 < length (dotted_more others) → get_or (dotted_more others) 0 0 ≡ 46
dot_of [] some = absurd (omega (arith, some))
dot_of (s ∷ others) some = refl

-- a dot follows the others
pub dot_after : {after form whole : List ℕ} → AreAfter after form whole → 0 < length after → get_or after 0 0 ≡ 46
dot_after h some = ap (λ l. get_or l 0 0) h.is ∙ dot_of h.others (omega (arith, some, ap length h.is))

left_of : (others : List LocalSegmentValue) (later form whole : List ℕ) → All SegmentFits others → All SegmentRoundTrips others
    → dotted_more others ≡ 46 ∷ later → form ++ flat_map segment_bytes others ≡ whole → AreLeft later form whole
left_of [] later form whole fit again dot bytes = absurd (omega (arith, ap length dot))
left_of (s ∷ others) later form whole fit again dot bytes = record { left = s ∷ others; some = omega arith; fit = fit; again = again; is = ap (drop 1) (sym dot); bytes = bytes }

pub left_after : {after later form whole : List ℕ} → AreAfter after form whole → after ≡ 46 ∷ later → AreLeft later form whole
left_after h dot = left_of h.others _ _ _ h.fit h.again (sym h.is ∙ dot) h.bytes

-- ---- a local part

pub no_local : (local : List LocalSegmentValue) → local_text local ≡ [] → flat_map segment_bytes local ≡ []
no_local [] none = refl
no_local (s ∷ others) none = absurd (omega (arith, ap length none))

pub after_plus : (local : List LocalSegmentValue) (first : ℕ) (rest : List ℕ) → local_text local ≡ first ∷ rest → (0 < length local) × (rest ≡ dotted print_segment local)
after_plus [] first rest is = absurd (omega (arith, ap length is))
after_plus (s ∷ others) first rest is = (omega arith, ap (drop 1) (sym is))

-- the segments have capacity, and the byte after them
pub local_fits : (old : List ℕ) (local : List LocalSegmentValue) → length old + length (local_bytes local) ≤ 64 → length old + length (flat_map segment_bytes local) ≤ 64
local_fits old local fits = omega (arith, fits, length-append (flat_map segment_bytes local) (0 ∷ []))

pub end_fits : (form old : List ℕ) (local : List LocalSegmentValue) → form ≡ old ++ flat_map segment_bytes local → length old + length (local_bytes local) ≤ 64 → length form + 1 ≤ 64
end_fits form old local is fits = omega (arith, fits, ap length is, length-append old (flat_map segment_bytes local), length-append (flat_map segment_bytes local) (0 ∷ []))

-- ---- a release alone

-- the numbers before the rest are read
pub record AreNumbers (text rest numbers : List ℕ) : Type 0 where
  pub done : List ℕ
  pub release : IsRelease done numbers
  pub split : text ≡ done ++ rest

pub one_number : (text rest new : List ℕ) (n : ℕ) → ((digits : List ℕ) × IsNumber digits n × (text ≡ digits ++ rest)) → new ≡ n ∷ [] → AreNumbers text rest new
one_number text rest new n h is = record { done = h.0; release = subst (IsRelease h.0) (sym is) h.1; split = h.2 }

pub number_more : (text rest after later numbers new : List ℕ) (n : ℕ) → AreNumbers text rest numbers → rest ≡ 46 ∷ after → ((digits : List ℕ) × IsNumber digits n × (after ≡ digits ++ later))
    → new ≡ numbers ++ n ∷ [] → AreNumbers text later new
number_more text rest after later numbers new n at dot h is = record {
  done = at.done ++ (46 ∷ h.0);
  release = subst (IsRelease (at.done ++ (46 ∷ h.0))) (sym is) (release_more at.done h.0 numbers n at.release h.1);
  split = at.split ∙ ap (λ l. at.done ++ l) (dot ∙ ap (λ l. 46 ∷ l) h.2) ∙ sym (append_assoc at.done (46 ∷ h.0) later);
}

pub number_ended : (text after rest : List ℕ) (i n : ℕ) → Digits text rest i n → Fits n → after ≡ drop i rest → (digits : List ℕ) × IsNumber digits n × (text ≡ digits ++ after)
number_ended text after rest i n d fits end =
    (d.first ∷ take i rest, (omega arith, d.all, d.value, fits), d.whole ∙ ap (λ t. d.first ∷ t) (sym (take-append-drop i rest)) ∙ ap (λ t. d.first ∷ (take i rest ++ t)) (sym end))

-- a pre-release, and what follows it
pub pre_spelled : (text word_on after number_on rest : List ℕ) (kind : PrereleaseKind) (n : ℕ) → (before : List ℕ) × IsSeparator before × (text ≡ before ++ word_on) → (word : List ℕ) × IsSpelling pre_spellings word kind × (word_on ≡ word ++ after)
    → (between : List ℕ) × IsSeparator between × (after ≡ between ++ number_on) → (digits : List ℕ) × IsNumber digits n × (number_on ≡ digits ++ rest) → starts is_ascii_digit rest ≡ false
    → (p : List ℕ) × IsPre p rest (Some (record { kind = kind; number = n })) × (text ≡ p ++ rest)
pre_spelled text word_on after number_on rest kind n before word between digits ended =
    let part : List ℕ = before.0 ++ (word.0 ++ (between.0 ++ digits.0)) in
    let whole : before.0 ++ (word.0 ++ (between.0 ++ (digits.0 ++ rest))) ≡ part ++ rest = simp append_assoc in (
      part,
      record {
        before = before.0;
        word = word.0;
        between = between.0;
        digits = digits.0;
        decomposition = refl;
        first = before.1;
        spelling = word.1;
        second = between.1;
        count = inr digits.1;
        keeps_separator = λ none empty. absurd (omega (arith, digits.1.0, ap length empty));
        keeps_digits = ended;
      },
      before.2 ∙ ap (λ l. before.0 ++ l) (word.2 ∙ ap (λ l. word.0 ++ l) (between.2 ∙ ap (λ l. between.0 ++ l) digits.2)) ∙ whole,
    )

-- a word and the number after it
pub labelled_number : (word text after rest : List ℕ) (class n : ℕ) → word ≡ spelling class → text ≡ word ++ after → (digits : List ℕ) × IsNumber digits n × (after ≡ digits ++ rest) → starts is_ascii_digit rest ≡ false → HasSuffix class text (Some n) rest
labelled_number word text after rest class n is split number ended = (number.0, number.1, ended, split ∙ (λ i. is i ++ number.2 i))

-- ---- and of its bytes

-- a zero more is not written yet
pub zero_pushed : (form old numbers : List ℕ) (before ending number : ℕ) → number ≡ 0 → ending ≡ before + 1 → before ≡ ending_zeros numbers → form ≡ old ++ flat_map (number_bytes 1) (trim numbers)
    → (ending ≡ ending_zeros (numbers ++ number ∷ [])) × (form ≡ old ++ flat_map (number_bytes 1) (trim (numbers ++ number ∷ [])))
zero_pushed form old numbers before ending number none more count is =
    let all : numbers ++ number ∷ [] ≡ numbers ++ 0 ∷ [] = ap (λ n. numbers ++ n ∷ []) none in
    let after = release.zero_more numbers in
    (more ∙ ap (λ n. n + 1) count ∙ sym (ap ending_zeros all ∙ after.1), is ∙ ap (λ l. old ++ flat_map (number_bytes 1) l) (sym (ap trim all ∙ after.0)))

-- another number is written, after the zeros before it
pub number_pushed : (form one two old numbers : List ℕ) (zeros number : ℕ) → (number ≡ 0 → ⊥) → one ≡ form ++ replicate zeros 1 → two ≡ one ++ number_bytes 1 number → zeros ≡ ending_zeros numbers
    → form ≡ old ++ flat_map (number_bytes 1) (trim numbers) → (0 ≡ ending_zeros (numbers ++ number ∷ [])) × (two ≡ old ++ flat_map (number_bytes 1) (trim (numbers ++ number ∷ [])))
number_pushed form one two old numbers zeros number other first second count is =
    let code : List ℕ → List ℕ = flat_map (number_bytes 1) in
    let trimmed : trim (numbers ++ number ∷ []) ≡ numbers ++ number ∷ [] = release.number_more numbers number other in
    let all : code numbers ≡ code (trim numbers) ++ replicate zeros 1 = untrimmed numbers ∙ ap (λ k. code (trim numbers) ++ replicate k 1) (sym count) in (
      sym (release.trimmed_zeros (numbers ++ number ∷ []) trimmed),
      second ∙ ap (λ l. l ++ number_bytes 1 number) (first ∙ ap (λ l. l ++ replicate zeros 1) is ∙ append_assoc old (code (trim numbers)) (replicate zeros 1) ∙ ap (λ l. old ++ l) (sym all))
          ∙ append_assoc old (code numbers) (number_bytes 1 number)
          ∙ ap (λ l. old ++ l) (ap (λ l. code numbers ++ l) (sym (append-nil (number_bytes 1 number))) ∙ sym (flat_map-append (number_bytes 1) numbers (number ∷ [])) ∙ ap code (sym trimmed)),
    )

-- a release takes its bytes, and a byte for each zero that is still to be written
pub release_written : (old new numbers release : List ℕ) (ending : ℕ) → numbers ≡ release → ending ≡ ending_zeros numbers → new ≡ old ++ flat_map (number_bytes 1) (trim numbers)
    → length new + ending ≡ length old + length (flat_map (number_bytes 1) release)
release_written old new numbers release ending same count is =
    let code = flat_map (number_bytes 1) (trim numbers) in
    omega (
      arith,
      count,
      ap length is,
      length-append old code,
      ap length (untrimmed numbers),
      length-append code (replicate (ending_zeros numbers) 1),
      length-replicate {A = ℕ} (ending_zeros numbers) 1,
      ap (λ ns. length (flat_map (number_bytes 1) ns)) same,
    )

pub parts_denoted : (text new : List ℕ) (r : Record) → Derives text r → new ≡ compiled_bytes r → (r : Record) × Derives text r × DenotesVersion new r
parts_denoted text new r d same = (r, d, record { parsed = parsed text r d; same = same })

-- the parts of a form, as they are written
regroup : (old epoch numbers stage post dev local zeros : List ℕ) → (((((old ++ 4 ∷ []) ++ epoch) ++ numbers) ++ 0 ∷ (stage ++ post ++ dev)) ++ local) ++ zeros
    ≡ old ++ (((4 ∷ epoch) ++ (numbers ++ 0 ∷ []) ++ stage ++ post ++ dev ++ local) ++ zeros)
regroup old epoch numbers stage post dev local zeros = simp append_assoc

pub parts_written : (old one two three four five new numbers : List ℕ) (epoch : ℕ) (pre : Option Prerelease) (post dev : Option ℕ) (local : List LocalSegmentValue) (ending : ℕ) → old ≡ []
    → one ≡ old ++ 4 ∷ [] → two ≡ one ++ number_bytes 0 epoch → three ≡ two ++ flat_map (number_bytes 1) (trim numbers)
    → four ≡ three ++ 0 ∷ (rank_bytes (stage_rank (stage_of None pre dev post None)) ++ rank_bytes (post_rank (post_of None post)) ++ rank_bytes (dev_rank (dev_of None dev))) → five ≡ four ++ local_bytes local
    → ending ≡ ending_zeros numbers → new ≡ five ++ replicate ending 1 → new ≡ compiled_bytes (from_parts epoch numbers pre post dev local)
parts_written old one two three four five new numbers epoch pre post dev local ending none format first release suffix after count last =
    let code : List ℕ = flat_map (number_bytes 1) (trim numbers) in
    let ranks : List ℕ = rank_bytes (stage_rank (stage_of None pre dev post None)) ++ rank_bytes (post_rank (post_of None post)) ++ rank_bytes (dev_rank (dev_of None dev)) in
    let zeros : replicate ending 1 ≡ zero_bytes numbers = ap (λ k. replicate k 1) count ∙ sym (ones (drop (length (trim numbers)) numbers)) in
    let five_is : five ≡ ((((old ++ 4 ∷ []) ++ number_bytes 0 epoch) ++ code) ++ 0 ∷ ranks) ++ local_bytes local =
    after ∙ ap (λ l. l ++ local_bytes local) (suffix ∙ ap (λ l. l ++ 0 ∷ ranks) (release ∙ ap (λ l. l ++ code) (first ∙ ap (λ l. l ++ number_bytes 0 epoch) format))) in
    last ∙ (λ i. five_is i ++ zeros i)
    ∙ regroup old (number_bytes 0 epoch) code (rank_bytes (stage_rank (stage_of None pre dev post None))) (rank_bytes (post_rank (post_of None post))) (rank_bytes (dev_rank (dev_of None dev))) (local_bytes local) (zero_bytes numbers)
    ∙ ap (λ l. l ++ compiled_bytes (from_parts epoch numbers pre post dev local)) none
