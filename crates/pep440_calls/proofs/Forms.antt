-- Bytes that are a string or a compiled form: what is read of each, and what is found in compiled bytes as they lie.
use Rattle.std.proofs.Common.{◌≡◌, ◌∙◌, ℕ, List, Bool, ap, arith, codes, inl, inr, refl, subst, sym, ◌<◌, [], ◌∷◌, ◌++◌, true, map, Option, Some, None, ◌≤◌, ◌+◌, ◌*◌, ◌^◌, ◌%◌, ◌/◌, zero, suc, false, length, Bor}
use Rattle.std.specs.Prelude.{Err, IfOk, IsOk, Ok, ◌⊎◌, Result, slice_get, unwrap_or, MatchResult, codes, drop, nat_lt, if◌then◌else◌}
use Rattle.std.specs.declared.cmp.Ordering.{Ordering}
use Rattle.pep440_compiled.specs.Lists.{DenotesList, DenotesWithSet, HasListFormat, HasSetFormat, IsParsedMember}
use Rattle.pep440_compiled.specs.SetForms.{HasLoneSetFormat}
use Rattle.pep440_compiled.specs.Version.{DenotesVersion, HasVersionFormat, compiled_bytes, zero_bytes}
use Rattle.pep440_rs.specs.Matching.{any_prerelease, list_matches}
use Rattle.pep440_rs.specs.Specifiers.{Spec}
use Rattle.pep440_version.specs.Key.{record_cmp, dev_of, dev_rank, post_of, post_rank, stage_of, stage_rank}
use Rattle.pep440_version.specs.Record.{Record, LocalSegmentValue, Number, Text}
use Rattle.pep440_calls.proofs.Once.{never_both, one_bytes_list, one_version, no_format}
use Rattle.pep440_calls.specs.Statuses.{Faults, HoldsOr, HoldsOrFaults, WritesBytesOr, WritesResult, fault_of_compile, fault_of_string}
use Rattle.pep440_calls.specs.CallResults.{Contains, IsCompiled, IsOrder, IsPrerelease, IsRejectedString, IsTakenForm, RejectsSecond, order_number, IsKey}
use Rattle.pep440_calls.specs.CallerBytes.{IsNoCompiledList, IsNoCompiledVersion, BytesDenote, BytesDenoteList, ListFaults, StringDenotesList, StringDenotes, RejectsBytes, RejectsListBytes, RejectsListString, RejectsString}
use Rattle.pep440_calls.specs.declared.fault.Fault.{Fault}
use Rattle.std.proofs.lemmas.List.Elements.{All-weaker}
use Rattle.std.specs.List.{All, list_all, flat_map}
use Rattle.pep440_compiled.proofs.Fronts.{parsed}
use Rattle.pep440_version.specs.RoundTrip.{IsParsed}
use Rattle.pep440_compiled.specs.Strings.{IsCompileStringError}
use Rattle.pep440_compiled.specs.declared.error.CompileError.{CompileError}
use Rattle.pep440_compiled.specs.declared.error.CompileStringError.{CompileStringError}
use Rattle.pep440_compiled.specs.declared.error.CompileStringError.TheVariants as string
use Rattle.pep440_version.specs.ErrorTexts.{rejection_text}
use Rattle.pep440_version.specs.Rejections.{Rejection, Rejects}
use Rattle.pep440_compiled.specs.declared.error.CompileError.TheVariants.{NotParsed, OutOfMemory}
use Rattle.pep440_rs.proofs.Agreement.Operands.{list_has_texts}
use Rattle.pep440_rs.proofs.Denoted.{is_denotable}
use Rattle.pep440_rs.specs.Specifiers.SpecifierGrammar.{IsDenotedSpecifier}
use Rattle.pep440_keys.specs.SortKeys.{key_bytes, local_bytes, needed_bytes, number_bytes, rank_bytes, release_bytes, segment_bytes, trim_leading_zeros}
use Rattle.pep440_version.specs.Grammar.{Derives, AreSegments, IsCount, IsDev, IsEpoch, IsLeadingV, IsLocal, IsNumber, IsPost, IsPre, IsRelease, IsSeparator, IsSpelled, IsSpelling, Spellings, dev_spellings, is_separator, post_spellings, pre_spellings, IsSegment, is_numeral}
use Rattle.std.proofs.lemmas.Bool.Decides.{nat_tests}
use Rattle.std.proofs.lemmas.Str.{IsUtf8-from_ascii}
use Rattle.std.specs.Char.{is_ascii, is_ascii_alphanumeric, is_ascii_digit, is_ascii_whitespace, to_ascii_lowercase}
use Rattle.std.specs.Str.{IsUtf8}
use Rattle.pep440_rs.proofs.Reread.Plain.{all_ascii, all_joined, all_weaker}
use Rattle.pep440_version.proofs.Reading.Prefixes.{both_first, both_second}
use Rattle.pep440_version.specs.declared.prerelease.Prerelease.{Prerelease}
use Rattle.std.proofs.Math.Dec.{eqb-suc-zero}
use Rattle.std.proofs.Math.Nat.{div-eq_of_lt, div-one, pow-le-pow_left, pow-le-pow_right, zero-lt-suc}
use Rattle.std.proofs.lemmas.Bool.{cases_eq, cases_lt, eq-eqb, ltb-true, ne_eqb}
use Rattle.std.proofs.lemmas.Fmt.{length-decimal-le}
use Rattle.std.proofs.lemmas.List.{length-append, length-map}
use Rattle.std.proofs.lemmas.Str.Parse.{digits_value_short}
use Rattle.std.specs.Fmt.{decimal}
use Rattle.std.specs.Int.{byte_at, bytes_high_first}
use Rattle.std.specs.Str.Parse.{digits_value}
use Rattle.pep440_keys.proofs.Bytes.{unpadded_le}
use Rattle.pep440_version.proofs.Reading.Digits.{digits_model}
use Rattle.pep440_version.specs.Print.{dotted, epoch_text, labelled, local_text, pre_text, prerelease_kind_text, print, print_segment}
use Rattle.pep440_version.specs.Key.Trim.{prepend_trimmed, trim}
use Rattle.pep440_version.specs.declared.prerelease.PrereleaseKind.{PrereleaseKind}
use Rattle.pep440_version.specs.declared.prerelease.PrereleaseKind.TheVariants.{Alpha, Beta, Rc}
use Rattle.pep440_calls.specs.declared.fault.Fault.TheVariants as fault

-- ---- why nothing is said

-- a cause that may be a wider one
pub Faults-weaker : (A B C X Y : Type 0) → (A → X) → (B → Y) → (f : Fault) → Faults A B C f → Faults X Y C f
Faults-weaker A B C X Y wider also fault.InvalidVersion h = wider h
Faults-weaker A B C X Y wider also fault.InvalidList h = also h
Faults-weaker A B C X Y wider also fault.OutOfMemory h = h
Faults-weaker A B C X Y wider also fault.NumberAtMax h = h
Faults-weaker A B C X Y wider also fault.InvalidRight h = h
Faults-weaker A B C X Y wider also fault.NoSet h = h
Faults-weaker A B C X Y wider also fault.NoList h = h

-- a compiled list is no set by itself
pub never_lone : (bytes : List ℕ) → HasListFormat bytes → HasLoneSetFormat bytes → ⊥
never_lone bytes (inl five) seven = omega (arith, ap (λ o. unwrap_or o 0) (sym five ∙ seven))
never_lone bytes (inr six) seven = omega (arith, ap (λ o. unwrap_or o 0) (sym six ∙ seven))

-- of bytes that do not begin as a set by itself
pub list_faults : (A : Type 0) (bytes : List ℕ) → (¬ HasLoneSetFormat bytes) → (f : Fault) → Faults A (RejectsListBytes bytes) ⊥ f → ListFaults A bytes ⊥ f
list_faults A bytes plain fault.InvalidVersion h = h
list_faults A bytes plain fault.InvalidList h = (plain, h)
list_faults A bytes plain fault.OutOfMemory h = h
list_faults A bytes plain fault.NumberAtMax h = h
list_faults A bytes plain fault.InvalidRight h = h
list_faults A bytes plain fault.NoSet h = h
list_faults A bytes plain fault.NoList h = absurd h

pub members_read : (bytes : List ℕ) → (¬ HasLoneSetFormat bytes) → (result : Result (List Spec) Fault) → HoldsOrFaults ⊥ (RejectsListBytes bytes) ⊥ (BytesDenoteList bytes) result → HoldsOr (ListFaults ⊥ bytes ⊥) (BytesDenoteList bytes) result
members_read bytes plain (Ok l) means = means
members_read bytes plain (Err f) h = list_faults ⊥ bytes plain f h

-- what is written of a result
pub writes : {X : Type 0} (Cause : Fault → Type 0) (P : List ℕ → Type 0) (view : X → List ℕ) (given : Result X Fault) (old new : List ℕ) (old_written written status : ℕ)
    → HoldsOr Cause (λ x. P (view x)) given → WritesResult view given old new old_written written status → WritesBytesOr Cause P old new old_written written status
writes Cause P view (Ok x) old new old_written written status holds is = inl (view x, holds, is.0, is.1)
writes Cause P view (Err f) old new old_written written status cause is = inr (is.0, is.1, (f, cause, is.2))

-- ---- versions

pub no_compiled : (bytes : List ℕ) → HasVersionFormat bytes → IsNoCompiledVersion bytes → RejectsBytes bytes
no_compiled bytes format none = (codes "not a compiled version", inr (format, none, refl))

pub string_read : (bytes : List ℕ) → (¬ HasVersionFormat bytes) → (result : Result Record Fault) → HoldsOrFaults (RejectsString bytes) ⊥ ⊥ (StringDenotes bytes) result → HoldsOrFaults (RejectsBytes bytes) ⊥ ⊥ (BytesDenote bytes) result
string_read bytes plain (Ok r) means = inl (plain, means)
string_read bytes plain (Err fault.InvalidVersion) why = (why.0, inl (plain, why.1))
string_read bytes plain (Err fault.InvalidList) h = h
string_read bytes plain (Err fault.OutOfMemory) h = h
string_read bytes plain (Err fault.NumberAtMax) h = h
string_read bytes plain (Err fault.InvalidRight) h = h
string_read bytes plain (Err fault.NoSet) h = h
string_read bytes plain (Err fault.NoList) h = h

-- compiled bytes denote what they denote as a compiled form
pub as_compiled : (bytes : List ℕ) (r : Record) → HasVersionFormat bytes → BytesDenote bytes r → DenotesVersion bytes r
as_compiled bytes r format (inl (plain, means)) = absurd (plain format)
as_compiled bytes r format (inr d) = d

-- ---- lists

pub no_compiled_list : (bytes : List ℕ) → HasListFormat bytes → IsNoCompiledList bytes → RejectsListBytes bytes
no_compiled_list bytes format none = (codes "not a compiled list", inr (format, none, refl))

pub list_string_read : (bytes : List ℕ) → (¬ HasListFormat bytes) → (result : Result (List Spec) Fault) → HoldsOrFaults ⊥ (RejectsListString bytes) ⊥ (StringDenotesList bytes) result → HoldsOrFaults ⊥ (RejectsListBytes bytes) ⊥ (BytesDenoteList bytes) result
list_string_read bytes plain (Ok l) means = inl (plain, means)
list_string_read bytes plain (Err fault.InvalidVersion) h = h
list_string_read bytes plain (Err fault.InvalidList) why = (why.0, inl (plain, why.1))
list_string_read bytes plain (Err fault.OutOfMemory) h = h
list_string_read bytes plain (Err fault.NumberAtMax) h = h
list_string_read bytes plain (Err fault.InvalidRight) h = h
list_string_read bytes plain (Err fault.NoSet) h = h
list_string_read bytes plain (Err fault.NoList) h = h

pub compiled_list_read : (bytes : List ℕ) → HasListFormat bytes → (result : Result (List Spec) Fault) → HoldsOrFaults ⊥ (IsNoCompiledList bytes) ⊥ (DenotesList bytes) result → HoldsOrFaults ⊥ (RejectsListBytes bytes) ⊥ (BytesDenoteList bytes) result
compiled_list_read bytes format (Ok l) d = inr d
compiled_list_read bytes format (Err fault.InvalidVersion) h = h
compiled_list_read bytes format (Err fault.InvalidList) none = no_compiled_list bytes format none
compiled_list_read bytes format (Err fault.OutOfMemory) h = h
compiled_list_read bytes format (Err fault.NumberAtMax) h = h
compiled_list_read bytes format (Err fault.InvalidRight) h = h
compiled_list_read bytes format (Err fault.NoSet) h = h
compiled_list_read bytes format (Err fault.NoList) h = h

pub as_compiled_list : (bytes : List ℕ) (l : List Spec) → HasListFormat bytes → BytesDenoteList bytes l → DenotesList bytes l
as_compiled_list bytes l format (inl (plain, means)) = absurd (plain format)
as_compiled_list bytes l format (inr d) = d

-- of bytes that begin as a list with its set
pub as_set_list : (bytes : List ℕ) (l : List Spec) → HasSetFormat bytes → BytesDenoteList bytes l → DenotesWithSet bytes l
as_set_list bytes l format means = go (as_compiled_list bytes l (inr format) means)
  where
    go : DenotesList bytes l → DenotesWithSet bytes l
    go (inl d) = absurd (omega (arith, ap (λ o. unwrap_or o 0) (sym format ∙ ap (λ b. slice_get b 0) d.same)))
    go (inr d) = d

pub no_set_list : (bytes : List ℕ) → HasSetFormat bytes → ((l : List Spec) → DenotesWithSet bytes l → ⊥) → RejectsListBytes bytes
no_set_list bytes format none = no_compiled_list bytes (inr format) (λ l d. none l (as_set_list bytes l format (inr d)))

-- ---- what calls find

-- the compiled form of a string is that of its version
pub form_made : (text form : List ℕ) → IsCompiled text form → IsTakenForm text form
form_made text form (r, means, compiled) = (inr (r, means), λ q also. subst (DenotesVersion form) (one_version text r q means also) compiled)

-- a version is taken as it lies
pub form_given : (text : List ℕ) → HasVersionFormat text → IsTakenForm text text
form_given text format = (
  inl format,
  λ r means. elim means [
    | inl string ↦ absurd (string.0 format)
    | inr compiled ↦ compiled
  ],
)

pub string_form : (text : List ℕ) → (¬ HasVersionFormat text) → (result : Result (Bor (List ℕ)) Fault) → HoldsOrFaults (RejectsBytes text) ⊥ ⊥ (λ form. IsCompiled text form.now) result
    → HoldsOrFaults (IsRejectedString text) ⊥ ⊥ (λ form. IsTakenForm text form.now) result
string_form text string (Ok form) h = form_made text form.now h
string_form text string (Err f) h = Faults-weaker (RejectsBytes text) ⊥ ⊥ (IsRejectedString text) ⊥ (λ why. (string, why)) (λ none. none) f h

-- the order of versions by their compiled forms
pub order_read : (left right form other : List ℕ) (o : Ordering) → IsTakenForm left form → IsTakenForm right other → ((r q : Record) → DenotesVersion form r → DenotesVersion other q → o ≡ record_cmp r q) → IsOrder left right (order_number o)
order_read left right form other o first second found = ((first.0, second.0), λ r q means also. ap order_number (found r q (first.1 r means) (second.1 q also)))

-- matching of a compiled list and the compiled form of a string
module _ (list text form : List ℕ) (format : HasListFormat list) (r : Record) (means : BytesDenote text r) (compiled : DenotesVersion form r) where
  abbrev Found : List ℕ → Bool × Bool → Type 0
  Found bytes found = Contains list bytes found.0 × IsPrerelease bytes found.1

  pub contains_of_form : (result : Result (Bool × Bool) Fault) → HoldsOr (ListFaults (RejectsSecond list form) list ⊥) (Found form) result → HoldsOr (ListFaults (RejectsSecond list text) list ⊥) (Found text) result
  contains_of_form (Ok found) h = (
    (inl (format, inr (r, means)), λ l q lone also. h.0.1 l r lone (inr compiled) ∙ ap (list_matches l) (one_version text r q means also)),
    λ q also. h.1 r (inr compiled) ∙ ap any_prerelease (one_version text r q means also),
  )
  contains_of_form (Err fault.InvalidVersion) h = absurd (never_both form r (inr compiled) h.1)
  contains_of_form (Err fault.InvalidList) h = h
  contains_of_form (Err fault.OutOfMemory) h = h
  contains_of_form (Err fault.NumberAtMax) h = h
  contains_of_form (Err fault.InvalidRight) h = h
  contains_of_form (Err fault.NoSet) h = h
  contains_of_form (Err fault.NoList) h = h

-- matching of a list and a version that were read
pub contains_read : (list text : List ℕ) (l : List Spec) (r : Record) (contained : Bool) → BytesDenoteList list l → BytesDenote text r → contained ≡ list_matches l r → Contains list text contained
contains_read list text l r contained means also is = (
  inr ((l, means), (r, also)),
  λ m q first second. is ∙ (λ i. list_matches (one_bytes_list list l m means first i) (one_version text r q also second i)),
)

pub early_read : (text : List ℕ) (r : Record) (early : Bool) → BytesDenote text r → early ≡ any_prerelease r → IsPrerelease text early
early_read text r early means is q also = is ∙ ap any_prerelease (one_version text r q means also)

-- ---- each version and each list that a string denotes has a compiled form

abbrev AllAscii : List ℕ → Type 0
AllAscii text = list_all is_ascii text ≡ true

low : (b : ℕ) → is_ascii b ≡ true → b < 128
low b h = grind (arith, nat_tests)

digit : (b : ℕ) → is_ascii_digit b ≡ true → is_ascii b ≡ true
digit b h = grind (arith, nat_tests)

alphanumeric : (b : ℕ) → is_ascii_alphanumeric b ≡ true → is_ascii b ≡ true
alphanumeric b h = grind (arith, nat_tests)

blank : (b : ℕ) → is_ascii_whitespace b ≡ true → is_ascii b ≡ true
blank b h = grind (arith, nat_tests)

separator : (b : ℕ) → is_separator b ≡ true → is_ascii b ≡ true
separator b h = grind (arith, nat_tests)

lowered : (b : ℕ) → is_ascii (to_ascii_lowercase b) ≡ true → is_ascii b ≡ true
lowered b h = grind (arith, nat_tests)

all_lowered : (text : List ℕ) → AllAscii (map to_ascii_lowercase text) → AllAscii text
all_lowered [] h = refl
all_lowered (b ∷ text) h = rw (lowered b (both_first (is_ascii (to_ascii_lowercase b)) _ h), all_lowered text (both_second (is_ascii (to_ascii_lowercase b)) _ h)) refl

-- ---- the parts

number : (text : List ℕ) (n : ℕ) → IsNumber text n → AllAscii text
number text n h = all_weaker is_ascii_digit is_ascii digit text h.1

leading_v : (text : List ℕ) → IsLeadingV text → AllAscii text
leading_v text (inl e) = subst AllAscii (sym e) refl
leading_v text (inr (inl e)) = subst AllAscii (sym e) refl
leading_v text (inr (inr e)) = subst AllAscii (sym e) refl

epoch : (text : List ℕ) (n : ℕ) → IsEpoch text n → AllAscii text
epoch text n (inl h) = subst AllAscii (sym h.0) refl
epoch text n (inr (digits, h, e)) = subst AllAscii (sym e) (all_joined is_ascii digits (codes "!") (number digits n h) refl)

release : (text ns : List ℕ) → IsRelease text ns → AllAscii text
release text [] h = absurd h
release text (n ∷ []) h = number text n h
release text (n ∷ m ∷ rest) (digits, after, h, more, e) =
    subst AllAscii (sym e) (all_joined is_ascii digits (codes "." ++ after) (number digits n h) (all_joined is_ascii (codes ".") after refl (release after (m ∷ rest) more)))

one_separator : (text : List ℕ) → IsSeparator text → AllAscii text
one_separator text (inl e) = subst AllAscii (sym e) refl
one_separator text (inr (b, is, e)) = subst AllAscii (sym e) (rw (separator b is) refl)

count : (text : List ℕ) (n : ℕ) → IsCount text n → AllAscii text
count text n (inl h) = subst AllAscii (sym h.0) refl
count text n (inr h) = number text n h

word : {A : Type 0} (table : Spellings A) (text : List ℕ) (a : A) → list_all (λ s. list_all is_ascii s.0) table ≡ true → IsSpelling table text a → AllAscii text
word [] text a all h = absurd h
word (s ∷ rest) text a all (inl h) = all_lowered text (subst AllAscii (sym h.0) (both_first (list_all is_ascii s.0) _ all))
word (s ∷ rest) text a all (inr h) = word rest text a (both_second (list_all is_ascii s.0) _ all) h

spelled : {A : Type 0} (table : Spellings A) (part after : List ℕ) (a : A) (n : ℕ) → list_all (λ s. list_all is_ascii s.0) table ≡ true → IsSpelled table part after a n → AllAscii part
spelled table part after a n all h =
    let numbered = all_joined is_ascii h.between h.digits (one_separator h.between h.second) (count h.digits n h.count) in
    let spelling = all_joined is_ascii h.word (h.between ++ h.digits) (word table h.word a all h.spelling) numbered in
    subst AllAscii (sym h.decomposition) (all_joined is_ascii h.before (h.word ++ (h.between ++ h.digits)) (one_separator h.before h.first) spelling)

pre : (text after : List ℕ) (p : Option Prerelease) → IsPre text after p → AllAscii text
pre text after None h = subst AllAscii (sym h) refl
pre text after (Some p) h = spelled pre_spellings text after p.kind p.number refl h

post : (text after : List ℕ) (n : Option ℕ) → IsPost text after n → AllAscii text
post text after None h = subst AllAscii (sym h) refl
post text after (Some n) (inl (digits, h, e)) = subst AllAscii (sym e) (all_joined is_ascii (codes "-") digits refl (number digits n h))
post text after (Some n) (inr h) = spelled post_spellings text after tt n refl h

dev : (text after : List ℕ) (n : Option ℕ) → IsDev text after n → AllAscii text
dev text after None h = subst AllAscii (sym h) refl
dev text after (Some n) h = spelled dev_spellings text after tt n refl h

segments : (text : List ℕ) (local : List LocalSegmentValue) → AreSegments text local → AllAscii text
segments text [] h = absurd h
segments text (s ∷ []) h = all_weaker is_ascii_alphanumeric is_ascii alphanumeric text h.1
segments text (s ∷ t ∷ rest) (first, after, b, h, is, more, e) =
    subst AllAscii (sym e) (all_joined is_ascii first (b ∷ after) (all_weaker is_ascii_alphanumeric is_ascii alphanumeric first h.1) (rw (separator b is, segments after (t ∷ rest) more) refl))

local_part : (text : List ℕ) (local : List LocalSegmentValue) → IsLocal text local → AllAscii text
local_part text [] h = subst AllAscii (sym h) refl
local_part text (s ∷ rest) (after, h, e) = subst AllAscii (sym e) (all_joined is_ascii (codes "+") after refl (segments after (s ∷ rest) h))

-- ---- the string

derived : (text : List ℕ) (r : Record) → Derives text r → AllAscii text
derived text r d =
    let from_l = all_joined is_ascii d.l d.w2 (local_part d.l r.local d.local) (all_weaker is_ascii_whitespace is_ascii blank d.w2 d.end) in
    let from_d = all_joined is_ascii d.d _ (dev d.d _ r.dev d.dev) from_l in
    let from_q = all_joined is_ascii d.q _ (post d.q _ r.post d.post) from_d in
    let from_p = all_joined is_ascii d.p _ (pre d.p _ r.pre d.pre) from_q in
    let from_n = all_joined is_ascii d.n _ (release d.n r.release d.release) from_p in
    let from_e = all_joined is_ascii d.e _ (epoch d.e r.epoch d.epoch) from_n in
    let from_v = all_joined is_ascii d.v _ (leading_v d.v d.letter) from_e in
    subst AllAscii (sym d.decomposition) (all_joined is_ascii d.w1 _ (all_weaker is_ascii_whitespace is_ascii blank d.w1 d.blanks) from_v)

pub derived_utf8 : (text : List ℕ) (r : Record) → Derives text r → IsUtf8 text
derived_utf8 text r d = IsUtf8-from_ascii text (all_ascii is_ascii low text (derived text r d))

abbrev pub IsParsedSpec : Spec → Type 0
IsParsedSpec s = IsParsed s.version

pub specifier_parsed : (s : Spec) → IsDenotedSpecifier s → IsParsedSpec s
specifier_parsed s has = let given = is_denotable s has in parsed given.1.0 s.version given.1.1

pub means_parsed : (bytes : List ℕ) (r : Record) → BytesDenote bytes r → IsParsed r
means_parsed bytes r (inl (plain, (utf8, d))) = parsed bytes r d
means_parsed bytes r (inr d) = d.parsed

pub members_parsed : (bytes : List ℕ) (list : List Spec) → BytesDenoteList bytes list → All IsParsedSpec list
members_parsed bytes list (inl (plain, (utf8, means))) = All-weaker IsDenotedSpecifier IsParsedSpec specifier_parsed list (list_has_texts bytes list means)
members_parsed bytes list (inr (inl d)) = All-weaker IsParsedMember IsParsedSpec (λ s p. p.version) list d.members
members_parsed bytes list (inr (inr d)) = All-weaker IsParsedMember IsParsedSpec (λ s p. p.version) list d.members.members

-- so an error is out of memory
pub only_memory : (version list range : Type 0) (f : Fault) (e : CompileError) → f ≡ fault_of_compile e → (e ≡ NotParsed → ⊥) → Faults version list range f
only_memory version list range f NotParsed is never = absurd (never refl)
only_memory version list range f OutOfMemory is never = subst (Faults version list range) (sym is) tt

-- the compiled form of a string that needs no version
pub string_compiled : (bytes form : List ℕ) → (r : Record) × Derives bytes r × DenotesVersion form r → IsCompiled bytes form
string_compiled bytes form (r, d, denotes) = (r, inl (no_format bytes r d, (derived_utf8 bytes r d, d)), denotes)

-- a copy of a compiled version
pub copied : (bytes copy : List ℕ) → (r : Record) × DenotesVersion bytes r → copy ≡ bytes → IsCompiled bytes copy
copied bytes copy (r, d) same = (r, inr d, subst (λ b. DenotesVersion b r) (sym same) d)

-- why a string has no compiled form
pub string_fault : (text : List ℕ) (f : Fault) (e : CompileStringError) → (¬ HasVersionFormat text) → f ≡ fault_of_string e → IsCompileStringError text e → Faults (RejectsBytes text) ⊥ ⊥ f
string_fault text f string.NotAVersion plain is why = subst (Faults (RejectsBytes text) ⊥ ⊥) (sym is) (named why)
  where
    named : (¬ IsUtf8 text) ⊎ (IsUtf8 text × (rejection : Rejection) × Rejects text rejection) → RejectsBytes text
    named (inl not_utf8) = (codes "not UTF-8", inl (plain, inl (not_utf8, refl)))
    named (inr (utf8, rejection, rejects)) = (rejection_text rejection, inl (plain, inr (utf8, rejection, rejects, refl)))
string_fault text f string.OutOfMemory plain is why = subst (Faults (RejectsBytes text) ⊥ ⊥) (sym is) tt

-- the sort key in the compiled form of a string
pub string_key : {K E : Type 0} (now : K → List ℕ) (bytes form : List ℕ) (result : Result K E) → IsCompiled bytes form
    → ((r : Record) → DenotesVersion form r → MatchResult result (λ key. now key ≡ key_bytes r) (λ _. ⊥)) → IfOk result (λ key. IsKey bytes (now key)) × IsOk result
string_key now bytes form (Ok key) (r, means, denotes) found = ((r, means, found r denotes), refl)
string_key now bytes form (Err e) (r, means, denotes) found = absurd (found r denotes)

-- ---- how long the forms of a version are at most, by the length of a string that denotes it

-- ---- numbers

byte_is : (k n : ℕ) → byte_at k n ≡ n / 256 ^ k % 256
byte_is zero n = ap (λ m. m % 256) (sym (div-one n))
byte_is (suc k) n = refl

no_byte : (k n : ℕ) → n < 256 ^ k → byte_at k n ≡ 0
no_byte k n h = byte_is k n ∙ ap (λ m. m % 256) (div-eq_of_lt h)

long : (k n : ℕ) → length (bytes_high_first k n) ≡ k
long zero n = refl
long (suc k) n = ap suc (long k n)

-- a number below 256^j needs j bytes at most
few_bytes : (k j n : ℕ) → n < 256 ^ j → length (trim_leading_zeros (bytes_high_first k n)) ≤ j
few_bytes zero j n h = omega arith
few_bytes (suc k) j n h = elim (cases_lt k j) [
  | inl fits ↦ omega (arith, unpadded_le (bytes_high_first (suc k) n), long (suc k) n)
  | inr above ↦
      let small : n < 256 ^ k = omega (arith, h, pow-le-pow_right (zero-lt-suc 255) above) in
      subst (λ b. length (trim_leading_zeros (b ∷ bytes_high_first k n)) ≤ j) (sym (no_byte k n small)) (few_bytes k j n h)
]

value_short : (digits : List ℕ) (n : ℕ) → list_all is_ascii_digit digits ≡ true → digits_value 10 digits ≡ n → n < 10 ^ length digits
value_short digits n all is = subst (λ m. m < 10 ^ length digits) is (digits_value_short digits_model digits (length digits) all (omega arith))

needed_short : (digits : List ℕ) (n : ℕ) → list_all is_ascii_digit digits ≡ true → digits_value 10 digits ≡ n → length (needed_bytes n) ≤ length digits
unfolding needed_bytes
needed_short digits n all is =
    let ten : 10 ≤ 256 = omega arith in
    few_bytes 8 (length digits) n (omega (arith, value_short digits n all is, pow-le-pow_left ten (length digits)))

number_short : (text : List ℕ) (n : ℕ) → IsNumber text n → length (needed_bytes n) ≤ length text
number_short text n d = needed_short text n d.1 d.2

decimal_short : (text : List ℕ) (n : ℕ) → IsNumber text n → length (decimal n) ≤ length text
decimal_short text n d = length-decimal-le (length text) n d.0 (value_short text n d.1 d.2) d.3

zero_short : (n : ℕ) → n ≡ 0 → length (needed_bytes n) ≤ 0
zero_short n e = needed_short [] n refl (sym e)

count_short : (text : List ℕ) (n : ℕ) → IsCount text n → length (needed_bytes n) ≤ length text
count_short text n (inl none) = omega (arith, zero_short n none.1)
count_short text n (inr d) = number_short text n d

count_decimal : (text : List ℕ) (n : ℕ) → IsCount text n → length (decimal n) ≤ length text + 1
count_decimal text n (inl none) = subst (λ m. length (decimal m) ≤ length text + 1) (sym none.1) (omega (arith, length-decimal-le 1 0 (omega arith) (omega arith) (omega arith)))
count_decimal text n (inr d) = omega (arith, decimal_short text n d)

-- ---- epoch and release

epoch_print : (text : List ℕ) (epoch : ℕ) → IsEpoch text epoch → length (epoch_text epoch) ≤ length text
epoch_print text zero d = omega arith
epoch_print text (suc n) (inl none) = absurd (omega (arith, none.1))
epoch_print text (suc n) (inr d) =
    let some : epoch_text (suc n) ≡ decimal (suc n) ++ codes "!" = ap (λ b. if b then [] else decimal (suc n) ++ codes "!") (eqb-suc-zero n) in
    omega (arith, ap length some, length-append (decimal (suc n)) (codes "!"), decimal_short d.0 (suc n) d.1, ap length d.2, length-append d.0 (codes "!"))

epoch_needed : (text : List ℕ) (epoch : ℕ) → IsEpoch text epoch → length (needed_bytes epoch) ≤ length text
epoch_needed text epoch (inl none) = omega (arith, zero_short epoch none.1)
epoch_needed text epoch (inr d) = omega (arith, number_short d.0 epoch d.1, ap length d.2, length-append d.0 (codes "!"))

-- the strings of the numbers after a dot each
abbrev following : List ℕ → List ℕ
following numbers = flat_map (λ n. codes "." ++ decimal n) numbers

release_print : (text : List ℕ) (numbers : List ℕ) → IsRelease text numbers → length (dotted decimal numbers) ≤ length text
release_print text [] d = absurd d
release_print text (n ∷ []) d = omega (arith, length-append (decimal n) [], decimal_short text n d)
release_print text (n ∷ m ∷ rest) d =
    let later : length (dotted decimal (m ∷ rest)) ≤ length d.1 = release_print d.1 (m ∷ rest) d.3 in
    omega (
      arith,
      length-append (decimal n) (following (m ∷ rest)),
      length-append (decimal m) (following rest),
      length-append (codes "." ++ decimal m) (following rest),
      length-append (codes ".") (decimal m),
      later,
      decimal_short d.0 n d.2,
      ap length d.4,
      length-append d.0 (codes "." ++ d.1),
      length-append (codes ".") d.1,
    )

numbers_short : (text : List ℕ) (numbers : List ℕ) → IsRelease text numbers → length (flat_map (number_bytes 1) numbers) ≤ length text + 1
numbers_short text [] d = absurd d
numbers_short text (n ∷ []) d = omega (arith, length-append (number_bytes 1 n) [], number_short text n d)
numbers_short text (n ∷ m ∷ rest) d =
    omega (arith, length-append (number_bytes 1 n) (flat_map (number_bytes 1) (m ∷ rest)), numbers_short d.1 (m ∷ rest) d.3, number_short d.0 n d.2, ap length d.4, length-append d.0 (codes "." ++ d.1), length-append (codes ".") d.1)

-- each zero that ends a release takes a byte, as it would among the numbers
each_byte : (numbers : List ℕ) → length numbers ≤ length (flat_map (number_bytes 1) numbers)
each_byte [] = omega arith
each_byte (n ∷ rest) = omega (arith, length-append (number_bytes 1 n) (flat_map (number_bytes 1) rest), each_byte rest)

abbrev IsCut : List ℕ → List ℕ → Type 0
IsCut numbers ts = length (flat_map (number_bytes 1) ts) + length (drop (length ts) numbers) ≤ length (flat_map (number_bytes 1) numbers)

cut_step : (n : ℕ) (rest ts : List ℕ) → IsCut rest ts → IsCut (n ∷ rest) (prepend_trimmed n ts)
cut_step n rest (t ∷ ts) h = omega (arith, h, length-append (number_bytes 1 n) (flat_map (number_bytes 1) (t ∷ ts)), length-append (number_bytes 1 n) (flat_map (number_bytes 1) rest))
cut_step n rest [] h = elim (cases_eq n 0) [
  | inl e ↦ subst (IsCut (n ∷ rest)) (sym (ap (λ b. if b then [] else n ∷ []) (eq-eqb n 0 e))) (omega (arith, each_byte (n ∷ rest)))
  | inr other ↦ subst (IsCut (n ∷ rest)) (sym (ap (λ b. if b then [] else n ∷ []) (ne_eqb n 0 other))) (omega (arith, length-append (number_bytes 1 n) [], length-append (number_bytes 1 n) (flat_map (number_bytes 1) rest), each_byte rest))
]

cut_short : (numbers : List ℕ) → IsCut numbers (trim numbers)
cut_short [] = omega arith
cut_short (n ∷ rest) = cut_step n rest (trim rest) (cut_short rest)

-- ---- spelled parts

-- no word of the table is shorter than this says of what it stands for
abbrev AreLong : {A : Type 0} → (A → ℕ) → Spellings A → Type 0
AreLong least [] = Unit {0}
AreLong least (s ∷ rest) = (least s.1 ≤ length s.0) × AreLong least rest

word_long : {A : Type 0} (least : A → ℕ) (table : Spellings A) (word : List ℕ) (a : A) → AreLong least table → IsSpelling table word a → least a ≤ length word
word_long least [] word a h d = absurd d
word_long least (s ∷ rest) word a h (inl is) = omega (arith, h.0, ap least is.1, ap length is.0, length-map word to_ascii_lowercase)
word_long least (s ∷ rest) word a h (inr later) = word_long least rest word a h.1 later

part_long : {A : Type 0} {table : Spellings A} (part after : List ℕ) (a : A) (n : ℕ) → (d : IsSpelled table part after a n) → length d.word + length d.digits ≤ length part
part_long part after a n d = omega (arith, ap length d.decomposition, length-append d.before (d.word ++ (d.between ++ d.digits)), length-append d.word (d.between ++ d.digits), length-append d.between d.digits)

-- ---- pre-release, post-release and dev release

-- the shortest words: `c` for `rc`, `r` for `post`
abbrev kind_least : PrereleaseKind → ℕ
kind_least Alpha = 1
kind_least Beta = 1
kind_least Rc = 1

pre_words : AreLong kind_least pre_spellings
pre_words = (omega arith, (omega arith, (omega arith, (omega arith, (omega arith, (omega arith, (omega arith, (omega arith, tt))))))))

post_words : AreLong (λ u. 1) post_spellings
post_words = (omega arith, (omega arith, (omega arith, tt)))

dev_words : AreLong (λ u. 3) dev_spellings
dev_words = (omega arith, tt)

kind_short : (k : PrereleaseKind) → length (prerelease_kind_text k) ≤ kind_least k + 1
kind_short Alpha = omega arith
kind_short Beta = omega arith
kind_short Rc = omega arith

pre_print : (part after : List ℕ) (pre : Option Prerelease) → IsPre part after pre → length (pre_text pre) ≤ length part + 2
pre_print part after None d = omega arith
pre_print part after (Some p) d =
    omega (arith, length-append (prerelease_kind_text p.kind) (decimal p.number), kind_short p.kind, word_long kind_least pre_spellings d.word p.kind pre_words d.spelling, count_decimal d.digits p.number d.count, part_long part after p.kind p.number d)

post_print : (part after : List ℕ) (post : Option ℕ) → IsPost part after post → length (labelled (codes ".post") post) ≤ length part + 5
post_print part after None d = omega arith
post_print part after (Some n) (inl d) = omega (arith, length-append (codes ".post") (decimal n), decimal_short d.0 n d.1, ap length d.2, length-append (codes "-") d.0)
post_print part after (Some n) (inr d) =
    omega (arith, length-append (codes ".post") (decimal n), word_long (λ u. 1) post_spellings d.word tt post_words d.spelling, count_decimal d.digits n d.count, part_long part after tt n d)

dev_print : (part after : List ℕ) (dev : Option ℕ) → IsDev part after dev → length (labelled (codes ".dev") dev) ≤ length part + 2
dev_print part after None d = omega arith
dev_print part after (Some n) d =
    omega (arith, length-append (codes ".dev") (decimal n), word_long (λ u. 3) dev_spellings d.word tt dev_words d.spelling, count_decimal d.digits n d.count, part_long part after tt n d)

none_needed : length (needed_bytes 0) ≤ 0
none_needed = zero_short 0 refl

stage_short : (part after : List ℕ) (pre : Option Prerelease) (dev post : Option ℕ) → IsPre part after pre → length (needed_bytes (stage_rank (stage_of None pre dev post None)).1) ≤ length part
stage_short part after (Some p) dev post d = omega (arith, count_short d.digits p.number d.count, part_long part after p.kind p.number d)
stage_short part after None (Some n) None d = omega (arith, none_needed)
stage_short part after None (Some n) (Some m) d = omega (arith, none_needed)
stage_short part after None None post d = omega (arith, none_needed)

post_short : (part after : List ℕ) (post : Option ℕ) → IsPost part after post → length (needed_bytes (post_rank (post_of None post)).1) ≤ length part
post_short part after None d = omega (arith, none_needed)
post_short part after (Some n) (inl d) = omega (arith, number_short d.0 n d.1, ap length d.2, length-append (codes "-") d.0)
post_short part after (Some n) (inr d) = omega (arith, count_short d.digits n d.count, part_long part after tt n d)

dev_short : (part after : List ℕ) (dev : Option ℕ) → IsDev part after dev → length (needed_bytes (dev_rank (dev_of None dev)).1) ≤ length part
dev_short part after None d = omega (arith, none_needed)
dev_short part after (Some n) d = omega (arith, count_short d.digits n d.count, part_long part after tt n d)

-- ---- local parts

-- of a segment: how long its value is in the normal form, and in the key
record IsShort (text : List ℕ) (s : LocalSegmentValue) : Type 0 where
  print : length (print_segment s) ≤ length text
  bytes : 2 * length (segment_bytes s) ≤ 3 * (length text + 1)

text_short : (text t : List ℕ) → 0 < length text → length t ≡ length text → IsShort text (Text t)
text_short text t some same = record {
  print = omega (arith, same);
  bytes = omega (arith, same, some, length-append t (0 ∷ []));
}

value_fits : (text : List ℕ) → 0 < length text → (b : Bool) → is_numeral text ≡ b → IsShort text (if b then Number (digits_value 10 text) else Text (map to_ascii_lowercase text))
value_fits text some false e = text_short text (map to_ascii_lowercase text) some (length-map text to_ascii_lowercase)
value_fits text some true e =
    let number : IsNumber text (digits_value 10 text) =
    (some, both_first (list_all is_ascii_digit text) (nat_lt (digits_value 10 text) (2 ^ 64)) e, refl, ltb-true (digits_value 10 text) (2 ^ 64) (both_second (list_all is_ascii_digit text) (nat_lt (digits_value 10 text) (2 ^ 64)) e)) in
    record {
      print = decimal_short text (digits_value 10 text) number;
      bytes = omega (arith, number_short text (digits_value 10 text) number, some);
    }

segment_short : (text : List ℕ) (s : LocalSegmentValue) → IsSegment text s → IsShort text s
segment_short text s d = subst (IsShort text) (sym d.2) (value_fits text d.0 (is_numeral text) refl)

-- the segments after a dot each
abbrev later_segments : List LocalSegmentValue → List ℕ
later_segments segments = flat_map (λ s. codes "." ++ print_segment s) segments

segments_print : (text : List ℕ) (segments : List LocalSegmentValue) → AreSegments text segments → length (dotted print_segment segments) ≤ length text
segments_print text [] d = absurd d
segments_print text (s ∷ []) d = let short = segment_short text s d in omega (arith, length-append (print_segment s) [], short.print)
segments_print text (s ∷ t ∷ rest) d =
    let short = segment_short d.0 s d.3 in
    let later : length (dotted print_segment (t ∷ rest)) ≤ length d.1 = segments_print d.1 (t ∷ rest) d.5 in
    omega (
      arith,
      length-append (print_segment s) (later_segments (t ∷ rest)),
      length-append (print_segment t) (later_segments rest),
      length-append (codes "." ++ print_segment t) (later_segments rest),
      length-append (codes ".") (print_segment t),
      later,
      short.print,
      ap length d.6,
      length-append d.0 (d.2 ∷ d.1),
    )

segments_bytes : (text : List ℕ) (segments : List LocalSegmentValue) → AreSegments text segments → 2 * length (flat_map segment_bytes segments) ≤ 3 * (length text + 1)
segments_bytes text [] d = absurd d
segments_bytes text (s ∷ []) d = let short = segment_short text s d in omega (arith, length-append (segment_bytes s) [], short.bytes)
segments_bytes text (s ∷ t ∷ rest) d =
    let short = segment_short d.0 s d.3 in
    omega (arith, length-append (segment_bytes s) (flat_map segment_bytes (t ∷ rest)), segments_bytes d.1 (t ∷ rest) d.5, short.bytes, ap length d.6, length-append d.0 (d.2 ∷ d.1))

local_print : (part : List ℕ) (segments : List LocalSegmentValue) → IsLocal part segments → length (local_text segments) ≤ length part
local_print part [] d = omega arith
local_print part (s ∷ rest) d = omega (arith, length-append (codes "+") (dotted print_segment (s ∷ rest)), segments_print d.0 (s ∷ rest) d.1, ap length d.2, length-append (codes "+") d.0)

local_short : (part : List ℕ) (segments : List LocalSegmentValue) → IsLocal part segments → 2 * length (local_bytes segments) ≤ 3 * length part + 2
local_short part [] d = omega arith
local_short part (s ∷ rest) d = omega (arith, length-append (flat_map segment_bytes (s ∷ rest)) (0 ∷ []), segments_bytes d.0 (s ∷ rest) d.1, ap length d.2, length-append (codes "+") d.0)

-- ---- the whole

pub print_bound : (bytes : List ℕ) (r : Record) → Derives bytes r → length (print r) ≤ 9 + length bytes
print_bound bytes r d = omega (
  arith,
  ap length d.decomposition,
  length-append d.w1 (d.v ++ (d.e ++ (d.n ++ (d.p ++ (d.q ++ (d.d ++ (d.l ++ d.w2))))))),
  length-append d.v (d.e ++ (d.n ++ (d.p ++ (d.q ++ (d.d ++ (d.l ++ d.w2)))))),
  length-append d.e (d.n ++ (d.p ++ (d.q ++ (d.d ++ (d.l ++ d.w2))))),
  length-append d.n (d.p ++ (d.q ++ (d.d ++ (d.l ++ d.w2)))),
  length-append d.p (d.q ++ (d.d ++ (d.l ++ d.w2))),
  length-append d.q (d.d ++ (d.l ++ d.w2)),
  length-append d.d (d.l ++ d.w2),
  length-append d.l d.w2,
  length-append (epoch_text r.epoch) (dotted decimal r.release ++ (pre_text r.pre ++ (labelled (codes ".post") r.post ++ (labelled (codes ".dev") r.dev ++ local_text r.local)))),
  length-append (dotted decimal r.release) (pre_text r.pre ++ (labelled (codes ".post") r.post ++ (labelled (codes ".dev") r.dev ++ local_text r.local))),
  length-append (pre_text r.pre) (labelled (codes ".post") r.post ++ (labelled (codes ".dev") r.dev ++ local_text r.local)),
  length-append (labelled (codes ".post") r.post) (labelled (codes ".dev") r.dev ++ local_text r.local),
  length-append (labelled (codes ".dev") r.dev) (local_text r.local),
  epoch_print d.e r.epoch d.epoch,
  release_print d.n r.release d.release,
  pre_print d.p (d.q ++ (d.d ++ (d.l ++ d.w2))) r.pre d.pre,
  post_print d.q (d.d ++ (d.l ++ d.w2)) r.post d.post,
  dev_print d.d (d.l ++ d.w2) r.dev d.dev,
  local_print d.l r.local d.local,
)

-- how long a sort key is, by its parts
key_long : (r : Record) → length (key_bytes r)
    ≡ 5 + (length (needed_bytes r.epoch) + (length (flat_map (number_bytes 1) (trim r.release)) + (length (needed_bytes (stage_rank (stage_of r.min r.pre r.dev r.post r.max)).1)
    + (length (needed_bytes (post_rank (post_of r.max r.post)).1) + (length (needed_bytes (dev_rank (dev_of r.min r.dev)).1) + length (local_bytes r.local))))))
key_long r =
    let epoch = number_bytes 0 r.epoch in
    let release = release_bytes r.release in
    let stage = rank_bytes (stage_rank (stage_of r.min r.pre r.dev r.post r.max)) in
    let post = rank_bytes (post_rank (post_of r.max r.post)) in
    let dev = rank_bytes (dev_rank (dev_of r.min r.dev)) in
    omega (
      arith,
      length-append (epoch ++ release ++ stage ++ post ++ dev) (local_bytes r.local),
      length-append (epoch ++ release ++ stage ++ post) dev,
      length-append (epoch ++ release ++ stage) post,
      length-append (epoch ++ release) stage,
      length-append epoch release,
      length-append (flat_map (number_bytes 1) (trim r.release)) (0 ∷ []),
    )

key_and_zeros : (bytes : List ℕ) (r : Record) → Derives bytes r → 2 * (length (key_bytes r) + length (drop (length (trim r.release)) r.release)) ≤ 14 + 3 * length bytes
key_and_zeros bytes r d =
    let stage = subst (λ m. length (needed_bytes (stage_rank (stage_of m r.pre r.dev r.post r.max)).1) ≤ length d.p) (sym d.no_min)
    (subst (λ m. length (needed_bytes (stage_rank (stage_of None r.pre r.dev r.post m)).1) ≤ length d.p) (sym d.no_max) (stage_short d.p (d.q ++ (d.d ++ (d.l ++ d.w2))) r.pre r.dev r.post d.pre)) in
    let post = subst (λ m. length (needed_bytes (post_rank (post_of m r.post)).1) ≤ length d.q) (sym d.no_max) (post_short d.q (d.d ++ (d.l ++ d.w2)) r.post d.post) in
    let dev = subst (λ m. length (needed_bytes (dev_rank (dev_of m r.dev)).1) ≤ length d.d) (sym d.no_min) (dev_short d.d (d.l ++ d.w2) r.dev d.dev) in
    omega (
      arith,
      ap length d.decomposition,
      length-append d.w1 (d.v ++ (d.e ++ (d.n ++ (d.p ++ (d.q ++ (d.d ++ (d.l ++ d.w2))))))),
      length-append d.v (d.e ++ (d.n ++ (d.p ++ (d.q ++ (d.d ++ (d.l ++ d.w2)))))),
      length-append d.e (d.n ++ (d.p ++ (d.q ++ (d.d ++ (d.l ++ d.w2))))),
      length-append d.n (d.p ++ (d.q ++ (d.d ++ (d.l ++ d.w2)))),
      length-append d.p (d.q ++ (d.d ++ (d.l ++ d.w2))),
      length-append d.q (d.d ++ (d.l ++ d.w2)),
      length-append d.d (d.l ++ d.w2),
      length-append d.l d.w2,
      key_long r,
      cut_short r.release,
      numbers_short d.n r.release d.release,
      epoch_needed d.e r.epoch d.epoch,
      stage,
      post,
      dev,
      local_short d.l r.local d.local,
    )

pub key_bound : (bytes : List ℕ) (r : Record) → Derives bytes r → length (key_bytes r) ≤ 7 + 3 * length bytes / 2
key_bound bytes r d = omega (arith, key_and_zeros bytes r d)

pub compiled_bound : (bytes : List ℕ) (r : Record) → Derives bytes r → length (compiled_bytes r) ≤ 8 + 3 * length bytes / 2
compiled_bound bytes r d =
    let zeros : List ℕ = drop (length (trim r.release)) r.release in
    let count : length (zero_bytes r.release) ≡ length zeros = length-map zeros (λ (n : ℕ). 1) in
    omega (arith, length-append (key_bytes r) (zero_bytes r.release), count, key_and_zeros bytes r d)
