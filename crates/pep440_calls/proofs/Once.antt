-- Bytes mean one version, list or range, or are refused for one reason, and never both.
use Rattle.std.proofs.Common.{◌≡◌, ◌≢◌, ℕ, List, Option, Some, None, IfSome, codes, is_none, false, refl, sym, subst, inl, inr, ◌⊎◌, ◌∙◌, ◌∷◌, [], Bool, true, ap, unwrap_or, Result, Ok, Err}
use Rattle.std.proofs.lemmas.Str.{IsUtf8-from_ascii, IsUtf8-from_is_utf8, is_utf8-from_IsUtf8}
use Rattle.std.specs.Str.{IsUtf8, is_utf8}
use Rattle.pep440_rs.proofs.Reread.Again.{operator_chars}
use Rattle.pep440_rs.proofs.Reread.Plain.{all_ascii}
use Rattle.pep440_rs.proofs.Reread.Shown.{operator_shown, shown_low}
use Rattle.pep440_rs.specs.Lists.ListErrorTexts.{list_rejection_text}
use Rattle.pep440_rs.specs.Lists.ListGrammar.{PieceRejection, RejectsList, DerivesList}
use Rattle.pep440_rs.specs.Operators.{operator_text, Spells}
use Rattle.pep440_rs.specs.Specifiers.SpecifierGrammar.{is_operator_char, RejectsSpecifier, SpecifierRejection}
use Rattle.pep440_rs.specs.declared.specifier.operator.Operator.{Operator}
use Rattle.pep440_version.specs.ErrorTexts.{rejection_text, pattern_rejection_text}
use Rattle.pep440_version.specs.Rejections.{PatternRejection, Rejection, Rejects, RejectsPattern}
use Rattle.pep440_calls.specs.CallerBytes.{RejectsString, RejectsListString, ExplainsString, ExplainsListString, BytesDenote, BytesDenoteList, StringDenotesList, StringDenotes, RejectsBytes, RejectsListBytes, ExplainsBytes, ExplainsListBytes}
use Rattle.pep440_calls.specs.CallResults.{Combines, ExplainsSpecifier, IsOperator, IsRangeLines, IsSpecifier, LacksRange, RejectsOperand, RejectsOperator, RejectsPatternBytes, RejectsSpecifierBytes, StringDenotesPattern}
use Rattle.pep440_rs.specs.ErrorTexts.{specifier_rejection_text}
use Rattle.pep440_calls.specs.Explanations.{ExplainsPattern}
use Rattle.std.specs.Prelude.{Ok, slice_get}
use Rattle.pep440_compiled.proofs.Fronts.{one_denoted}
use Rattle.pep440_compiled.proofs.Listed.{one_denoted_list}
use Rattle.pep440_compiled.specs.Lists.{DenotesList, HasListFormat}
use Rattle.pep440_compiled.specs.Version.{DenotesVersion, HasVersionFormat}
use Rattle.pep440_rs.proofs.Reading.OneMeaning.{either_list, not_both_list, one_list, one_list_refusal}
use Rattle.pep440_rs.specs.Bounds.{Segments, list_range, range_of}
use Rattle.pep440_rs.specs.RangeLines.{range_lines}
use Rattle.pep440_rs.specs.Specifiers.{Spec, print_spec}
use Rattle.pep440_version.proofs.Reading.Agreement.{one_record, only, one_pattern}
use Rattle.pep440_version.proofs.Rejections.ExactlyOne.{not_both, one_or_other, one_refusal, not_both_pattern, one_or_other_pattern}
use Rattle.pep440_version.specs.Grammar.{Derives}
use Rattle.pep440_version.specs.Record.{Record}
use Rattle.pep440_version.specs.Whole.{parse_epoch_and_release, read_version}
use Rattle.pep440_rs.proofs.Reading.Spelled.{none_spelled, read_spelled, spelled_read}
use Rattle.pep440_rs.specs.Build.{BuildRejection, built_pattern}
use Rattle.pep440_rs.specs.Specifiers.SpecifierReading.{read_operator}
use Rattle.pep440_version.specs.Patterns.{DerivesPattern}

-- ---- bytes that are refused, by the errors of the readers

pub no_text : (bytes : List ℕ) → (¬ IsUtf8 bytes) → RejectsString bytes
no_text bytes not_utf8 = (codes "not UTF-8", inl (not_utf8, refl))

pub no_list_text : (bytes : List ℕ) → (¬ IsUtf8 bytes) → RejectsListString bytes
no_list_text bytes not_utf8 = (codes "not UTF-8", inl (not_utf8, refl))

-- an error that isn't 'out of memory' tells why its text is refused
pub refuses : (bytes text : List ℕ) (o : Option Rejection) → text ≡ bytes → IsUtf8 bytes → is_none o ≡ false → IfSome o (Rejects text) → RejectsString bytes
refuses bytes text None same utf8 some why = cc some
refuses bytes text (Some f) same utf8 some why = (rejection_text f, inr (utf8, f, rw same at why, refl))

pub refuses_list : (bytes text : List ℕ) (o : Option PieceRejection) → text ≡ bytes → IsUtf8 bytes → o ≢ None → IfSome o (RejectsList text) → RejectsListString bytes
refuses_list bytes text None same utf8 some why = absurd (some refl)
refuses_list bytes text (Some f) same utf8 some why = (list_rejection_text f bytes, inr (utf8, f, rw same at why, refl))

pub refuses_pattern : (bytes text : List ℕ) (o : Option PatternRejection) → text ≡ bytes → IsUtf8 bytes → is_none o ≡ false → IfSome o (RejectsPattern text) → RejectsPatternBytes bytes
refuses_pattern bytes text None same utf8 some why = cc some
refuses_pattern bytes text (Some f) same utf8 some why = inr (utf8, f, rw same at why)

operator_is_utf8 : (o : Operator) → IsUtf8 (operator_text o)
operator_is_utf8 o = IsUtf8-from_ascii (operator_text o) (all_ascii is_operator_char (λ c is. shown_low c (operator_shown c is)) (operator_text o) (operator_chars o))

pub no_operator : (bytes : List ℕ) → (¬ IsUtf8 bytes) → ¬ IsOperator bytes
no_operator bytes not_utf8 (o, spells) = not_utf8 (subst IsUtf8 (sym spells.0) (operator_is_utf8 o))

-- and its text is the refusal's
pub tells : (bytes text words : List ℕ) (o : Option Rejection) (m : Option (List ℕ)) → text ≡ bytes → IsUtf8 bytes → is_none o ≡ false → IfSome o (Rejects text)
    → IfSome o (λ f. m ≡ Some (rejection_text f)) → IfSome m (λ bs. words ≡ bs) → ExplainsString bytes words
tells bytes text words None m same utf8 some why told shown = cc some
tells bytes text words (Some f) m same utf8 some why told shown = inr (utf8, f, rw same at why, rw told at shown)

pub tells_list : (bytes text words : List ℕ) (o : Option PieceRejection) (m : Option (List ℕ)) → text ≡ bytes → IsUtf8 bytes → o ≢ None → IfSome o (RejectsList text)
    → IfSome o (λ f. m ≡ Some (list_rejection_text f text)) → IfSome m (λ bs. words ≡ bs) → ExplainsListString bytes words
tells_list bytes text words None m same utf8 some why told shown = absurd (some refl)
tells_list bytes text words (Some f) m same utf8 some why told shown =
    let is : words ≡ list_rejection_text f text = rw told at shown in inr (utf8, f, rw same at why, rw same at is)

pub no_specifier_text : (bytes : List ℕ) → (¬ IsUtf8 bytes) → RejectsSpecifierBytes bytes
no_specifier_text bytes not_utf8 = (codes "not UTF-8", inl (not_utf8, refl))

-- an error that isn't 'out of memory' tells why its text is no specifier
pub refuses_specifier : (bytes text : List ℕ) (o : Option SpecifierRejection) → text ≡ bytes → IsUtf8 bytes → o ≢ None → IfSome o (RejectsSpecifier text) → RejectsSpecifierBytes bytes
refuses_specifier bytes text None same utf8 some why = absurd (some refl)
refuses_specifier bytes text (Some f) same utf8 some why = (specifier_rejection_text f, inr (utf8, f, rw same at why, refl))

-- and its text is the refusal's
pub tells_specifier : (bytes text words : List ℕ) (o : Option SpecifierRejection) (m : Option (List ℕ)) → text ≡ bytes → IsUtf8 bytes → o ≢ None → IfSome o (RejectsSpecifier text)
    → IfSome o (λ f. m ≡ Some (specifier_rejection_text f)) → IfSome m (λ bs. words ≡ bs) → ExplainsSpecifier bytes words
tells_specifier bytes text words None m same utf8 some why told shown = absurd (some refl)
tells_specifier bytes text words (Some f) m same utf8 some why told shown = inr (utf8, f, rw same at why, rw told at shown)

pub tells_pattern : (bytes text words : List ℕ) (o : Option PatternRejection) (m : Option (List ℕ)) → text ≡ bytes → IsUtf8 bytes → is_none o ≡ false → IfSome o (RejectsPattern text)
    → IfSome o (λ f. m ≡ Some (pattern_rejection_text f)) → IfSome m (λ bs. words ≡ bs) → ExplainsPattern bytes words
tells_pattern bytes text words None m same utf8 some why told shown = cc some
tells_pattern bytes text words (Some f) m same utf8 some why told shown = inr (utf8, f, rw same at why, rw told at shown)

-- ---- each of them, once

pub no_utf8 : (bytes : List ℕ) → is_utf8 bytes ≡ false → ¬ IsUtf8 bytes
no_utf8 bytes is utf8 = cc (sym (is_utf8-from_IsUtf8 bytes utf8) ∙ is)

-- ---- versions

one_string : (bytes : List ℕ) (r q : Record) → StringDenotes bytes r → StringDenotes bytes q → r ≡ q
one_string bytes r q (u, means) (v, other) = one_record bytes r q means other

pub version_format : (bytes : List ℕ) (r : Record) → DenotesVersion bytes r → HasVersionFormat bytes
version_format bytes r d = ap (λ l. slice_get l 0) d.same

no_digit : (bytes : List ℕ) (r : Record) → read_version (4 ∷ bytes) ≡ Ok r → ⊥
unfolding parse_epoch_and_release
no_digit bytes r is = cc is

-- no string of a version begins with the format byte
pub no_format : (bytes : List ℕ) (r : Record) → Derives bytes r → HasVersionFormat bytes → ⊥
no_format [] r d format = cc format
no_format (b ∷ bytes) r d format =
    let first : b ≡ 4 = ap (λ o. unwrap_or o 0) format in
    no_digit bytes r (only (4 ∷ bytes) r (subst (λ n. Derives (n ∷ bytes) r) first d))

pub one_version : (bytes : List ℕ) (r q : Record) → BytesDenote bytes r → BytesDenote bytes q → r ≡ q
one_version bytes r q (inl (other, means)) (inl (again, also)) = one_string bytes r q means also
one_version bytes r q (inl (other, means)) (inr e) = absurd (other (version_format bytes q e))
one_version bytes r q (inr d) (inl (other, also)) = absurd (other (version_format bytes r d))
one_version bytes r q (inr d) (inr e) = one_denoted bytes r q d e

one_string_why : (bytes words others : List ℕ) → ExplainsString bytes words → ExplainsString bytes others → words ≡ others
one_string_why bytes words others (inl (stray, w)) (inl (again, o)) = w ∙ sym o
one_string_why bytes words others (inl (stray, w)) (inr (utf8, g, other, o)) = absurd (stray utf8)
one_string_why bytes words others (inr (utf8, f, why, w)) (inl (stray, o)) = absurd (stray utf8)
one_string_why bytes words others (inr (utf8, f, why, w)) (inr (again, g, other, o)) = w ∙ ap rejection_text (one_refusal bytes f g why other) ∙ sym o

pub one_why : (bytes words others : List ℕ) → ExplainsBytes bytes words → ExplainsBytes bytes others → words ≡ others
one_why bytes words others (inl (plain, w)) (inl (again, o)) = one_string_why bytes words others w o
one_why bytes words others (inl (plain, w)) (inr (format, none, o)) = absurd (plain format)
one_why bytes words others (inr (format, none, w)) (inl (plain, o)) = absurd (plain format)
one_why bytes words others (inr (format, none, w)) (inr (again, also, o)) = w ∙ sym o

of_text : (bytes : List ℕ) → (¬ HasVersionFormat bytes) → IsUtf8 bytes → ((r : Record) × Derives bytes r) ⊎ ((f : Rejection) × Rejects bytes f) → ((r : Record) × BytesDenote bytes r) ⊎ RejectsBytes bytes
of_text bytes plain utf8 (inl (r, means)) = inl (r, inl (plain, (utf8, means)))
of_text bytes plain utf8 (inr (f, why)) = inr (rejection_text f, inl (plain, inr (utf8, f, why, refl)))

either_by : (bytes : List ℕ) → (¬ HasVersionFormat bytes) → (b : Bool) → is_utf8 bytes ≡ b → ((r : Record) × BytesDenote bytes r) ⊎ RejectsBytes bytes
either_by bytes plain true is = of_text bytes plain (IsUtf8-from_is_utf8 bytes is) (one_or_other bytes)
either_by bytes plain false is = let why = no_text bytes (no_utf8 bytes is) in inr (why.0, inl (plain, why.1))

pub either_version : (bytes : List ℕ) → (¬ HasVersionFormat bytes) → ((r : Record) × BytesDenote bytes r) ⊎ RejectsBytes bytes
either_version bytes plain = either_by bytes plain (is_utf8 bytes) refl

never_both_strings : (bytes : List ℕ) (words : List ℕ) (r : Record) → StringDenotes bytes r → ExplainsString bytes words → ⊥
never_both_strings bytes words r (utf8, means) (inl (stray, w)) = stray utf8
never_both_strings bytes words r (utf8, means) (inr (again, f, why, w)) = not_both bytes r f means why

pub never_both : (bytes : List ℕ) (r : Record) → BytesDenote bytes r → RejectsBytes bytes → ⊥
never_both bytes r (inl (plain, means)) (words, inl (again, why)) = never_both_strings bytes words r means why
never_both bytes r (inl (plain, means)) (words, inr (format, none, w)) = plain format
never_both bytes r (inr d) (words, inl (plain, why)) = plain (version_format bytes r d)
never_both bytes r (inr d) (words, inr (format, none, w)) = none r d

-- ---- lists

pub list_format : (bytes : List ℕ) (l : List Spec) → DenotesList bytes l → HasListFormat bytes
list_format bytes l (inl d) = inl (ap (λ b. slice_get b 0) d.same)
list_format bytes l (inr d) = inr (ap (λ b. slice_get b 0) d.same)

pub one_bytes_list : (bytes : List ℕ) (l m : List Spec) → BytesDenoteList bytes l → BytesDenoteList bytes m → l ≡ m
one_bytes_list bytes l m (inl (plain, (u, means))) (inl (again, (v, also))) = one_list bytes l m means also
one_bytes_list bytes l m (inl (plain, means)) (inr e) = absurd (plain (list_format bytes m e))
one_bytes_list bytes l m (inr d) (inl (plain, also)) = absurd (plain (list_format bytes l d))
one_bytes_list bytes l m (inr d) (inr e) = one_denoted_list bytes l m d e

one_list_string_why : (bytes words others : List ℕ) → ExplainsListString bytes words → ExplainsListString bytes others → words ≡ others
one_list_string_why bytes words others (inl (stray, w)) (inl (again, o)) = w ∙ sym o
one_list_string_why bytes words others (inl (stray, w)) (inr (utf8, g, other, o)) = absurd (stray utf8)
one_list_string_why bytes words others (inr (utf8, f, why, w)) (inl (stray, o)) = absurd (stray utf8)
one_list_string_why bytes words others (inr (utf8, f, why, w)) (inr (again, g, other, o)) =
    w ∙ ap (λ (h : PieceRejection). list_rejection_text h bytes) (one_list_refusal bytes f g why other) ∙ sym o

pub one_list_why : (bytes words others : List ℕ) → ExplainsListBytes bytes words → ExplainsListBytes bytes others → words ≡ others
one_list_why bytes words others (inl (plain, w)) (inl (again, o)) = one_list_string_why bytes words others w o
one_list_why bytes words others (inl (plain, w)) (inr (format, none, o)) = absurd (plain format)
one_list_why bytes words others (inr (format, none, w)) (inl (plain, o)) = absurd (plain format)
one_list_why bytes words others (inr (format, none, w)) (inr (again, also, o)) = w ∙ sym o

of_list : (bytes : List ℕ) → (¬ HasListFormat bytes) → IsUtf8 bytes → ((l : List Spec) × DerivesList bytes l) ⊎ ((f : PieceRejection) × RejectsList bytes f) → ((l : List Spec) × BytesDenoteList bytes l) ⊎ RejectsListBytes bytes
of_list bytes plain utf8 (inl (l, means)) = inl (l, inl (plain, (utf8, means)))
of_list bytes plain utf8 (inr (f, why)) = inr (list_rejection_text f bytes, inl (plain, inr (utf8, f, why, refl)))

either_list_by : (bytes : List ℕ) → (¬ HasListFormat bytes) → (b : Bool) → is_utf8 bytes ≡ b → ((l : List Spec) × BytesDenoteList bytes l) ⊎ RejectsListBytes bytes
either_list_by bytes plain true is = of_list bytes plain (IsUtf8-from_is_utf8 bytes is) (either_list bytes)
either_list_by bytes plain false is = let why = no_list_text bytes (no_utf8 bytes is) in inr (why.0, inl (plain, why.1))

pub either_bytes_list : (bytes : List ℕ) → (¬ HasListFormat bytes) → ((l : List Spec) × BytesDenoteList bytes l) ⊎ RejectsListBytes bytes
either_bytes_list bytes plain = either_list_by bytes plain (is_utf8 bytes) refl

never_both_list_strings : (bytes : List ℕ) (words : List ℕ) (l : List Spec) → StringDenotesList bytes l → ExplainsListString bytes words → ⊥
never_both_list_strings bytes words l (utf8, means) (inl (stray, w)) = stray utf8
never_both_list_strings bytes words l (utf8, means) (inr (again, f, why, w)) = not_both_list bytes l f means why

pub never_both_lists : (bytes : List ℕ) (l : List Spec) → BytesDenoteList bytes l → RejectsListBytes bytes → ⊥
never_both_lists bytes l (inl (plain, means)) (words, inl (again, why)) = never_both_list_strings bytes words l means why
never_both_lists bytes l (inl (plain, means)) (words, inr (format, none, w)) = plain format
never_both_lists bytes l (inr d) (words, inl (plain, why)) = plain (list_format bytes l d)
never_both_lists bytes l (inr d) (words, inr (format, none, w)) = none l d

-- ---- ranges

abbrev text_of : Option Segments → List ℕ
text_of None = []
text_of (Some range) = range_lines range

same_range : (bytes : List ℕ) (l m : List Spec) (o p : Option Segments) → BytesDenoteList bytes l → BytesDenoteList bytes m → list_range range_of l ≡ o → list_range range_of m ≡ p → o ≡ p
same_range bytes l m o p means other is also = sym is ∙ ap (λ (list : List Spec). list_range range_of list) (one_bytes_list bytes l m means other) ∙ also

pub one_range : (bytes words others : List ℕ) → IsRangeLines bytes words → IsRangeLines bytes others → words ≡ others
one_range bytes words others (s, (l, means, is), w) (t, (m, other, also), o) = w ∙ ap text_of (same_range bytes l m (Some s) (Some t) means other is also) ∙ sym o

range_by_option : (bytes : List ℕ) (l : List Spec) (o : Option Segments) → BytesDenoteList bytes l → list_range range_of l ≡ o → ((words : List ℕ) × IsRangeLines bytes words) ⊎ LacksRange range_of bytes
range_by_option bytes l None means is = inr (l, means, is)
range_by_option bytes l (Some range) means is = inl (range_lines range, (range, (l, means, is), refl))

or_none : (bytes : List ℕ) → ((words : List ℕ) × IsRangeLines bytes words) ⊎ LacksRange range_of bytes → ((words : List ℕ) × IsRangeLines bytes words) ⊎ (RejectsListBytes bytes ⊎ LacksRange range_of bytes)
or_none bytes (inl found) = inl found
or_none bytes (inr none) = inr (inr none)

range_of_either : (bytes : List ℕ) → ((l : List Spec) × BytesDenoteList bytes l) ⊎ RejectsListBytes bytes → ((words : List ℕ) × IsRangeLines bytes words) ⊎ (RejectsListBytes bytes ⊎ LacksRange range_of bytes)
range_of_either bytes (inr why) = inr (inl why)
range_of_either bytes (inl (l, means)) = or_none bytes (range_by_option bytes l (list_range range_of l) means refl)

pub either_range : (bytes : List ℕ) → (¬ HasListFormat bytes) → ((words : List ℕ) × IsRangeLines bytes words) ⊎ (RejectsListBytes bytes ⊎ LacksRange range_of bytes)
either_range bytes plain = range_of_either bytes (either_bytes_list bytes plain)

pub range_of_list : (bytes words : List ℕ) → IsRangeLines bytes words → RejectsListBytes bytes → ⊥
range_of_list bytes words (s, (l, means, is), w) why = never_both_lists bytes l means why

pub no_range_of_list : (bytes : List ℕ) → LacksRange range_of bytes → RejectsListBytes bytes → ⊥
no_range_of_list bytes (l, means, is) why = never_both_lists bytes l means why

pub range_or_none : (bytes words : List ℕ) → IsRangeLines bytes words → LacksRange range_of bytes → ⊥
range_or_none bytes words (s, (l, means, is), w) (m, other, none) = cc (same_range bytes l m (Some s) None means other is none)

-- ---- bytes denote one pattern or none; an operator and a pattern make one specifier, or none for one reason

-- ---- patterns

pub one_bytes_pattern : (bytes : List ℕ) (r q : Record) (s t : Bool) → StringDenotesPattern bytes r s → StringDenotesPattern bytes q t → (r ≡ q) × (s ≡ t)
one_bytes_pattern bytes r q s t (u, means) (v, other) = one_pattern bytes r q s t means other

of_pattern : (bytes : List ℕ) → IsUtf8 bytes → ((r : Record) × (s : Bool) × DerivesPattern bytes r s) ⊎ ((f : PatternRejection) × RejectsPattern bytes f)
    → ((r : Record) × (s : Bool) × StringDenotesPattern bytes r s) ⊎ RejectsPatternBytes bytes
of_pattern bytes utf8 (inl (r, s, means)) = inl (r, s, (utf8, means))
of_pattern bytes utf8 (inr (f, why)) = inr (inr (utf8, f, why))

either_pattern_by : (bytes : List ℕ) (b : Bool) → is_utf8 bytes ≡ b → ((r : Record) × (s : Bool) × StringDenotesPattern bytes r s) ⊎ RejectsPatternBytes bytes
either_pattern_by bytes true is = of_pattern bytes (IsUtf8-from_is_utf8 bytes is) (one_or_other_pattern bytes)
either_pattern_by bytes false is = inr (inl (no_utf8 bytes is))

pub either_bytes_pattern : (bytes : List ℕ) → ((r : Record) × (s : Bool) × StringDenotesPattern bytes r s) ⊎ RejectsPatternBytes bytes
either_bytes_pattern bytes = either_pattern_by bytes (is_utf8 bytes) refl

pub never_both_patterns : (bytes : List ℕ) (r : Record) (s : Bool) → StringDenotesPattern bytes r s → RejectsPatternBytes bytes → ⊥
never_both_patterns bytes r s (utf8, means) (inl stray) = stray utf8
never_both_patterns bytes r s (utf8, means) (inr (again, f, why)) = not_both_pattern bytes r s f means why

-- ---- specifiers

one_operator : (text : List ℕ) (o p : Operator) → Spells text o → Spells text p → o ≡ p
one_operator text o p spells also =
    let first : read_operator text ≡ Some o = spelled_read text o spells in
    let second : read_operator text ≡ Some p = spelled_read text p also in cc

one_combination : (operator version : List ℕ) (x y : Result Spec BuildRejection) → Combines operator version x → Combines operator version y → x ≡ y
one_combination operator version x y (o, r, s, spells, means, is) (p, q, t, also, other, at) =
    let same : o ≡ p = one_operator operator o p spells also in
    let both : (r ≡ q) × (s ≡ t) = one_bytes_pattern version r q s t means other in
    is ∙ (λ i. built_pattern (same i) (both.0 i) (both.1 i)) ∙ sym at

pub one_specifier_text : (operator version a b : List ℕ) → IsSpecifier operator version a → IsSpecifier operator version b → a ≡ b
one_specifier_text operator version a b (s, makes, is) (t, other, at) =
    let both = one_combination operator version (Ok s) (Ok t) makes other in
    let same : s ≡ t = cc in is ∙ ap print_spec same ∙ sym at

pub never_rejected : (operator version bytes : List ℕ) → IsSpecifier operator version bytes → RejectsOperator operator version → ⊥
never_rejected operator version bytes (s, (o, r, star, spells, means, makes), is) (inl none) = none (o, spells)
never_rejected operator version bytes (s, makes, is) (inr (why, other)) = let both = one_combination operator version (Ok s) (Err why) makes other in cc

pub never_without_operand : (operator version bytes : List ℕ) → IsSpecifier operator version bytes → RejectsOperand operator version → ⊥
never_without_operand operator version bytes (s, (o, r, star, spells, means, makes), is) (known, why) = never_both_patterns version r star means why

pub one_specifier_error : (operator version : List ℕ) → RejectsOperator operator version → RejectsOperand operator version → ⊥
one_specifier_error operator version (inl none) (known, why) = none known
one_specifier_error operator version (inr (b, (o, r, star, spells, means, makes))) (known, why) = never_both_patterns version r star means why

by_built : (operator version : List ℕ) (o : Operator) (r : Record) (star : Bool) → Spells operator o → StringDenotesPattern version r star → (x : Result Spec BuildRejection)
    → built_pattern o r star ≡ x → ((bytes : List ℕ) × IsSpecifier operator version bytes) ⊎ (RejectsOperator operator version ⊎ RejectsOperand operator version)
by_built operator version o r star spells means (Ok s) is = inl (print_spec s, (s, (o, r, star, spells, means, sym is), refl))
by_built operator version o r star spells means (Err why) is = inr (inl (inr (why, (o, r, star, spells, means, sym is))))

by_pattern : (operator version : List ℕ) (o : Operator) → Spells operator o → ((r : Record) × (s : Bool) × StringDenotesPattern version r s) ⊎ RejectsPatternBytes version
    → ((bytes : List ℕ) × IsSpecifier operator version bytes) ⊎ (RejectsOperator operator version ⊎ RejectsOperand operator version)
by_pattern operator version o spells (inl (r, star, means)) = by_built operator version o r star spells means (built_pattern o r star) refl
by_pattern operator version o spells (inr why) = inr (inr ((o, spells), why))

by_operator : (operator version : List ℕ) (x : Option Operator) → read_operator operator ≡ x
    → ((bytes : List ℕ) × IsSpecifier operator version bytes) ⊎ (RejectsOperator operator version ⊎ RejectsOperand operator version)
by_operator operator version None is = inr (inl (inl (λ known. none_spelled operator is known.0 known.1)))
by_operator operator version (Some o) is = by_pattern operator version o (read_spelled operator o is) (either_bytes_pattern version)

pub either_specifier_text : (operator version : List ℕ) → ((bytes : List ℕ) × IsSpecifier operator version bytes) ⊎ (RejectsOperator operator version ⊎ RejectsOperand operator version)
either_specifier_text operator version = by_operator operator version (read_operator operator) refl
