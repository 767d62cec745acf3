-- A string has the parts of a requirement if and only if the grammar derives it. Lines that are read one after another. Folders of names.
-- Different bytes are different JSON strings: each byte can be read again at the front. Tabs and printable ASCII are UTF-8.
use Rattle.std.proofs.Common.{Bool, List, None, Ok, Option, Some, [], ap, false, get_or, if◌then◌else◌, inl, inr, length, map, not, option_map, refl, subst, sym, take, take_all, true, ℕ, ◌&&◌, ◌++◌, ◌+◌, ◌<◌, ◌==◌, ◌||◌, ◌∙◌, ◌∷◌, ◌≡◌, ◌≤◌, ◌⊎◌, ◌-◌, arith, ne_eqb, append_assoc, cond, length-append, nat_le, nat_lt, ◌%◌, ◌*◌, ◌/◌}
use Rattle.std.proofs.lemmas.Bool.{and_parts, eqb-true, not-false, not-true, or_cases, or_parts, true≢false, cond-false, cond-true, le-ltb, lt-ltb, ltb-false, ltb-true, ne_eqb}
use Rattle.std.proofs.lemmas.List.{append-nil, map-append, take_more}
use Rattle.std.specs.List.{AllZip, flat_map, list_all, list_any, All, prefix_len}
use Rattle.pep440_pick.specs.RequirementGrammar.{DerivesRequirement, Needed, has_byte}
use Rattle.pep440_version.proofs.Reading.Prefixes.{lead-all, lead-run, past-run, past-stops}
use Rattle.pep440_version.proofs.Reading.ReadIsDerived.{split}
use Rattle.pep440_version.specs.Grammar.{starts}
use Rattle.pep440_version.specs.Reading.{lead, past}
use Rattle.pyver_requirements.proofs.Grouped.{is_nil}
use Rattle.pyver_findings.specs.FindingLaws.{AreParts, AreSpaces, DerivesString, FitsUrl, HasMarker, IsLinked, IsMarkerPart, IsUrl, StringsHaveGrammar}
use Rattle.pyver_findings.specs.LineMeanings.{IsMeaning, IsPlain, LineMeaning, has_right_url, is_plain_byte}
use Rattle.pyver_requirements.proofs.MarkerReadings.{markers_are_read, read_markers_are_derived}
use Rattle.pyver_requirements.specs.LineParts.{LineParts, behind_url, is_blank_byte, is_list_byte, is_url_byte, line_parts, parts_before, parts_behind, skip_blanks, url_parts}
use Rattle.pyver_requirements.specs.MarkerGrammar.{DenotesMarker, Marker, terms}
use Rattle.pyver_requirements.specs.MarkerReading.{marker}
use Rattle.pyver_requirements.specs.MarkerTerms.{terms_text}
use Rattle.std.proofs.lemmas.List.Concat.{flat_map-append}
use Rattle.std.proofs.lemmas.Slice.Zip.{all_zipped_more}
use Rattle.pyver_findings.specs.FileLines.{FileLine}
use Rattle.pyver_findings.specs.Views.{KeepsReadings, demand_of, finding_of}
use Rattle.pyver_findings.specs.Reports.{demands_in, invalid_in, left_out_in}
use Rattle.pyver_findings.specs.declared.report.Readings.{Readings}
use Rattle.std.proofs.lemmas.List.Folds.{list_any-append}
use Rattle.pep440_rs.specs.Blanks.{opens}
use Rattle.pyver_findings.specs.NamedFiles.{constraints_path, folder}
use Rattle.pyver_requirements.specs.LineKinds.{is_conflict_mark, Invalid, LineKind, Location, Requirement, Variable, first_word, has_variable, is_location, line_kind, option_kind, right_kind, unless_fault}
use Rattle.pyver_requirements.specs.LogicalLines.{is_utf16}
use Rattle.pyver_requirements.specs.Options.{FaultPosition, options_fault, options_in}
use Rattle.pyver_requirements.specs.declared.line_fault.LineFault.TheVariants.{ConflictMark, Utf16}
use Rattle.std.proofs.lemmas.List.Elements.{All-cons, All-head, All-nil, All-tail}
use Rattle.std.specs.Str.{IsUtf8, is_utf8}
use Rattle.cli_io.specs.Escapes.{hex_digit, hex_digits, is_printable}
use Rattle.pyver_findings.specs.ReportTexts.{JsonStringsDiffer, json_byte}
use Rattle.std.proofs.lemmas.List.Sums.{prefix_len-le-length}
use Rattle.std.proofs.lemmas.Str.{IsUtf8-from_ascii}
use Rattle.std.proofs.lemmas.Str.Ascii.{IsAscii-from_all}
use Rattle.pep440_version.proofs.Reading.WordAsPrefix.{all_prefix}

-- ---- bytes

-- what has neither `;` nor `@` goes on as a list
list_bytes : (text : List ℕ) → has_byte 59 text ≡ false → has_byte 64 text ≡ false → list_all is_list_byte text ≡ true
list_bytes [] a b = refl
list_bytes (x ∷ rest) a b =
    let s = or_parts (x == 59) (has_byte 59 rest) a in
    let t = or_parts (x == 64) (has_byte 64 rest) b in
    let later = list_bytes rest s.1 t.1 in
    λ j. not (t.0 j || s.0 j) && later j

derived_bytes : (front : List ℕ) (n : Needed) → DerivesRequirement front n → list_all is_list_byte front ≡ true
derived_bytes front n d = list_bytes front d.1.plain.marker d.1.plain.url

no_blank : (url : List ℕ) → list_all is_url_byte url ≡ true → list_any is_blank_byte url ≡ false
no_blank [] all = refl
no_blank (x ∷ url) all =
    let both = and_parts (is_url_byte x) (list_all is_url_byte url) all in
    let here = not-true (is_blank_byte x) both.0 in
    let later = no_blank url both.1 in
    λ j. here j || later j

all_url : (url : List ℕ) → list_any is_blank_byte url ≡ false → list_all is_url_byte url ≡ true
all_url [] none = refl
all_url (x ∷ url) none =
    let both = or_parts (is_blank_byte x) (list_any is_blank_byte url) none in
    let later = all_url url both.1 in
    λ j. not (both.0 j) && later j

-- ---- what the grammar derives

parts_of_front : (front rest : List ℕ) → list_all is_list_byte front ≡ true → starts is_list_byte rest ≡ false → line_parts (front ++ rest) ≡ parts_before (front ++ rest) front rest
parts_of_front front rest all ends = λ j. parts_before (front ++ rest) (lead-run is_list_byte front rest all ends j) (past-run is_list_byte front rest all ends j)

marker_of : (p : LineParts) (rest : List ℕ) (m : Marker) → p.marker ≡ Some rest → DenotesMarker rest m → (k : Option (List ℕ)) × HasMarker p k
marker_of p rest m is denotes = (Some (terms_text (terms m)), ap (option_map marker) is ∙ ap Some (markers_are_read rest m denotes))

listed : (front rest : List ℕ) (n : Needed) → IsPlain front → DerivesRequirement front n → IsMarkerPart rest → AreParts (line_parts (front ++ rest))
listed front rest n plain d (inl none) =
    subst (λ r. AreParts (line_parts (front ++ r))) (sym none)
    (subst AreParts (sym (parts_of_front front [] (derived_bytes front n d) refl)) (plain, (n, d, ((None, refl), tt))))
listed front rest n plain d (inr (text, m, is, denotes)) =
    subst (λ r. AreParts (line_parts (front ++ r))) (sym is)
    (subst AreParts (sym (parts_of_front front (59 ∷ text) (derived_bytes front n d) refl)) (plain, (n, d, (marker_of (parts_before (front ++ 59 ∷ text) front (59 ∷ text)) text m refl denotes, tt))))

starts_url : (url later : List ℕ) → IsUrl url → starts is_blank_byte (url ++ later) ≡ false
starts_url [] later (some, all) = absurd (some refl)
starts_url (x ∷ url) later (some, all) = not-true (is_blank_byte x) (and_parts (is_url_byte x) (list_all is_url_byte url) all).0

module _ (front blanks url more rest : List ℕ) (n : Needed) (plain : IsPlain front) (d : DerivesRequirement front n) (lists : n.specifiers ≡ []) (before : AreSpaces blanks) (is_url : IsUrl url) (behind : AreSpaces more) where
  abbrev tail : List ℕ
  tail = url ++ (more ++ rest)

  abbrev text : List ℕ
  text = front ++ 64 ∷ (blanks ++ tail)

  fits : FitsUrl (Some url) n
  fits = let none = no_blank url is_url.1 in (is_url.0, λ j. (length (lists j) == 0) && not (none j))

  linked_by : starts is_url_byte (more ++ rest) ≡ false → starts is_blank_byte rest ≡ false → line_parts text ≡ parts_behind text front tail rest
  linked_by ends_url ends_more =
      parts_of_front front (64 ∷ (blanks ++ tail)) (derived_bytes front n d) refl
      ∙ ap (url_parts text front) (past-run is_blank_byte blanks tail before (starts_url url (more ++ rest) is_url))
      ∙ ap (parts_behind text front tail) (ap skip_blanks (past-run is_url_byte url (more ++ rest) is_url.1 ends_url) ∙ past-run is_blank_byte more rest behind ends_more)

  url_here : starts is_url_byte (more ++ rest) ≡ false → FitsUrl (Some (lead is_url_byte tail)) n
  url_here ends_url = subst (λ w. FitsUrl (Some w) n) (sym (lead-run is_url_byte url (more ++ rest) is_url.1 ends_url)) fits

ends_blanks : (more rest : List ℕ) → AreSpaces more → ¬ (more ≡ []) → starts is_url_byte (more ++ rest) ≡ false
ends_blanks [] rest all some = absurd (some refl)
ends_blanks (x ∷ more) rest all some = let blank = (and_parts (is_blank_byte x) (list_all is_blank_byte more) all).0 in ap not blank

linked : (text : List ℕ) → IsLinked text → AreParts (line_parts text)
linked text (front, blanks, url, more, rest, is, (plain, (n, d, lists)), before, is_url, behind, inl (no_more, no_rest)) =
    let ends : starts is_url_byte (more ++ rest) ≡ false = subst (λ r. starts is_url_byte (r ++ rest) ≡ false) (sym no_more) (subst (λ r. starts is_url_byte r ≡ false) (sym no_rest) refl) in
    let ends_more : starts is_blank_byte rest ≡ false = subst (λ r. starts is_blank_byte r ≡ false) (sym no_rest) refl in
    let tail = url ++ (more ++ rest) in
    let whole = front ++ 64 ∷ (blanks ++ tail) in
    let same : line_parts text ≡ parts_behind whole front tail [] =
    ap line_parts is ∙ linked_by front blanks url more rest n plain d lists before is_url behind ends ends_more ∙ ap (parts_behind whole front tail) no_rest in
    subst AreParts (sym same) (plain, (n, d, ((None, refl), url_here front blanks url more rest n plain d lists before is_url behind ends)))
linked text (front, blanks, url, more, rest, is, (plain, (n, d, lists)), before, is_url, behind, inr (some, inl no_rest)) =
    let ends = ends_blanks more rest behind some in
    let ends_more : starts is_blank_byte rest ≡ false = subst (λ r. starts is_blank_byte r ≡ false) (sym no_rest) refl in
    let tail = url ++ (more ++ rest) in
    let whole = front ++ 64 ∷ (blanks ++ tail) in
    let same : line_parts text ≡ parts_behind whole front tail [] =
    ap line_parts is ∙ linked_by front blanks url more rest n plain d lists before is_url behind ends ends_more ∙ ap (parts_behind whole front tail) no_rest in
    subst AreParts (sym same) (plain, (n, d, ((None, refl), url_here front blanks url more rest n plain d lists before is_url behind ends)))
linked text (front, blanks, url, more, rest, is, (plain, (n, d, lists)), before, is_url, behind, inr (some, inr (last, m, semicolon, denotes))) =
    let ends = ends_blanks more rest behind some in
    let ends_more : starts is_blank_byte rest ≡ false = subst (λ r. starts is_blank_byte r ≡ false) (sym semicolon) refl in
    let tail = url ++ (more ++ rest) in
    let whole = front ++ 64 ∷ (blanks ++ tail) in
    let same : line_parts text ≡ parts_behind whole front tail (59 ∷ last) =
    ap line_parts is ∙ linked_by front blanks url more rest n plain d lists before is_url behind ends ends_more ∙ ap (parts_behind whole front tail) semicolon in
    subst AreParts (sym same) (plain, (n, d, (marker_of (parts_behind whole front tail (59 ∷ last)) last m refl denotes, url_here front blanks url more rest n plain d lists before is_url behind ends)))

-- ---- what is read

denoted_by : (rest : List ℕ) (k : Option (List ℕ)) → Some (marker rest) ≡ option_map Ok k → (m : Marker) × DenotesMarker rest m
denoted_by rest None has = cc has
denoted_by rest (Some normal) has = let read : marker rest ≡ Ok normal = cc has in let r = read_markers_are_derived rest normal read in (r.0, r.1)

-- a byte that ends a list and is no `@` is `;`
semicolon_is : (b : ℕ) → is_list_byte b ≡ false → (b == 64) ≡ false → b ≡ 59
semicolon_is b ends other = elim (or_cases (b == 64) (b == 59) (not-false ((b == 64) || (b == 59)) ends)) [
  | inl is ↦ absurd (true≢false (sym is ∙ other))
  | inr is ↦ eqb-true b 59 is
]

more_or_none : (more : List ℕ) → ((more ≡ []) × (let none : List ℕ = [] in none ≡ [])) ⊎ ((¬ (more ≡ [])) × IsMarkerPart [])
more_or_none [] = inl (refl, refl)
more_or_none (x ∷ more) = inr ((λ e. cc e), inl refl)

module _ (text : List ℕ) where
  abbrev front : List ℕ
  front = lead is_list_byte text

  module _ (t : List ℕ) (text_is : text ≡ front ++ 64 ∷ t) where
    abbrev rest : List ℕ
    rest = skip_blanks t

    abbrev blanks : List ℕ
    blanks = lead is_blank_byte t

    abbrev url : List ℕ
    url = lead is_url_byte rest

    abbrev more : List ℕ
    more = lead is_blank_byte (past is_url_byte rest)

    split_text : (last : List ℕ) → behind_url rest ≡ last → text ≡ front ++ 64 ∷ (blanks ++ (url ++ (more ++ last)))
    split_text last is =
        text_is
        ∙ ap (λ (r : List ℕ). front ++ 64 ∷ r) (split is_blank_byte t)
        ∙ ap (λ (r : List ℕ). front ++ 64 ∷ (blanks ++ r)) (split is_url_byte rest)
        ∙ ap (λ (r : List ℕ). front ++ 64 ∷ (blanks ++ (url ++ r))) (split is_blank_byte (past is_url_byte rest) ∙ ap (λ (r : List ℕ). more ++ r) is)

    specifiers_none : (n : Needed) (w : List ℕ) → has_right_url w n ≡ true → n.specifiers ≡ []
    specifiers_none n w right = is_nil n.specifiers (and_parts (length n.specifiers == 0) (not (list_any is_blank_byte w)) right).0

    -- before `;` stands a blank
    some_more : (b : ℕ) (last : List ℕ) → behind_url rest ≡ b ∷ last → is_url_byte b ≡ true → ¬ (more ≡ [])
    some_more b last is passes none =
        let ends : starts is_url_byte (past is_url_byte rest) ≡ false = past-stops is_url_byte rest in
        let all : past is_url_byte rest ≡ b ∷ last = split is_blank_byte (past is_url_byte rest) ∙ ap (λ (r : List ℕ). r ++ behind_url rest) none ∙ is in
        true≢false (sym passes ∙ sym (ap (starts is_url_byte) all) ∙ ends)

    by_semicolon : (e : Bool) (b : ℕ) (last : List ℕ) → (b == 59) ≡ e → behind_url rest ≡ b ∷ last
        → AreParts (if e then record { text = text; requirement = front; url = Some url; marker = Some last } else record { text = text; requirement = front; url = Some rest; marker = None }) → DerivesString text
    by_semicolon true b last e is (plain, (n, d, ((k, has), (some, right)))) =
        let semicolon : b ≡ 59 = eqb-true b 59 e in
        let m = denoted_by last k has in
        inr (
          front,
          blanks,
          url,
          more,
          b ∷ last,
          split_text (b ∷ last) is,
          (plain, (n, d, specifiers_none n url right)),
          lead-all is_blank_byte t,
          (some, lead-all is_url_byte rest),
          lead-all is_blank_byte (past is_url_byte rest),
          inr (some_more b last is (ap is_url_byte semicolon), inr (last, m.0, ap (λ c. c ∷ last) semicolon, m.1)),
        )
    by_semicolon false b last e is (plain, (n, d, ((k, has), (some, right)))) =
        let whole = not-true (list_any is_blank_byte rest) (and_parts (length n.specifiers == 0) (not (list_any is_blank_byte rest)) right).1 in
        let none : past is_url_byte rest ≡ [] = sym (ap (past is_url_byte) (append-nil rest)) ∙ past-run is_url_byte rest [] (all_url rest whole) refl in
        let empty : behind_url rest ≡ [] = ap skip_blanks none in
        let same : [] ≡ b ∷ last = sym empty ∙ is in
        cc same

    by_behind : (last : List ℕ) → behind_url rest ≡ last → AreParts (parts_behind text front rest last) → DerivesString text
    by_behind [] is (plain, (n, d, ((k, has), (some, right)))) =
        inr (
          front,
          blanks,
          url,
          more,
          [],
          split_text [] is,
          (plain, (n, d, specifiers_none n url right)),
          lead-all is_blank_byte t,
          (some, lead-all is_url_byte rest),
          lead-all is_blank_byte (past is_url_byte rest),
          more_or_none more,
        )
    by_behind (b ∷ last) is parts = by_semicolon (b == 59) b last refl is parts

  by_byte : (e : Bool) (b : ℕ) (t : List ℕ) → (b == 64) ≡ e → past is_list_byte text ≡ b ∷ t
      → AreParts (if e then url_parts text front (skip_blanks t) else record { text = text; requirement = front; url = None; marker = Some t }) → DerivesString text
  by_byte true b t e is parts =
      let at : b ≡ 64 = eqb-true b 64 e in
      by_behind t (split is_list_byte text ∙ ap (λ (r : List ℕ). front ++ r) (is ∙ ap (λ c. c ∷ t) at)) (behind_url (skip_blanks t)) refl parts
  by_byte false b t e is (plain, (n, d, ((k, has), fits))) =
      let ends : is_list_byte b ≡ false = sym (ap (starts is_list_byte) is) ∙ past-stops is_list_byte text in
      let m = denoted_by t k has in
      inl (front, b ∷ t, split is_list_byte text ∙ ap (λ (r : List ℕ). front ++ r) is, plain, (n, d), inr (t, m.0, ap (λ c. c ∷ t) (semicolon_is b ends e), m.1))

  by_rest : (rest : List ℕ) → past is_list_byte text ≡ rest → AreParts (parts_before text front rest) → DerivesString text
  by_rest [] is (plain, (n, d, more)) = inl (front, [], split is_list_byte text ∙ ap (λ (r : List ℕ). front ++ r) is, plain, (n, d), inl refl)
  by_rest (b ∷ t) is parts = by_byte (b == 64) b t refl is parts

derived : (text : List ℕ) → DerivesString text → AreParts (line_parts text)
derived text (inl (front, rest, is, plain, (n, d), part)) = subst (λ s. AreParts (line_parts s)) (sym is) (listed front rest n plain d part)
derived text (inr is) = linked text is

pub strings_have_grammar : StringsHaveGrammar
strings_have_grammar text = (derived text, by_rest text (past is_list_byte text) refl)

-- what is made of one more
made_more : {X B : Type 0} (f : X → List B) (xs : List X) (x : X) (old new : List B) → new ≡ old ++ f x → old ≡ flat_map f xs → new ≡ flat_map f (xs ++ x ∷ [])
made_more f xs x old new is was =
    is ∙ ap (λ o. o ++ f x) was ∙ ap (λ m. flat_map f xs ++ m) (sym (append-nil (f x))) ∙ sym (flat_map-append f xs (x ∷ []))

-- one line more
pub kept_more : {L : Type 0} (view : L → FileLine) (lines : List L) (i : ℕ) (l : L) (x : LineMeaning) (old new : Readings) → i < length lines → l ≡ get_or lines i l → IsMeaning (view l) x
    → map finding_of new.invalid.items ≡ map finding_of old.invalid.items ++ invalid_in x → map demand_of new.demands.items ≡ map demand_of old.demands.items ++ demands_in x → new.left_out.items ≡ old.left_out.items ++ left_out_in x
    → KeepsReadings (map view (take i lines)) old → KeepsReadings (map view (take (i + 1) lines)) new
kept_more view lines i l x old new inside is reads invalid demands left_out k =
    let taken : map view (take (i + 1) lines) ≡ map view (take i lines) ++ view l ∷ [] = ap (map view) (take_more lines i l inside ∙ ap (λ y. take i lines ++ y ∷ []) (sym is)) ∙ map-append view (take i lines) (l ∷ []) in (
      k.0 ++ x ∷ [],
      subst (λ ls. AllZip IsMeaning ls (k.0 ++ x ∷ [])) (sym taken) (all_zipped_more IsMeaning (map view (take i lines)) k.0 (view l) x k.1 reads),
      made_more invalid_in k.0 x (map finding_of old.invalid.items) (map finding_of new.invalid.items) invalid k.2,
      made_more demands_in k.0 x (map demand_of old.demands.items) (map demand_of new.demands.items) demands k.3,
      made_more left_out_in k.0 x old.left_out.items new.left_out.items left_out k.4,
    )

-- all lines were read
pub kept_all : {L : Type 0} (view : L → FileLine) (lines : List L) (i : ℕ) (kept : Readings) → length lines ≤ i → KeepsReadings (map view (take i lines)) kept → KeepsReadings (map view lines) kept
kept_all view lines i kept end k = subst (λ ls. KeepsReadings (map view ls) kept) (take_all i lines end) k

-- ---- folders of names

abbrev is_slash : ℕ → Bool
is_slash c = c == 47

or_true : (b : Bool) → (b || true) ≡ true
or_true true = refl
or_true false = refl

pub or_false : (b : Bool) → (b || false) ≡ b
or_false true = refl
or_false false = refl

has_slash : (xs : List ℕ) → list_any is_slash (xs ++ 47 ∷ []) ≡ true
has_slash xs = list_any-append is_slash xs (47 ∷ []) ∙ or_true (list_any is_slash xs)

no_slash : (xs : List ℕ) (b : ℕ) → is_slash b ≡ false → list_any is_slash (xs ++ b ∷ []) ≡ list_any is_slash xs
no_slash xs b is = list_any-append is_slash xs (b ∷ []) ∙ (ap (λ t. list_any is_slash xs || (t || false)) is ∙ or_false (list_any is_slash xs))

-- up to a slash that stands last
pub folder_all : (xs : List ℕ) → folder (xs ++ 47 ∷ []) ≡ xs ++ 47 ∷ []
folder_all [] = refl
folder_all (x ∷ xs) = ap (λ t. if t then x ∷ folder (xs ++ 47 ∷ []) else []) (has_slash (x ∷ xs)) ∙ ap (λ t. x ∷ t) (folder_all xs)

-- a byte that is no slash is no part of it
pub folder_less : (xs : List ℕ) (b : ℕ) → is_slash b ≡ false → folder (xs ++ b ∷ []) ≡ folder xs
folder_less [] b is = ap (λ t. if (t || false) then b ∷ [] else []) is
folder_less (x ∷ xs) b is = ap (λ t. if t then x ∷ folder (xs ++ b ∷ []) else []) (no_slash (x ∷ xs) b is) ∙ ap (λ t. if list_any is_slash (x ∷ xs) then x ∷ t else []) (folder_less xs b is)

take_whole : (xs : List ℕ) (n : ℕ) → length xs ≡ n → take n xs ≡ xs
take_whole xs n is = take_all n xs (omega (arith, is))

-- a list by its last element
split_last : (xs : List ℕ) (n : ℕ) → length xs ≡ n + 1 → xs ≡ take n xs ++ get_or xs n 0 ∷ []
split_last xs n is = sym (take_whole xs (n + 1) is) ∙ take_more xs n 0 (omega (arith, is))

pub folder_slash : (xs : List ℕ) → 1 ≤ length xs → get_or xs (length xs - 1) 0 ≡ 47 → folder xs ≡ xs
folder_slash xs some is =
    let split = split_last xs (length xs - 1) (omega (arith, some)) in
    subst (λ l. folder l ≡ l) (sym (split ∙ ap (λ b. take (length xs - 1) xs ++ b ∷ []) is)) (folder_all (take (length xs - 1) xs))

pub folder_other : (xs : List ℕ) → 1 ≤ length xs → (get_or xs (length xs - 1) 0 ≡ 47 → ⊥) → folder xs ≡ folder (take (length xs - 1) xs)
folder_other xs some is =
    let split = split_last xs (length xs - 1) (omega (arith, some)) in
    ap folder split ∙ folder_less (take (length xs - 1) xs) (get_or xs (length xs - 1) 0) (ne_eqb (get_or xs (length xs - 1) 0) 47 is)

-- ---- files of constraints

-- no file of constraints is named by either
no_path_if : (b : Bool) (k l : LineKind) → constraints_path k ≡ None → constraints_path l ≡ None → constraints_path (if b then k else l) ≡ None
no_path_if true k l one other = one
no_path_if false k l one other = other

no_path_unless : (text : List ℕ) (m : Option FaultPosition) (k : LineKind) → constraints_path k ≡ None → constraints_path (unless_fault text m k) ≡ None
no_path_unless text None k none = none
no_path_unless text (Some m) k none = refl

-- a line that does not begin with `-` names none
pub no_constraints : (text : List ℕ) → opens 45 text ≡ false → constraints_path (line_kind text) ≡ None
no_constraints text none =
    let other : constraints_path (if has_variable text then Variable else if is_location (first_word text) then Location else Requirement) ≡ None =
    no_path_if (has_variable text) Variable _ refl (no_path_if (is_location (first_word text)) Location Requirement refl refl) in
    let right : constraints_path (right_kind text) ≡ None = subst (λ b. constraints_path (if b then option_kind text else if has_variable text then Variable else if is_location (first_word text) then Location else Requirement) ≡ None) (sym none) other in
    no_path_if (is_conflict_mark text) (Invalid ConflictMark 0) _ refl
    (no_path_if (is_utf16 text) (Invalid Utf16 0) _ refl (no_path_unless text (options_fault (options_in text)) (right_kind text) right))

-- ---- a byte of a JSON string read again

abbrev digit : ℕ → ℕ
digit d = if nat_lt d 97 then d - 48 else d - 87

digit_is : (n : ℕ) → n < 16 → digit (hex_digit n) ≡ n
digit_is n small = go (nat_lt n 10) refl
  where
    go : (b : Bool) → nat_lt n 10 ≡ b → digit (cond b (48 + n) (87 + n)) ≡ n
    go true e = let low : 48 + n < 97 = omega (arith, ltb-true n 10 e) in cond-true (nat_lt (48 + n) 97) _ _ (lt-ltb (48 + n) 97 low) ∙ omega arith
    go false e = cond-false (nat_lt (87 + n) 97) _ _ (le-ltb (87 + n) 97 (omega (arith, ltb-false n 10 e))) ∙ omega arith

abbrev read_digits : List ℕ → ℕ × List ℕ
read_digits (c ∷ d ∷ h ∷ l ∷ rest) = (digit h * 16 + digit l, rest)
read_digits _ = (0, [])

abbrev read_escape : List ℕ → ℕ × List ℕ
read_escape [] = (0, [])
read_escape (b ∷ rest) = if b == 117 then read_digits rest else (b, rest)

-- the first byte, and what stands behind it
abbrev read_byte : List ℕ → ℕ × List ℕ
read_byte [] = (0, [])
read_byte (b ∷ rest) = if b == 92 then read_escape rest else (b, rest)

digits_are : (b : ℕ) → b < 256 → digit (hex_digit (b / 16)) * 16 + digit (hex_digit (b % 16)) ≡ b
digits_are b small = omega (arith, digit_is (b / 16) (omega (arith, small)), digit_is (b % 16) (omega (arith, small)))

quoted_is : (b : ℕ) (s : List ℕ) → (b == 117) ≡ false → read_byte (92 ∷ b ∷ s) ≡ (b, s)
quoted_is b s other = cond-false (b == 117) (read_digits s) (b, s) other

byte_is : (in_utf8 : Bool) (b : ℕ) (s : List ℕ) → b < 256 → read_byte (json_byte in_utf8 b ++ s) ≡ (b, s)
byte_is in_utf8 b s small = go (b == 34) (b == 92) (is_printable b || (in_utf8 && nat_le 128 b)) (nat_lt b 128) refl refl
  where
    go : (x y plain low : Bool) → (b == 34) ≡ x → (b == 92) ≡ y
        → read_byte (cond (x || y) (92 ∷ b ∷ []) (cond plain (b ∷ []) (cond low (92 ∷ 117 ∷ 48 ∷ 48 ∷ hex_digits b) (92 ∷ 117 ∷ 100 ∷ 99 ∷ hex_digits b))) ++ s) ≡ (b, s)
    go true y plain low h k = quoted_is b s (ne_eqb b 117 (λ e. omega (arith, e, eqb-true b 34 h)))
    go false true plain low h k = quoted_is b s (ne_eqb b 117 (λ e. omega (arith, e, eqb-true b 92 k)))
    go false false true low h k = cond-false (b == 92) (read_escape s) (b, s) k
    go false false false true h k = ap (λ n. (n, s)) (digits_are b small)
    go false false false false h k = ap (λ n. (n, s)) (digits_are b small)

-- ---- all bytes of a JSON string

-- the rest of a string, with the quote that ends it
abbrev rest_of : Bool → List ℕ → List ℕ
rest_of in_utf8 text = flat_map (json_byte in_utf8) text ++ 34 ∷ []

next_is : (in_utf8 : Bool) (x : ℕ) (a : List ℕ) → x < 256 → read_byte (rest_of in_utf8 (x ∷ a)) ≡ (x, rest_of in_utf8 a)
next_is in_utf8 x a small = ap read_byte (append_assoc (json_byte in_utf8 x) (flat_map (json_byte in_utf8) a) (34 ∷ [])) ∙ byte_is in_utf8 x (rest_of in_utf8 a) small

some_left : {A : Type 0} (in_utf8 : Bool) (a : List ℕ) → rest_of in_utf8 a ≡ [] → A
some_left in_utf8 a e = absurd (omega (arith, ap length e, length-append (flat_map (json_byte in_utf8) a) (34 ∷ [])))

all_are : (m n : Bool) (a b : List ℕ) → All (λ x. x < 256) a → All (λ x. x < 256) b → rest_of m a ≡ rest_of n b → a ≡ b
all_are m n [] [] small below e = refl
all_are m n (x ∷ a) [] small below e = some_left m a (ap (λ p. p.1) (sym (next_is m x a (All-head (λ z. z < 256) x a small)) ∙ ap read_byte e))
all_are m n [] (y ∷ b) small below e = some_left n b (ap (λ p. p.1) (sym (next_is n y b (All-head (λ z. z < 256) y b below)) ∙ ap read_byte (sym e)))
all_are m n (x ∷ a) (y ∷ b) small below e =
    let same : (x, rest_of m a) ≡ (y, rest_of n b) = sym (next_is m x a (All-head (λ z. z < 256) x a small)) ∙ ap read_byte e ∙ next_is n y b (All-head (λ z. z < 256) y b below) in
    let rest = all_are m n a b (All-tail (λ z. z < 256) x a small) (All-tail (λ z. z < 256) y b below) (ap (λ p. p.1) same) in
    ap (λ z. z ∷ a) (ap (λ p. p.0) same) ∙ ap (λ l. y ∷ l) rest

pub strings_differ : JsonStringsDiffer
strings_differ a b small below e = all_are (is_utf8 a) (is_utf8 b) a b small below (cc e)

plain_is_ascii : (b : ℕ) → is_plain_byte b ≡ true → b < 128
plain_is_ascii b e = grind arith

all_ascii : (text : List ℕ) → IsPlain text → All (λ b. b < 128) text
all_ascii [] plain = All-nil (λ b. b < 128)
all_ascii (b ∷ text) plain =
    let (here, later) = and_parts (is_plain_byte b) (list_all is_plain_byte text) plain in
    All-cons (λ c. c < 128) b text (plain_is_ascii b here) (all_ascii text later)

pub plain_utf8 : (text : List ℕ) → IsPlain text → IsUtf8 text
plain_utf8 text plain = IsUtf8-from_ascii text (IsAscii-from_all text (all_ascii text plain))

are_equal : (m n : ℕ) → m ≤ n → n ≤ m → (m == n) ≡ true
are_equal m n below above = grind arith

are_apart : (m n : ℕ) → m < n → (m == n) ≡ false
are_apart m n below = grind arith

-- the string has another byte where fewer bytes come first than it has
pub another_byte : (text : List ℕ) (count : ℕ) → count ≡ prefix_len is_plain_byte text → count < length text → IsPlain text → ⊥
another_byte text count is short plain =
    let below : prefix_len is_plain_byte text < length text = omega (arith, is, short) in
    true≢false (sym plain ∙ sym (all_prefix is_plain_byte text false (are_apart (prefix_len is_plain_byte text) (length text) below)))

pub no_other_byte : (text : List ℕ) (count : ℕ) → count ≡ prefix_len is_plain_byte text → length text ≤ count → IsPlain text
no_other_byte text count is long =
    let above : length text ≤ prefix_len is_plain_byte text = omega (arith, is, long) in
    sym (all_prefix is_plain_byte text true (are_equal (prefix_len is_plain_byte text) (length text) (prefix_len-le-length is_plain_byte text) above))
