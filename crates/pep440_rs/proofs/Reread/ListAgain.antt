-- The print of a list that some text means, means that list; so does its form with commas alone.
use Rattle.std.proofs.Common.{◌≡◌, ◌≢◌, ◌==◌, ◌<◌, ◌∙◌, ℕ, zero, suc, List, [], ◌∷◌, ◌++◌, Bool, true, false, not, Result, Ok, length, map, refl, sym, ap, subst, arith, inl, inr, codes, if◌then◌else◌}
use Rattle.std.proofs.lemmas.Bool.Decides.{nat_tests}
use Rattle.std.proofs.lemmas.List.{length-append}
use Rattle.std.proofs.lemmas.List.Sorted.{All-permutation}
use Rattle.std.proofs.lemmas.Str.{IsUtf8-from_ascii, chars-IsAscii, chars-append}
use Rattle.std.proofs.lemmas.Str.Ascii.{IsAscii-cons, IsAscii-nil}
use Rattle.std.specs.List.{All, flat_map, list_all}
use Rattle.std.specs.Str.{chars}
use Rattle.pep440_version.specs.Patterns.{DerivesPattern}
use Rattle.pep440_version.specs.Print.{print}
use Rattle.pep440_version.specs.Record.{Record}
use Rattle.pep440_version.proofs.RoundTrip.PrintIsRead.{derived_record, derived_rereads}
use Rattle.pep440_version.proofs.Reading.Prefixes.{both_first, both_second}
use Rattle.pep440_rs.specs.Arrangement.{Arranges}
use Rattle.pep440_rs.specs.Build.{built_pattern}
use Rattle.pep440_rs.specs.Lists.ListResults.{ReturnsList, ListReads}
use Rattle.pep440_rs.specs.Lists.ListGrammar.{DerivesList, pieces}
use Rattle.pep440_rs.specs.Lists.ListReading.{read_members}
use Rattle.pep440_rs.specs.Lists.{joined}
use Rattle.pep440_rs.specs.Operators.{is_star, operator_text}
use Rattle.pep440_rs.specs.Specifiers.SpecifierGrammar.{SpecifierParts, DerivesSpecifier, is_operator_char}
use Rattle.pep440_rs.specs.Specifiers.{Spec, print_spec}
use Rattle.pep440_rs.specs.declared.list.error.VersionSpecifiersParseError.{VersionSpecifiersParseError}
use Rattle.pep440_rs.specs.declared.specifier.operator.Operator.{Operator}
use Rattle.pep440_rs.specs.declared.specifier.operator.Operator.TheVariants.{Equal, EqualStar, ExactEqual, NotEqual, NotEqualStar, TildeEqual, LessThan, LessThanEqual, GreaterThan, GreaterThanEqual}
use Rattle.pep440_rs.proofs.Reread.Again.{built_is, operator_chars, printed_again, unstar}
use Rattle.pep440_rs.proofs.Arranging.Arranged.{arranged_again}
use Rattle.pep440_rs.proofs.Reading.ListTells.{DerivesEach, is_list_only}
use Rattle.pep440_rs.proofs.Reading.Pieces.{HasNoComma, pieces_split, pieces_whole}
use Rattle.pep440_rs.proofs.Reread.Plain.{all_joined, all_weaker, is_shown}
use Rattle.pep440_rs.proofs.Reread.Shown.{operator_shown, print_shown}

-- ---- the print of a member has no comma

version_is : (o : Operator) (r : Record) (s : Spec) → built_pattern o r true ≡ Ok s → r ≡ s.version
version_is Equal r s e = ap (λ (q : Spec). q.version) (built_is EqualStar r s e)
version_is NotEqual r s e = ap (λ (q : Spec). q.version) (built_is NotEqualStar r s e)
version_is EqualStar r s e = cc e
version_is ExactEqual r s e = cc e
version_is NotEqualStar r s e = cc e
version_is TildeEqual r s e = cc e
version_is LessThan r s e = cc e
version_is LessThanEqual r s e = cc e
version_is GreaterThan r s e = cc e
version_is GreaterThanEqual r s e = cc e

record_shown : (o : Operator) (r : Record) (star : Bool) (s : Spec) (u : List ℕ) → DerivesPattern u r star → built_pattern o r star ≡ Ok s → list_all is_shown (print s.version) ≡ true
record_shown o r false s u h is =
    subst (λ q. list_all is_shown (print q) ≡ true) (ap (λ (q : Spec). q.version) (built_is o r s is)) (print_shown r (derived_record u r h) (derived_rereads u r h))
record_shown o r true s u h is =
    let before = unstar u r h in
    subst (λ q. list_all is_shown (print q) ≡ true) (version_is o r s is) (print_shown r (derived_record _ r before) (derived_rereads _ r before))

abbrev star_text : Operator → List ℕ
star_text o = if is_star o then codes ".*" else []

star_shown : (o : Operator) → list_all is_shown (star_text o) ≡ true
star_shown Equal = refl
star_shown EqualStar = refl
star_shown ExactEqual = refl
star_shown NotEqual = refl
star_shown NotEqualStar = refl
star_shown TildeEqual = refl
star_shown LessThan = refl
star_shown LessThanEqual = refl
star_shown GreaterThan = refl
star_shown GreaterThanEqual = refl

member_shown : (u : List ℕ) (s : Spec) → DerivesSpecifier u s → list_all is_shown (print_spec s) ≡ true
member_shown u s (c, o, r, star, reads, is, end) =
    all_joined is_shown (operator_text s.operator) _ (all_weaker is_operator_char is_shown operator_shown (operator_text s.operator) (operator_chars s.operator))
    (all_joined is_shown (print s.version) (star_text s.operator) (record_shown o r star s _ reads.version is) (star_shown s.operator))

abbrev pub is_not_comma : ℕ → Bool
is_not_comma b = not (b == 44)

shown_not_comma : (b : ℕ) → is_shown b ≡ true → is_not_comma b ≡ true
shown_not_comma b h = grind (arith, nat_tests)

comma_is : (b : ℕ) → is_not_comma b ≡ true → b ≢ 44
comma_is b h e = let wrong : not (44 == 44) ≡ true = subst (λ n. not (n == 44) ≡ true) e h in cc wrong

no_comma : (t : List ℕ) → list_all is_not_comma t ≡ true → HasNoComma t
no_comma [] h i lt = absurd (omega (arith, lt))
no_comma (b ∷ t) h zero lt = comma_is b (both_first (is_not_comma b) (list_all is_not_comma t) h)
no_comma (b ∷ t) h (suc i) lt = no_comma t (both_second (is_not_comma b) (list_all is_not_comma t) h) i (omega (arith, lt))

-- ---- a blank before a member

pub after_blank : (u : List ℕ) (s : Spec) → DerivesSpecifier u s → DerivesSpecifier (32 ∷ u) s
after_blank u s (c, o, r, star, reads, is, end) =
    let blank = IsAscii-cons 32 [] (omega arith) IsAscii-nil in
    let whole : chars (32 ∷ u) ≡ 32 ∷ chars u = chars-append (32 ∷ []) u (IsUtf8-from_ascii (32 ∷ []) blank) ∙ ap (λ t. t ++ chars u) (chars-IsAscii (32 ∷ []) blank) in
    let d : SpecifierParts (32 ∷ u) = record {
      before = 32 ∷ c.before;
      operator = c.operator;
      between = c.between;
      version = c.version;
      after = c.after;
      rest = c.rest;
      decomposition = whole ∙ ap (λ t. 32 ∷ t) c.decomposition;
      before_run = c.before_run;
      operator_run = c.operator_run;
      between_run = c.between_run;
      version_run = c.version_run;
      after_run = c.after_run;
    } in
    (d, o, r, star, record { operator = reads.operator; version = reads.version }, is, end)

-- ---- the pieces of a print

-- a member that some text means
abbrev pub IsMeant : Spec → Type 0
IsMeant s = (u : List ℕ) × DerivesSpecifier u s

-- what stands before a member after its comma: nothing, or a blank
abbrev pub IsGap : List ℕ → Type 0
IsGap gap = (list_all is_not_comma gap ≡ true) × ((u : List ℕ) (s : Spec) → DerivesSpecifier u s → DerivesSpecifier (gap ++ u) s)

pieces_of : (gap : List ℕ) → IsGap gap → (first : List ℕ) → list_all is_not_comma first ≡ true → (rest : List Spec) → All IsMeant rest
    → pieces (first ++ flat_map (λ t. 44 ∷ (gap ++ print_spec t)) rest) ≡ first ∷ map (λ t. gap ++ print_spec t) rest
pieces_of gap h first plain [] meant = ap pieces (append_nil first) ∙ pieces_whole first (no_comma first plain)
  where
    append_nil : (t : List ℕ) → t ++ [] ≡ t
    append_nil [] = refl
    append_nil (b ∷ t) = ap (λ l. b ∷ l) (append_nil t)
pieces_of gap h first plain (s ∷ rest) meant =
    let one = meant 0 s (omega arith) in
    let shown = all_joined is_not_comma gap (print_spec s) h.0 (all_weaker is_shown is_not_comma shown_not_comma (print_spec s) (member_shown one.0 s one.1)) in
    let later = pieces_of gap h (gap ++ print_spec s) shown rest (λ k d lt. meant (suc k) d (omega (arith, lt))) in
    pieces_split first ((gap ++ print_spec s) ++ flat_map (λ t. 44 ∷ (gap ++ print_spec t)) rest) (no_comma first plain) ∙ ap (λ l. first ∷ l) later

each_after : (gap : List ℕ) → IsGap gap → (rest : List Spec) → All IsMeant rest → DerivesEach (map (λ t. gap ++ print_spec t) rest) rest
each_after gap h [] meant = tt
each_after gap h (s ∷ rest) meant =
    let one = meant 0 s (omega arith) in
    (h.1 (print_spec s) s (printed_again one.0 s one.1), each_after gap h rest (λ k d lt. meant (suc k) d (omega (arith, lt))))

some_print : (s : Spec) (rest : List ℕ) → 0 < length (print_spec s ++ rest)
some_print s rest =
    let a = length-append (print_spec s) rest in
    let b = length-append (operator_text s.operator) (print s.version ++ star_text s.operator) in
    let c = some_operator s.operator in
    omega (arith, a, b, c)
  where
    some_operator : (o : Operator) → 0 < length (operator_text o)
    some_operator Equal = omega arith
    some_operator EqualStar = omega arith
    some_operator ExactEqual = omega arith
    some_operator NotEqual = omega arith
    some_operator NotEqualStar = omega arith
    some_operator TildeEqual = omega arith
    some_operator LessThan = omega arith
    some_operator LessThanEqual = omega arith
    some_operator GreaterThan = omega arith
    some_operator GreaterThanEqual = omega arith

meant_again : (gap : List ℕ) → IsGap gap → (list : List Spec) → All IsMeant list → Arranges list list → DerivesList (joined (44 ∷ gap) list) list
meant_again gap h [] meant arranged = inl (refl, refl)
meant_again gap h (s ∷ rest) meant arranged =
    let one = meant 0 s (omega arith) in
    let later : All IsMeant rest = λ k d lt. meant (suc k) d (omega (arith, lt)) in
    let plain = all_weaker is_shown is_not_comma shown_not_comma (print_spec s) (member_shown one.0 s one.1) in
    inr (
      some_print s _,
      s ∷ rest,
      subst (λ ps. DerivesEach ps (s ∷ rest)) (sym (pieces_of gap h (print_spec s) plain rest later)) (printed_again one.0 s one.1, each_after gap h rest later),
      arranged,
    )

each_meant : (ps : List (List ℕ)) (members : List Spec) → DerivesEach ps members → All IsMeant members
each_meant ps [] h k d lt = absurd (omega (arith, lt))
each_meant [] (s ∷ list) h k d lt = elim h [ ]
each_meant (p ∷ ps) (s ∷ list) h zero d lt = (p, h.0)
each_meant (p ∷ ps) (s ∷ list) h (suc k) d lt = each_meant ps list h.1 k d (omega (arith, lt))

derived_list_again : (gap : List ℕ) → IsGap gap → (t : List ℕ) (list : List Spec) → DerivesList t list → DerivesList (joined (44 ∷ gap) list) list
derived_list_again gap h t list (inl e) = inl (ap (joined (44 ∷ gap)) e.1, e.1)
derived_list_again gap h t list (inr (some, members, each, arranged)) =
    meant_again gap h list (All-permutation IsMeant members list arranged.same (each_meant (pieces t) members each)) (arranged_again list arranged.rises)

no_gap : IsGap []
no_gap = (refl, λ u s d. d)

blank_gap : IsGap (32 ∷ [])
blank_gap = (refl, after_blank)

pub is_list_again : (text : List ℕ) (result : Result (List Spec) VersionSpecifiersParseError) → ListReads result (read_members text) → (t : List ℕ) (list : List Spec) → DerivesList t list
    → text ≡ joined (codes ", ") list → ReturnsList result (Ok list)
is_list_again text result h t list d printed = is_list_only text result h list (subst (λ x. DerivesList x list) (sym printed) (derived_list_again (32 ∷ []) blank_gap t list d))

pub is_list_joined : (text : List ℕ) (result : Result (List Spec) VersionSpecifiersParseError) → ListReads result (read_members text) → (t : List ℕ) (list : List Spec) → DerivesList t list
    → text ≡ joined (codes ",") list → ReturnsList result (Ok list)
is_list_joined text result h t list d printed = is_list_only text result h list (subst (λ x. DerivesList x list) (sym printed) (derived_list_again [] no_gap t list d))
