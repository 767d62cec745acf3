-- The print of a specifier that some text means, means that specifier.
use Rattle.std.proofs.Common.{◌≡◌, ◌&&◌, ◌∙◌, ℕ, List, [], ◌∷◌, ◌++◌, Bool, true, false, Result, Ok, Err, refl, sym, ap, subst, codes, if◌then◌else◌, length, nat_lt, not}
use Rattle.std.proofs.lemmas.List.{append-nil}
use Rattle.std.proofs.lemmas.Str.Ascii.{encodes-IsAscii}
use Rattle.std.proofs.lemmas.Str.{chars-IsAscii}
use Rattle.std.specs.Char.{is_ascii_digit, is_whitespace, is_not_whitespace, is_ascii_whitespace}
use Rattle.std.specs.List.{list_all}
use Rattle.std.specs.Str.{encode_utf8_all}
use Rattle.pep440_version.specs.Grammar.{AreBlanks, Derives, starts}
use Rattle.pep440_version.specs.Patterns.{DerivesPattern, DerivesStar}
use Rattle.pep440_version.specs.Print.{print}
use Rattle.pep440_version.specs.Record.{Record}
use Rattle.pep440_version.proofs.RoundTrip.PrintIsRead.{derived_again, derived_record, derived_rereads}
use Rattle.pep440_version.proofs.Rejections.ZeroForDigits.{starts_not}
use Rattle.pep440_version.proofs.Reading.Prefixes.{both_first}
use Rattle.pep440_rs.specs.Build.{BuildRejection, CompatibleRelease, OperatorLocalCombo, built, built_pattern, is_compatible}
use Rattle.pep440_rs.specs.Matching.{has_local}
use Rattle.pep440_rs.specs.Operators.{allows_local, is_star, operator_text}
use Rattle.pep440_rs.specs.Specifiers.SpecifierGrammar.{SpecifierParts, DerivesSpecifier, is_operator_char}
use Rattle.pep440_rs.specs.Specifiers.{Spec, print_spec}
use Rattle.pep440_rs.specs.declared.specifier.operator.Operator.{Operator}
use Rattle.pep440_rs.specs.declared.specifier.operator.Operator.TheVariants.{Equal, EqualStar, ExactEqual, NotEqual, NotEqualStar, TildeEqual, LessThan, LessThanEqual, GreaterThan, GreaterThanEqual}
use Rattle.pep440_rs.proofs.Reread.Plain.{all_ascii, all_joined, all_later, all_weaker, is_shown, operator_bytes}
use Rattle.pep440_rs.proofs.Reread.Prints.{unstarred}
use Rattle.pep440_rs.proofs.Reread.Shown.{begins_still, blank_not_shown, digit_not_operator, digit_not_white, operator_not_white, operator_shown, print_begins, print_shown, shown_low, shown_not_white}

-- ---- what stands before a star

-- a text without its star means the record alone
pub unstar : (text : List ℕ) (r : Record) → (h : DerivesStar text r) → Derives h.0 r
unstar text r h = h.1

blanks_shown : (t : List ℕ) → AreBlanks t → list_all is_shown t ≡ true → t ≡ []
blanks_shown [] h g = refl
blanks_shown (b ∷ t) h g =
    let blank = both_first (is_ascii_whitespace b) (list_all is_ascii_whitespace t) h in
    let shown = both_first (is_shown b) (list_all is_shown t) g in
    let none = blank_not_shown b blank in
    cc (shown, none)

star_print : (text : List ℕ) (r : Record) → DerivesStar text r → DerivesStar (print r ++ codes ".*") r
star_print text r h =
    let before : Derives h.0 r = unstar text r h in
    let d : Derives (print r) r = derived_again _ r before in
    let shown : list_all is_shown (print r) ≡ true = print_shown r (derived_record _ r before) (derived_rereads _ r before) in
    let last : list_all is_shown d.w2 ≡ true =
    all_later is_shown d.l d.w2 (all_later is_shown d.d _ (all_later is_shown d.q _ (all_later is_shown d.p _ (all_later is_shown d.n _
    (all_later is_shown d.e _ (all_later is_shown d.v _ (all_later is_shown d.w1 _ (ap (list_all is_shown) (sym d.decomposition) ∙ shown)))))))) in
    (print r, d, refl, blanks_shown d.w2 d.end last, h.4)

-- ---- an operator and a version, with nothing around them

pub operator_chars : (o : Operator) → list_all is_operator_char (operator_text o) ≡ true
operator_chars Equal = refl
operator_chars EqualStar = refl
operator_chars ExactEqual = refl
operator_chars NotEqual = refl
operator_chars NotEqualStar = refl
operator_chars TildeEqual = refl
operator_chars LessThan = refl
operator_chars LessThanEqual = refl
operator_chars GreaterThan = refl
operator_chars GreaterThanEqual = refl

operator_begins : (o : Operator) → starts is_operator_char (operator_text o) ≡ true
operator_begins Equal = refl
operator_begins EqualStar = refl
operator_begins ExactEqual = refl
operator_begins NotEqual = refl
operator_begins NotEqualStar = refl
operator_begins TildeEqual = refl
operator_begins LessThan = refl
operator_begins LessThanEqual = refl
operator_begins GreaterThan = refl
operator_begins GreaterThanEqual = refl

bare : (v : List ℕ) (o : Operator) (r : Record) (star : Bool) (s : Spec) → is_star o ≡ false → list_all is_shown v ≡ true → starts is_ascii_digit v ≡ true → DerivesPattern v r star
    → built_pattern o r star ≡ Ok s → DerivesSpecifier (operator_text o ++ v) s
bare v o r star s plain shown begins h is =
    let a : List ℕ = operator_text o in
    let a_shown : list_all is_shown a ≡ true = all_weaker is_operator_char is_shown operator_shown a (operator_chars o) in
    let v_begins : starts is_ascii_digit (v ++ []) ≡ true = begins_still is_ascii_digit v [] begins in
    let c : SpecifierParts (operator_text o ++ v) = record {
      before = [];
      operator = operator_text o;
      between = [];
      version = v;
      after = [];
      rest = [];
      decomposition = chars-IsAscii (a ++ v) (all_ascii is_shown shown_low (a ++ v) (all_joined is_shown a v a_shown shown)) ∙ ap (λ t. a ++ t) (sym (append-nil v));
      before_run = (refl, starts_not is_operator_char is_whitespace operator_not_white (a ++ (v ++ [])) (begins_still is_operator_char a (v ++ []) (operator_begins o)));
      operator_run = (operator_chars o, starts_not is_ascii_digit is_operator_char digit_not_operator (v ++ []) v_begins);
      between_run = (refl, starts_not is_ascii_digit is_whitespace digit_not_white (v ++ []) v_begins);
      version_run = (all_weaker is_shown is_not_whitespace shown_not_white v shown, refl);
      after_run = (refl, refl);
    } in (
      c,
      o,
      r,
      star,
      record {
        operator = (operator_bytes a (operator_chars o), plain);
        version = subst (λ t. DerivesPattern t r star) (sym (encodes-IsAscii v (all_ascii is_shown shown_low v shown))) h;
      },
      is,
      refl,
    )

-- ---- the specifier that was built

chosen : (a b : Bool) (x y : BuildRejection) (v s : Spec) → (let z : Result Spec BuildRejection = if a then Err x else if b then Err y else Ok v in z) ≡ Ok s → v ≡ s
chosen true b x y v s e = cc e
chosen false true x y v s e = cc e
chosen false false x y v s e = cc e

pub built_is : (o : Operator) (r : Record) (s : Spec) → built o r ≡ Ok s → record { operator = o; version = r } ≡ s
built_is o r s e = chosen (has_local r && not (allows_local o)) (is_compatible o && nat_lt (length r.release) 2) (OperatorLocalCombo o r) CompatibleRelease _ s e

again_star : (o p : Operator) (r : Record) (s : Spec) (u : List ℕ) → is_star o ≡ false → DerivesStar u r → built_pattern o r true ≡ Ok s → built p r ≡ Ok s
    → operator_text o ++ (print r ++ codes ".*") ≡ print_spec (record { operator = p; version = r }) → DerivesSpecifier (print_spec s) s
again_star o p r s u plain h is same text =
    let before = unstar u r h in
    let fits = derived_record _ r before in
    let shown = all_joined is_shown (print r) (codes ".*") (print_shown r fits (derived_rereads _ r before)) refl in
    subst (λ t. DerivesSpecifier t s) (text ∙ ap print_spec (built_is p r s same))
    (bare (print r ++ codes ".*") o r true s plain shown (begins_still is_ascii_digit (print r) (codes ".*") (print_begins r fits)) (star_print u r h) is)

again_built : (o : Operator) (r : Record) (star : Bool) (s : Spec) (u : List ℕ) → is_star o ≡ false → DerivesPattern u r star → built_pattern o r star ≡ Ok s → DerivesSpecifier (print_spec s) s
again_built o r false s u plain h is =
    let fits = derived_record u r h in
    subst (λ t. DerivesSpecifier t s) (unstarred (record { operator = o; version = r }) _ _ refl refl plain ∙ ap print_spec (built_is o r s is))
    (bare (print r) o r false s plain (print_shown r fits (derived_rereads u r h)) (print_begins r fits) (derived_again u r h) is)
again_built Equal r true s u plain h is = again_star Equal EqualStar r s u plain h is is refl
again_built NotEqual r true s u plain h is = again_star NotEqual NotEqualStar r s u plain h is is refl
again_built EqualStar r true s u plain h is = cc plain
again_built ExactEqual r true s u plain h is = cc is
again_built NotEqualStar r true s u plain h is = cc plain
again_built TildeEqual r true s u plain h is = cc is
again_built LessThan r true s u plain h is = cc is
again_built LessThanEqual r true s u plain h is = cc is
again_built GreaterThan r true s u plain h is = cc is
again_built GreaterThanEqual r true s u plain h is = cc is

pub printed_again : (text : List ℕ) (s : Spec) → DerivesSpecifier text s → DerivesSpecifier (print_spec s) s
printed_again text s (c, o, r, star, reads, is, end) = again_built o r star s (encode_utf8_all c.version) reads.operator.1 reads.version is
