-- What conditions on versions say of a variable.
use Rattle.std.proofs.Common.{◌≡◌, ◌∙◌, ◌++◌, ◌&&◌, ℕ, List, [], ◌∷◌, Bool, true, false, not, Option, Some, None, Result, Ok, Err, ap, refl, sym}
use Rattle.std.proofs.lemmas.Bool.{and_from, and_parts, false_from_ne_true, true≢false}
use Rattle.std.specs.Char.{is_ascii}
use Rattle.std.specs.List.{list_all}
use Rattle.std.specs.Prelude.{IfSome, if◌then◌else◌, map}
use Rattle.pep440_pick.specs.Names.{normal}
use Rattle.pep440_ranges.specs.RangeSegments.{contains}
use Rattle.pep440_rs.specs.Bounds.{Segments}
use Rattle.pep440_rs.specs.Denoted.{IsDenoted}
use Rattle.pep440_rs.specs.LiteralMatching.{list_matches_literally, matches_literally}
use Rattle.pep440_rs.specs.Specifiers.{Spec}
use Rattle.pep440_sets.specs.Emptiness.{HasNoVersion}
use Rattle.pep440_sets.specs.Sets.{HoldsListMatches}
use Rattle.pep440_version.proofs.Reading.Agreement.{found}
use Rattle.pep440_version.specs.Key.{record_cmp}
use Rattle.pep440_version.specs.Record.{Record}
use Rattle.pep440_version.specs.Whole.{read_version}
use Rattle.pyver_requirements.specs.MarkerTerms.{marker_operator_text}
use Rattle.pyver_requirements.specs.declared.marker_operator.MarkerOperator.{MarkerOperator}
use Rattle.std.proofs.lemmas.List.{map-append}
use Rattle.std.proofs.lemmas.List.Folds.{list_all-append}
use Rattle.pyver_markers.specs.Boxes.{Box, Condition, agrees, in_box, is_met, meets}
use Rattle.pyver_markers.specs.Conditions.{ComparesAs, HasVersion, HoldsMatchesOf, HoldsMet, HoldsVersionsOf, Narrows}
use Rattle.pyver_markers.specs.Environments.{Environment, Text}
use Rattle.pyver_markers.specs.MarkerComparisons.{ascii_specifier, ascii_version, compare, compare_left, compare_spelled, compare_strings, compare_texts, compare_versions, compare_with, compare_written, if_read, is_name_variable, is_version_variable, matches_specifier, spelling_in}

-- ---- readings

if_some : {A : Type 0} (b : Bool) (o : Option A) (x : A) → (if b then o else None) ≡ Some x → o ≡ Some x
if_some true o x is = is
if_some false o x is = cc

read_some : {A E : Type 0} (r : Result A E) (x : A) → if_read r ≡ Some x → r ≡ Ok x
read_some (Ok y) x is = cc
read_some (Err f) x is = cc

pub is_denoted : (text : List ℕ) (v : Record) → ascii_version text ≡ Some v → IsDenoted v
is_denoted text v is = (text, found text v (read_some (read_version text) v (if_some (list_all is_ascii text) (if_read (read_version text)) v is)))

pub compares : (o : MarkerOperator) (right written : List ℕ) (s : Option Spec) → written ≡ marker_operator_text o ++ right → spelling_in written ≡ None
    → s ≡ ascii_specifier written → IfSome s (ComparesAs o right)
compares o right written None is none reads = tt
compares o right written (Some s) is none reads = λ left.
    ap (compare_written left o right) (sym is) ∙ ap (compare_spelled left o right written) none ∙ ap (compare_with left o right) (sym reads)

and_true : (b : Bool) → (b && true) ≡ b
and_true true = refl
and_true false = refl

pub one_matches : (s : Spec) (list : List Spec) (set : Segments) → list ≡ s ∷ [] → HoldsListMatches list set → HoldsMatchesOf s set
one_matches s list set is holds v d =
    holds v d ∙ ap (λ l. list_matches_literally l v) is ∙ and_true (matches_literally s.operator s.version v)

-- ---- one condition

first_chosen : {A : Type 0} (b : Bool) (x y : A) → b ≡ true → (if b then x else y) ≡ x
first_chosen true x y is = refl
first_chosen false x y is = absurd (true≢false (sym is))

as_versions : (name left right : List ℕ) (o : MarkerOperator) → is_version_variable name ≡ true → compare_texts name left o right ≡ compare_versions left o right
as_versions name left right o is =
    first_chosen (is_version_variable name) (compare_versions left o right)
    (if is_name_variable name then compare_strings (normal left) o (normal right) else compare_strings left o right) is

pub met_so : (name right : List ℕ) (c : Condition) (s : Spec) → is_version_variable name ≡ true
    → ((e : Environment) → compare e c.left c.operator c.right ≡ compare_left name c.operator right (e name)) → ComparesAs c.operator right s
    → (e : Environment) (x : List ℕ) (v : Record) → e name ≡ Some (Text x) → ascii_version x ≡ Some v → meets e c ≡ agrees c.wanted (matches_literally s.operator s.version v)
met_so name right c s is asks as_spec e x v has reads =
    ap (is_met c.wanted) (
    asks e ∙ ap (compare_left name c.operator right) has ∙ as_versions name x right c.operator is ∙ as_spec x
    ∙ ap (λ r. Some (matches_specifier s r)) reads)

pub wanted_so : (w a b : Bool) (set : Bool) → w ≡ true → a ≡ agrees w b → set ≡ b → a ≡ set
wanted_so true a b set is met holds = met ∙ sym holds
wanted_so false a b set is met holds = absurd (true≢false (sym is))

pub unwanted_so : (w a b : Bool) (set without : Bool) → w ≡ false → a ≡ agrees w b → set ≡ b → without ≡ not set → a ≡ without
unwanted_so true a b set without is met holds other = absurd (true≢false is)
unwanted_so false a b set without is met holds other = met ∙ ap not (sym holds) ∙ sym other

pub holds_met : (name right : List ℕ) (c : Condition) (s : Spec) (set : Segments) → is_version_variable name ≡ true
    → ((e : Environment) → compare e c.left c.operator c.right ≡ compare_left name c.operator right (e name)) → ComparesAs c.operator right s
    → HoldsMatchesOf s set → c.wanted ≡ true → HoldsMet name c set
holds_met name right c s set is asks as_spec holds wanted e x v has reads =
    wanted_so c.wanted (meets e c) (matches_literally s.operator s.version v) (contains record_cmp set v) wanted
    (met_so name right c s is asks as_spec e x v has reads) (holds v (is_denoted x v reads))

pub holds_unmet : (name right : List ℕ) (c : Condition) (s : Spec) (set without : Segments) → is_version_variable name ≡ true
    → ((e : Environment) → compare e c.left c.operator c.right ≡ compare_left name c.operator right (e name)) → ComparesAs c.operator right s
    → HoldsMatchesOf s set → c.wanted ≡ false → ((v : Record) → contains record_cmp without v ≡ not (contains record_cmp set v)) → HoldsMet name c without
holds_unmet name right c s set without is asks as_spec holds wanted other e x v has reads =
    unwanted_so c.wanted (meets e c) (matches_literally s.operator s.version v) (contains record_cmp set v) (contains record_cmp without v) wanted
    (met_so name right c s is asks as_spec e x v has reads) (holds v (is_denoted x v reads)) (other v)

-- ---- boxes

pub narrows : (name : List ℕ) (c : Condition) (set met narrowed : Segments) → HoldsMet name c met
    → ((v : Record) → contains record_cmp narrowed v ≡ contains record_cmp set v && contains record_cmp met v) → Narrows name c set narrowed
narrows name c set met narrowed holds both e x v has reads is within =
    both v ∙ and_from (contains record_cmp set v) (contains record_cmp met v) within (sym (holds e x v has reads) ∙ is)

-- the versions where one condition is met, or more
pub one_holds : {W : Type 0} (f : W → Condition) (name : List ℕ) (all others : List W) (c : W) (set narrowed : Segments) → all ≡ c ∷ others
    → ((v : Record) → IsDenoted v → contains record_cmp set v ≡ true) → Narrows name (f c) set narrowed → HoldsVersionsOf name (map f all) narrowed
one_holds f name all others c set narrowed split every narrows_it e x v has reads is =
    narrows_it e x v has reads (and_parts (meets e (f c)) (in_box e (map f others)) (ap (λ l. in_box e (map f l)) (sym split) ∙ is)).0 (every v (is_denoted x v reads))

-- and those of two parts
pub both_hold : {W : Type 0} (f : W → Condition) (name : List ℕ) (all left right : List W) (one other both : Segments) → all ≡ left ++ right
    → HoldsVersionsOf name (map f left) one → HoldsVersionsOf name (map f right) other
    → ((v : Record) → contains record_cmp both v ≡ contains record_cmp one v && contains record_cmp other v) → HoldsVersionsOf name (map f all) both
both_hold f name all left right one other both split first second joined e x v has reads is =
    let whole : in_box e (map f all) ≡ in_box e (map f left) && in_box e (map f right) =
    ap (λ l. in_box e (map f l)) split ∙ ap (in_box e) (map-append f left right) ∙ list_all-append (meets e) (map f left) (map f right) in
    let (front, back) = and_parts (in_box e (map f left)) (in_box e (map f right)) (sym whole ∙ is) in
    joined v ∙ and_from (contains record_cmp one v) (contains record_cmp other v) (first e x v has reads front) (second e x v has reads back)

pub none_met : (name : List ℕ) (all : Box) (set : Segments) → HoldsVersionsOf name all set → HasNoVersion set → (e : Environment) → HasVersion e name → in_box e all ≡ false
none_met name all set holds none e h =
    false_from_ne_true (in_box e all) (λ is. true≢false (sym (holds e h.0 h.1 h.2 h.3 is) ∙ none h.1 (is_denoted h.0 h.1 h.3)))
