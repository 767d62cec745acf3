-- What reading gives of the parts of a text is what the grammar says, and the other way round.
use Rattle.std.proofs.Common.{◌≡◌, ◌∙◌, ℕ, List, ◌++◌, Bool, true, false, cond, Option, Some, None, Result, Ok, Err, refl, sym, ap, subst, inl, inr}
use Rattle.std.proofs.lemmas.Bool.{cases_Bool}
use Rattle.std.specs.Char.{is_ascii_whitespace}
use Rattle.pep440_version.specs.Grammar.{starts}
use Rattle.pep440_version.specs.Reading.{lead, past}
use Rattle.pep440_version.proofs.Reading.Prefixes.{lead-all, lead-run, past-run, past-stops}
use Rattle.pep440_version.proofs.Reading.ReadIsDerived.{split}
use Rattle.pep440_rs.specs.Specifiers.SpecifierGrammar.{IsRun}
use Rattle.pep440_pick.specs.Names.{is_name, is_name_byte}
use Rattle.pep440_rs.specs.Blanks.{trim_blanks}
use Rattle.pep440_pick.specs.RequirementGrammar.{RequirementParts, HasExtras, HasRequirementPrefix, HasList, HasNoMarkerOrUrl, RejectsRequirement, RequirementRejection, InvalidExtras, InvalidName, Marker, Specifiers, Unclosed, Url, has_byte}
use Rattle.pep440_pick.specs.RequirementReading.{RequirementPrefix, behind_name, extras_at, list_in, name_of, prefix_after_name, read_prefix, with_extras, with_list}
use Rattle.pep440_pick.proofs.Parts.{is_named, not_named, brackets_complete, brackets_sound, list_complete, list_sound}

-- ---- every text has one cut

longest : (test : ℕ → Bool) (whole tail : List ℕ) → tail ≡ past test whole → IsRun test (lead test whole) tail
longest test whole tail e = (lead-all test whole, subst (λ t. starts test t ≡ false) (sym e) (past-stops test whole))

joined_up : (test : ℕ → Bool) (whole tail : List ℕ) → tail ≡ past test whole → lead test whole ++ tail ≡ whole
joined_up test whole tail e = ap (λ t. lead test whole ++ t) e ∙ sym (split test whole)

pub the_split : (text : List ℕ) → RequirementParts text
the_split text =
    let from_name : List ℕ = past is_ascii_whitespace text in
    let from_blanks : List ℕ = past is_name_byte from_name in
    let t2 : lead is_ascii_whitespace from_blanks ++ behind_name text ≡ from_blanks = joined_up is_ascii_whitespace from_blanks (behind_name text) refl in
    let t1 : lead is_name_byte from_name ++ (lead is_ascii_whitespace from_blanks ++ behind_name text) ≡ from_name = joined_up is_name_byte from_name _ t2 in
    record {
      before = lead is_ascii_whitespace text;
      name = name_of text;
      between = lead is_ascii_whitespace from_blanks;
      rest = behind_name text;
      decomposition = sym (joined_up is_ascii_whitespace text _ t1);
      before_run = longest is_ascii_whitespace text _ t1;
      name_run = longest is_name_byte from_name _ t2;
      between_run = longest is_ascii_whitespace from_blanks (behind_name text) refl;
    }

run_part : (test : ℕ → Bool) (whole part tail : List ℕ) → whole ≡ part ++ tail → IsRun test part tail → lead test whole ≡ part
run_part test whole part tail e h = ap (lead test) e ∙ lead-run test part tail h.0 h.1

run_tail : (test : ℕ → Bool) (whole part tail : List ℕ) → whole ≡ part ++ tail → IsRun test part tail → past test whole ≡ tail
run_tail test whole part tail e h = ap (past test) e ∙ past-run test part tail h.0 h.1

-- the parts of any cut are those that are read
pub split_read : (text : List ℕ) (c : RequirementParts text) → (name_of text ≡ c.name) × (behind_name text ≡ c.rest)
split_read text c =
    let t1 = run_tail is_ascii_whitespace text c.before _ c.decomposition c.before_run in
    let t2 = run_tail is_name_byte (past is_ascii_whitespace text) c.name _ t1 c.name_run in
    (run_part is_name_byte (past is_ascii_whitespace text) c.name _ t1 c.name_run, run_tail is_ascii_whitespace (past is_name_byte (past is_ascii_whitespace text)) c.between c.rest t2 c.between_run)

-- ---- reading says what the grammar says

abbrev pub FrontTells : List ℕ → Result RequirementPrefix RequirementRejection → Type 0
FrontTells text (Ok f) = HasRequirementPrefix text f.name f.extras f.list
FrontTells text (Err Marker) = RejectsRequirement text Marker
FrontTells text (Err Url) = RejectsRequirement text Url
FrontTells text (Err InvalidName) = RejectsRequirement text InvalidName
FrontTells text (Err InvalidExtras) = RejectsRequirement text InvalidExtras
FrontTells text (Err Unclosed) = RejectsRequirement text Unclosed
FrontTells text (Err (Specifiers list f)) = ⊥

module _ (text : List ℕ) (plain : HasNoMarkerOrUrl text) where
  at_list : (c : RequirementParts text) → is_name c.name ≡ true → (extras : List (List ℕ)) (behind : List ℕ) → HasExtras c.rest extras behind → (o : Option (List ℕ)) → list_in (trim_blanks behind) ≡ o
      → FrontTells text (with_list c.name extras o)
  at_list c is extras behind has (Some list) e = record { plain = plain; decomposition = c; named = refl; prefix_after_name = is; behind = behind; has_extras = has; has_list = list_sound behind list e }
  at_list c is extras behind has None e = (plain, (c, is, (extras, behind, has, λ list h. some_none list (sym (list_complete behind list h) ∙ e))))
    where
      some_none : (x : List ℕ) → Some x ≡ None → ⊥
      some_none x h = cc h

  at_extras : (c : RequirementParts text) → is_name c.name ≡ true → (o : Option (List (List ℕ) × List ℕ)) → extras_at c.rest ≡ o → FrontTells text (with_extras c.name o)
  at_extras c is (Some p) e = at_list c is p.0 p.1 (brackets_sound c.rest p e) (list_in (trim_blanks p.1)) refl
  at_extras c is None e = (plain, (c, is, λ extras behind h. some_none (extras, behind) (sym (brackets_complete c.rest extras behind h) ∙ e)))
    where
      some_none : (x : List (List ℕ) × List ℕ) → Some x ≡ None → ⊥
      some_none x h = cc h

  at_name : (c : RequirementParts text) → FrontTells text (prefix_after_name c.name c.rest)
  at_name c = elim (cases_Bool (is_name c.name)) [
    | inl is ↦ subst (FrontTells text) (sym (is_named c.name c.rest is)) (at_extras c is (extras_at c.rest) refl)
    | inr is ↦ subst (FrontTells text) (sym (not_named c.name c.rest is)) (plain, (c, is))
  ]

  pub plain_read : read_prefix text ≡ prefix_after_name (name_of text) (behind_name text)
  plain_read =
      ap (λ (b : Bool). cond b (Err Marker) (cond (has_byte 64 text) (Err Url) (prefix_after_name (name_of text) (behind_name text)))) plain.marker
      ∙ ap (λ (b : Bool). cond b (Err Url) (prefix_after_name (name_of text) (behind_name text))) plain.url

  read_by_split : (c : RequirementParts text) → read_prefix text ≡ prefix_after_name c.name c.rest
  read_by_split c = let parts = split_read text c in plain_read ∙ (λ i. prefix_after_name (parts.0 i) (parts.1 i))

  told_plain : FrontTells text (read_prefix text)
  told_plain = let c : RequirementParts text = the_split text in subst (FrontTells text) (sym (read_by_split c)) (at_name c)

has_marker : (text : List ℕ) → has_byte 59 text ≡ true → read_prefix text ≡ Err Marker
has_marker text e = ap (λ (b : Bool). cond b (Err Marker) (cond (has_byte 64 text) (Err Url) (prefix_after_name (name_of text) (behind_name text)))) e

has_url : (text : List ℕ) → has_byte 59 text ≡ false → has_byte 64 text ≡ true → read_prefix text ≡ Err Url
has_url text none e =
    ap (λ (b : Bool). cond b (Err Marker) (cond (has_byte 64 text) (Err Url) (prefix_after_name (name_of text) (behind_name text)))) none
    ∙ ap (λ (b : Bool). cond b (Err Url) (prefix_after_name (name_of text) (behind_name text))) e

pub prefix_tells : (text : List ℕ) → FrontTells text (read_prefix text)
prefix_tells text = elim (cases_Bool (has_byte 59 text)) [
  | inl marker ↦ subst (FrontTells text) (sym (has_marker text marker)) marker
  | inr no_marker ↦ elim (cases_Bool (has_byte 64 text)) [
    | inl url ↦ subst (FrontTells text) (sym (has_url text no_marker url)) (no_marker, url)
    | inr no_url ↦ told_plain text (record { marker = no_marker; url = no_url })
  ]
]

-- ---- what the grammar says is what reading gives

pub prefix_only : (text : List ℕ) (f : RequirementPrefix) → HasRequirementPrefix text f.name f.extras f.list → read_prefix text ≡ Ok f
prefix_only text f h =
    read_by_split text h.plain h.decomposition ∙ is_named h.decomposition.name h.decomposition.rest h.prefix_after_name ∙ ap (with_extras h.decomposition.name) (brackets_complete h.decomposition.rest f.extras h.behind h.has_extras)
    ∙ ap (with_list h.decomposition.name f.extras) (list_complete h.behind f.list h.has_list) ∙ (λ i. Ok (record { name = sym h.named i; extras = f.extras; list = f.list }))

no_list : (behind : List ℕ) → ((list : List ℕ) → HasList behind list → ⊥) → (o : Option (List ℕ)) → list_in (trim_blanks behind) ≡ o → o ≡ None
no_list behind none None e = refl
no_list behind none (Some list) e = absurd (none list (list_sound behind list e))

no_extras : (rest : List ℕ) → ((extras : List (List ℕ)) (behind : List ℕ) → HasExtras rest extras behind → ⊥) → (o : Option (List (List ℕ) × List ℕ)) → extras_at rest ≡ o → o ≡ None
no_extras rest none None e = refl
no_extras rest none (Some p) e = absurd (none p.0 p.1 (brackets_sound rest p e))

abbrev pub IsOfFront : RequirementRejection → Type 0
IsOfFront Marker = Unit {0}
IsOfFront Url = Unit {0}
IsOfFront InvalidName = Unit {0}
IsOfFront InvalidExtras = Unit {0}
IsOfFront Unclosed = Unit {0}
IsOfFront (Specifiers list f) = ⊥

pub prefix_refused : (text : List ℕ) (f : RequirementRejection) → IsOfFront f → RejectsRequirement text f → read_prefix text ≡ Err f
prefix_refused text Marker k h = has_marker text h
prefix_refused text Url k h = has_url text h.0 h.1
prefix_refused text InvalidName k (plain, (c, is)) = read_by_split text plain c ∙ not_named c.name c.rest is
prefix_refused text InvalidExtras k (plain, (c, is, none)) =
    read_by_split text plain c ∙ is_named c.name c.rest is ∙ ap (with_extras c.name) (no_extras c.rest none (extras_at c.rest) refl)
prefix_refused text Unclosed k (plain, (c, is, (extras, behind, has, none))) =
    read_by_split text plain c ∙ is_named c.name c.rest is ∙ ap (with_extras c.name) (brackets_complete c.rest extras behind has)
    ∙ ap (with_list c.name extras) (no_list behind none (list_in (trim_blanks behind)) refl)
prefix_refused text (Specifiers list f) k h = elim k [ ]
