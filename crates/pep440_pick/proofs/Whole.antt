-- What follows for the answers of the reader, and the positions of its errors.
use Rattle.std.proofs.Common.{◌≡◌, ◌∙◌, ℕ, List, [], Option, Some, ap, sym, None, option_map, subst, Result, Ok, Err, Bool, true, false, cond, ◌∷◌, map}
use Rattle.std.specs.Char.{is_ascii_whitespace}
use Rattle.std.specs.Option.{option_map_or}
use Rattle.std.specs.Prelude.{IfSome}
use Rattle.std.specs.Str.{IsTrimAsciiStart}
use Rattle.std.proofs.lemmas.Option.{IfSome_then}
use Rattle.pep440_version.specs.Reading.{lead, past}
use Rattle.pep440_rs.proofs.Blanks.{start_trimmed}
use Rattle.pep440_pick.specs.Names.{is_name_byte, same_name}
use Rattle.pep440_pick.specs.RequirementGrammar.{RequirementRejection, Specifiers, DerivesRequirement, HasRequirementPrefix, Needed, RejectsRequirement, InvalidExtras, InvalidName, Marker, Unclosed, Url}
use Rattle.pep440_pick.specs.RequirementReading.{behind_extras, behind_name, extras_at, list_position, name_of, rejection_position, RequirementPrefix, read_prefix}
use Rattle.pep440_pick.specs.Requirements.{IsOfList}
use Rattle.pep440_rs.specs.Lists.ListResults.{line_for}
use Rattle.pep440_rs.specs.Lists.ListErrors.{list_rejection_of}
use Rattle.pep440_rs.specs.Lists.ListGrammar.{PieceRejection, DerivesList, RejectsList}
use Rattle.pep440_rs.specs.declared.list.error.SpecifiersErrorKind.{SpecifiersErrorKind}
use Rattle.pep440_rs.specs.declared.list.error.SpecifiersErrorKind.TheVariants.{Piece, OutOfMemory}
use Rattle.pep440_pick.specs.Allowed.{lists_of}
use Rattle.pep440_pick.proofs.Tells.{FrontTells, prefix_only, prefix_refused, prefix_tells}

-- the name that was read, and what follows it
pub name_read : (text start name : List ℕ) → IsTrimAsciiStart text start → name ≡ lead is_name_byte start → name ≡ name_of text
name_read text start name trimmed is = is ∙ ap (lead is_name_byte) (start_trimmed text start trimmed)

pub rest_read : (text start back rest : List ℕ) → IsTrimAsciiStart text start → back ≡ past is_name_byte start → IsTrimAsciiStart back rest → rest ≡ behind_name text
rest_read text start back rest trimmed is end = start_trimmed back rest end ∙ ap (past is_ascii_whitespace) (is ∙ ap (past is_name_byte) (start_trimmed text start trimmed))

-- what follows the extras that were read
pub behind_read : (text rest behind end : List ℕ) (extras : List (List ℕ)) → rest ≡ behind_name text → Some (extras, behind) ≡ extras_at rest → IsTrimAsciiStart behind end → end ≡ behind_extras text
behind_read text rest behind end extras named read is =
    start_trimmed behind end is ∙ ap (λ (o : Option (List (List ℕ) × List ℕ)). past is_ascii_whitespace (option_map_or (λ p. p.1) o [])) (read ∙ ap extras_at named)

-- the error of the list is at the list
pub at_list : (text list : List ℕ) (o : Option RequirementRejection) (position : ℕ) → position ≡ list_position text → IfSome o (IsOfList list) → IfSome o (λ f. position ≡ rejection_position text f)
at_list text list o position is of_list = IfSome_then o of_list (λ g h. is ∙ ap (rejection_position text) (sym h.2))

-- ---- the error of a list, as the error of a requirement

with_line : (o : Option PieceRejection) (text line : List ℕ) (P : RequirementRejection → Type 0) → line ≡ text → IfSome o (λ f. P (Specifiers text f)) → IfSome (option_map (λ f. Specifiers line f) o) P
with_line None text line P e h = tt
with_line (Some f) text line P e h = subst (λ l. P (Specifiers l f)) (sym e) h

by_kind : (kind : SpecifiersErrorKind) (text line : List ℕ) (P : RequirementRejection → Type 0) → line ≡ line_for text kind → IfSome (list_rejection_of kind) (λ f. P (Specifiers text f))
    → IfSome (option_map (λ f. Specifiers line f) (list_rejection_of kind)) P
by_kind (Piece error start stop) text line P e h = with_line (list_rejection_of (Piece error start stop)) text line P e h
by_kind OutOfMemory text line P e h = tt

-- what holds of the list's refusal holds of the requirement's
pub of_refusal : (kind : SpecifiersErrorKind) (text line : List ℕ) (o : Option RequirementRejection) (P : RequirementRejection → Type 0) → o ≡ option_map (λ f. Specifiers line f) (list_rejection_of kind)
    → line ≡ line_for text kind → IfSome (list_rejection_of kind) (λ f. P (Specifiers text f)) → IfSome o P
of_refusal kind text line o P is e h = subst (λ x. IfSome x P) (sym is) (by_kind kind text line P e h)

abbrev pub front : List ℕ → List (List ℕ) → List ℕ → RequirementPrefix
front name extras list = record { name = name; extras = extras; list = list }

abbrev pub err_of : RequirementRejection → Result Needed RequirementRejection
err_of f = Err f

-- ---- where the parts are refused

pub told_prefix : (text : List ℕ) (f : RequirementRejection) → FrontTells text (Err f) → RejectsRequirement text f
told_prefix text Marker h = h
told_prefix text Url h = h
told_prefix text InvalidName h = h
told_prefix text InvalidExtras h = h
told_prefix text Unclosed h = h
told_prefix text (Specifiers list f) h = elim h [ ]

never : {A B P : Type 0} (r : Result A B) (x : A) (y : B) → r ≡ Ok x → r ≡ Err y → P
never r x y e h = absurd (apart e h)
  where
    apart : r ≡ Ok x → r ≡ Err y → ⊥
    apart e h = cc

module _ (text : List ℕ) (o : Option RequirementRejection) (given : IfSome o (λ f. read_prefix text ≡ Err f)) where
  pub prefix_err_refused : IfSome o (RejectsRequirement text)
  prefix_err_refused = IfSome_then o given (λ f e. told_prefix text f (subst (FrontTells text) e (prefix_tells text)))

  same_err : (f g : RequirementRejection) → read_prefix text ≡ Err f → read_prefix text ≡ Err g → err_of f ≡ Err g
  same_err f g e h = let same : f ≡ g = cc in ap err_of same

  pub prefix_err_decided : (f : RequirementRejection) → RejectsRequirement text f → IfSome o (λ g. err_of f ≡ Err g)
  prefix_err_decided Marker h = IfSome_then o given (λ g e. same_err Marker g (prefix_refused text Marker tt h) e)
  prefix_err_decided Url h = IfSome_then o given (λ g e. same_err Url g (prefix_refused text Url tt h) e)
  prefix_err_decided InvalidName h = IfSome_then o given (λ g e. same_err InvalidName g (prefix_refused text InvalidName tt h) e)
  prefix_err_decided InvalidExtras h = IfSome_then o given (λ g e. same_err InvalidExtras g (prefix_refused text InvalidExtras tt h) e)
  prefix_err_decided Unclosed h = IfSome_then o given (λ g e. same_err Unclosed g (prefix_refused text Unclosed tt h) e)
  prefix_err_decided (Specifiers list p) (name, extras, has, refuses) =
      let f = front name extras list in IfSome_then o given (λ g e. never (read_prefix text) f g (prefix_only text f has) e)

-- ---- where the parts are read

module _ (text : List ℕ) (prefix : RequirementPrefix) (is : read_prefix text ≡ Ok prefix) where
  pub the_prefix : HasRequirementPrefix text prefix.name prefix.extras prefix.list
  the_prefix = subst (FrontTells text) is (prefix_tells text)

  same_prefix : (f : RequirementPrefix) → HasRequirementPrefix text f.name f.extras f.list → f ≡ prefix
  same_prefix f h = let other = prefix_only text f h in cc

  pub parts_of : (n : Needed) → DerivesRequirement text n → (n.name ≡ prefix.name) × (n.extras ≡ prefix.extras) × DerivesList prefix.list n.specifiers
  parts_of n (list, has, derives) =
      let same = same_prefix (front n.name n.extras list) has in
      (ap (λ (x : RequirementPrefix). x.name) same, ap (λ (x : RequirementPrefix). x.extras) same, subst (λ (x : RequirementPrefix). DerivesList x.list n.specifiers) same derives)

  pub refusal_of_list : (f : RequirementRejection) → RejectsRequirement text f → (p : PieceRejection) × (f ≡ Specifiers prefix.list p) × RejectsList prefix.list p
  refusal_of_list Marker h = never (read_prefix text) prefix Marker is (prefix_refused text Marker tt h)
  refusal_of_list Url h = never (read_prefix text) prefix Url is (prefix_refused text Url tt h)
  refusal_of_list InvalidName h = never (read_prefix text) prefix InvalidName is (prefix_refused text InvalidName tt h)
  refusal_of_list InvalidExtras h = never (read_prefix text) prefix InvalidExtras is (prefix_refused text InvalidExtras tt h)
  refusal_of_list Unclosed h = never (read_prefix text) prefix Unclosed is (prefix_refused text Unclosed tt h)
  refusal_of_list (Specifiers list p) (name, extras, has, refuses) =
      let same = same_prefix (front name extras list) has in
      (p, ap (λ (x : RequirementPrefix). Specifiers x.list p) same, subst (λ (x : RequirementPrefix). RejectsList x.list p) same refuses)

  -- the list is refused

  pub list_err_refused : (o : Option RequirementRejection) → IfSome o (IsOfList prefix.list) → IfSome o (RejectsRequirement text)
  list_err_refused o given = IfSome_then o given (λ g h. subst (RejectsRequirement text) (sym h.2) (prefix.name, prefix.extras, the_prefix, h.1))

  -- the list is read

  pub list_ok_found : (n : Needed) → n.name ≡ prefix.name → n.extras ≡ prefix.extras → DerivesList prefix.list n.specifiers → DerivesRequirement text n
  list_ok_found n name extras d =
      (prefix.list, subst (λ x. HasRequirementPrefix text x n.extras prefix.list) (sym name) (subst (λ x. HasRequirementPrefix text prefix.name x prefix.list) (sym extras) the_prefix), d)

-- the list of a requirement of this name, or none
pub of_name : (n : Needed) (name : List ℕ) (b : Bool) → same_name n.name name ≡ b → cond b (n.specifiers ∷ []) [] ≡ lists_of name (n ∷ [])
of_name n name true is = ap (λ (c : Bool). map (λ (m : Needed). m.specifiers) (cond c (n ∷ []) [])) (sym is)
of_name n name false is = ap (λ (c : Bool). map (λ (m : Needed). m.specifiers) (cond c (n ∷ []) [])) (sym is)
