-- The strings of requirements: a name, extras in brackets, and a list of specifiers, with parentheses around it or without. A
-- blank is a tab, a line feed, a form feed, a carriage return or a space, and may stand before, between and after the parts.
use Rattle.std.specs.Prelude.{◌≡◌, ◌==◌, ◌⊎◌, ℕ, List, [], ◌∷◌, ◌++◌, Bool, true, false, map}
use Rattle.std.specs.Char.{is_ascii_whitespace}
use Rattle.std.specs.List.{list_all, list_any}
use Rattle.pep440_rs.specs.Blanks.{opens, trim_blanks}
use Rattle.pep440_rs.specs.Lists.ListGrammar.{DerivesList, PieceRejection, RejectsList, pieces}
use Rattle.pep440_rs.specs.Specifiers.SpecifierGrammar.{IsRun}
use Rattle.pep440_rs.specs.Specifiers.{Spec}
use Rattle.pep440_pick.specs.Names.{is_name, is_name_byte}

-- ---- the parts of a string

-- the string has this byte
abbrev pub has_byte : ℕ → List ℕ → Bool
has_byte b text = list_any (λ x. x == b) text

-- the string is split into blanks, a name, blanks and the rest, each but the last as long as possible
pub record RequirementParts (text : List ℕ) : Type 0 where
  pub before : List ℕ
  pub name : List ℕ
  pub between : List ℕ
  pub rest : List ℕ
  pub decomposition : text ≡ before ++ (name ++ (between ++ rest))
  pub before_run : IsRun is_ascii_whitespace before (name ++ (between ++ rest))
  pub name_run : IsRun is_name_byte name (between ++ rest)
  pub between_run : IsRun is_ascii_whitespace between rest

-- blanks alone are no extras; otherwise names stand between commas, with blanks around them
abbrev pub AreExtras : List ℕ → List (List ℕ) → Type 0
AreExtras inside extras = ((list_all is_ascii_whitespace inside ≡ true) × (extras ≡ []))
    ⊎ ((extras ≡ map trim_blanks (pieces inside)) × (list_all is_name extras ≡ true))

-- the string is `[`, what is inside up to the first `]`, and the rest
abbrev pub IsBracketed : List ℕ → List ℕ → List ℕ → Type 0
IsBracketed text inside behind = (text ≡ 91 ∷ (inside ++ (93 ∷ behind))) × (has_byte 93 inside ≡ false)

-- the string begins with these extras in brackets, or has neither extras nor a bracket; then comes the rest
abbrev pub HasExtras : List ℕ → List (List ℕ) → List ℕ → Type 0
HasExtras text extras behind = ((opens 91 text ≡ false) × (extras ≡ []) × (behind ≡ text))
    ⊎ ((inside : List ℕ) × IsBracketed text inside behind × AreExtras inside extras)

-- the string without blanks at its ends is a list, with or without parentheses
abbrev pub HasList : List ℕ → List ℕ → Type 0
HasList text list = ((opens 40 (trim_blanks text) ≡ false) × (list ≡ trim_blanks text))
    ⊎ ((inner : List ℕ) × (trim_blanks text ≡ 40 ∷ (inner ++ 41 ∷ [])) × (list ≡ trim_blanks inner))

-- ---- what a string denotes

-- there is no marker and no URL
pub record HasNoMarkerOrUrl (text : List ℕ) : Type 0 where
  pub marker : has_byte 59 text ≡ false
  pub url : has_byte 64 text ≡ false

-- the string has this name, these extras, and this string for its list
pub record HasRequirementPrefix (text name : List ℕ) (extras : List (List ℕ)) (list : List ℕ) : Type 0 where
  pub plain : HasNoMarkerOrUrl text
  pub decomposition : RequirementParts text
  pub named : name ≡ decomposition.name
  pub prefix_after_name : is_name decomposition.name ≡ true
  pub behind : List ℕ
  pub has_extras : HasExtras decomposition.rest extras behind
  pub has_list : HasList behind list

-- a name, extras, and the members of a list
pub record Needed : Type 0 where
  pub name : List ℕ
  pub extras : List (List ℕ)
  pub specifiers : List Spec

-- the string denotes the requirement
abbrev pub DerivesRequirement : List ℕ → Needed → Type 0
DerivesRequirement text n = (list : List ℕ) × HasRequirementPrefix text n.name n.extras list × DerivesList list n.specifiers

-- why a string is no requirement
pub data RequirementRejection : Type 0 where
  Marker : RequirementRejection
  Url : RequirementRejection
  InvalidName : RequirementRejection
  InvalidExtras : RequirementRejection
  Unclosed : RequirementRejection
  Specifiers : (list : List ℕ) → PieceRejection → RequirementRejection

-- the reasons in the order in which they are tried: each holds only where none before it does
abbrev pub RejectsRequirement : List ℕ → RequirementRejection → Type 0
RejectsRequirement text Marker = has_byte 59 text ≡ true
RejectsRequirement text Url = (has_byte 59 text ≡ false) × (has_byte 64 text ≡ true)
RejectsRequirement text InvalidName = HasNoMarkerOrUrl text × ((c : RequirementParts text) × (is_name c.name ≡ false))
RejectsRequirement text InvalidExtras = HasNoMarkerOrUrl text × ((c : RequirementParts text) × (is_name c.name ≡ true)
    × ((extras : List (List ℕ)) (behind : List ℕ) → HasExtras c.rest extras behind → ⊥))
RejectsRequirement text Unclosed = HasNoMarkerOrUrl text × ((c : RequirementParts text) × (is_name c.name ≡ true)
    × ((extras : List (List ℕ)) × (behind : List ℕ) × HasExtras c.rest extras behind × ((list : List ℕ) → HasList behind list → ⊥)))
RejectsRequirement text (Specifiers list f) = (name : List ℕ) × (extras : List (List ℕ)) × HasRequirementPrefix text name extras list × RejectsList list f
