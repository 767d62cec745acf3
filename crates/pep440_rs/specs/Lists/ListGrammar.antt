-- The strings that denote lists (PEP 440, "Version specifiers"): specifiers with commas between them; the empty string is the empty
-- list.
use Rattle.std.specs.Prelude.{◌≡◌, ◌<◌, ◌+◌, ◌==◌, ◌⊎◌, ℕ, List, [], ◌∷◌, ◌++◌, length, sum_by}
use Rattle.std.specs.List.{AllZip, slice_split}
use Rattle.pep440_rs.specs.Arrangement.{Arranges}
use Rattle.pep440_rs.specs.Specifiers.SpecifierGrammar.{DerivesSpecifier, RejectsSpecifier, SpecifierRejection}
use Rattle.pep440_rs.specs.Specifiers.{Spec}

-- the pieces of a string between its commas
abbrev pub pieces : List ℕ → List (List ℕ)
pieces text = slice_split (λ b. b == 44) text

-- the string denotes the list: each piece denotes the specifier at its position
abbrev pub DerivesList : List ℕ → List Spec → Type 0
DerivesList text list = ((text ≡ []) × (list ≡ []))
    ⊎ ((0 < length text) × (members : List Spec) × AllZip DerivesSpecifier (pieces text) members × Arranges members list)

-- why a string is no list: the reason of a piece, and where the piece begins and ends, in bytes
pub record PieceRejection : Type 0 where
  pub error : SpecifierRejection
  pub start : ℕ
  pub stop : ℕ

-- the first invalid piece decides: all pieces before it denote specifiers, and it begins after them and their commas
pub record RejectsList (text : List ℕ) (f : PieceRejection) : Type 0 where
  pub some : 0 < length text
  pub before : List (List ℕ)
  pub piece : List ℕ
  pub after : List (List ℕ)
  pub split : pieces text ≡ before ++ (piece ∷ after)
  pub members : List Spec
  pub derived : AllZip DerivesSpecifier before members
  pub refused : RejectsSpecifier piece f.error
  pub start : f.start ≡ sum_by (λ p. length p + 1) before
  pub stop : f.stop ≡ f.start + length piece
