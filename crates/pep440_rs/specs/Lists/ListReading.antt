-- How the members of a list are read, from the left: a second view of the grammar, which computes.
use Rattle.std.specs.Prelude.{ℕ, ◌+◌, ◌==◌, List, [], ◌∷◌, length, Result, Ok, Err, if◌then◌else◌}
use Rattle.pep440_rs.specs.Lists.ListGrammar.{PieceRejection, pieces}
use Rattle.pep440_rs.specs.Specifiers.SpecifierGrammar.{SpecifierRejection}
use Rattle.pep440_rs.specs.Specifiers.SpecifierReading.{read_specifier}
use Rattle.pep440_rs.specs.Specifiers.{Spec}

-- a piece that begins at start, and then what the later ones give
abbrev pub after_piece : ℕ → List ℕ → Result Spec SpecifierRejection → Result (List Spec) PieceRejection → Result (List Spec) PieceRejection
after_piece start piece (Err f) later = Err (record { error = f; start = start; stop = start + length piece })
after_piece start piece (Ok s) (Err e) = Err e
after_piece start piece (Ok s) (Ok rest) = Ok (s ∷ rest)

-- the pieces in order, the first of which begins at start
unfoldable pub read_pieces : ℕ → List (List ℕ) → Result (List Spec) PieceRejection
read_pieces start [] = Ok []
read_pieces start (p ∷ rest) = after_piece start p (read_specifier p) (read_pieces (start + length p + 1) rest)

-- the members in the order of the string
abbrev pub read_members : List ℕ → Result (List Spec) PieceRejection
read_members text = if length text == 0 then Ok [] else read_pieces 0 (pieces text)
