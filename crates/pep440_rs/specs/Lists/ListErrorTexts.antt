-- The message of a list's error: the message of the piece, the whole string, and a line of carets under the piece.
use Rattle.std.specs.Prelude.{ℕ, List, ◌++◌, Option, Some, option_map, codes, replicate, chars, false, slice_range}
use Rattle.unicode_width.specs.Width.{str_width}
use Rattle.pep440_rs.specs.ErrorTexts.{specifier_error_text, specifier_rejection_text}
use Rattle.pep440_rs.specs.Errors.{parse_kind_of, specifier_rejection_of}
use Rattle.pep440_rs.specs.Lists.ListGrammar.{PieceRejection}
use Rattle.pep440_rs.specs.declared.list.error.SpecifiersErrorKind.{SpecifiersErrorKind}
use Rattle.pep440_rs.specs.declared.list.error.SpecifiersErrorKind.TheVariants.{Piece, OutOfMemory}

-- the columns that a string takes on a terminal
abbrev pub columns : List ℕ → ℕ
columns text = str_width false (chars text)

-- a blank for each column before the piece, and a caret for each of its columns
abbrev pub caret_line : List ℕ → ℕ → ℕ → List ℕ
caret_line line start stop = replicate (columns (slice_range line 0 start)) 32 ++ (replicate (columns (slice_range line start stop)) 94 ++ codes "\n")

-- the message of the piece, the whole string, and the line of carets
abbrev pub piece_text : List ℕ → List ℕ → ℕ → ℕ → List ℕ
piece_text inner line start stop = codes "Failed to parse version: " ++ (inner ++ (codes ":\n" ++ (line ++ (codes "\n" ++ caret_line line start stop))))

-- the message of a reason
abbrev pub list_rejection_text : PieceRejection → List ℕ → List ℕ
list_rejection_text f line = piece_text (specifier_rejection_text f.error) line f.start f.stop

-- the message of an error
abbrev pub list_text_of : SpecifiersErrorKind → List ℕ → Option (List ℕ)
list_text_of (Piece error start stop) line = option_map (λ inner. piece_text inner line start stop) (specifier_error_text (specifier_rejection_of (parse_kind_of error)))
list_text_of OutOfMemory line = Some (codes "out of memory")
