-- What the parser of lists returns.
use Rattle.std.specs.Prelude.{◌≡◌, ℕ, List, [], Result, Ok, Err, string_bytes, IfSome}
use Rattle.pep440_version.specs.Errors.{ReturnsOutcome}
use Rattle.pep440_rs.specs.Arrangement.{Arranges}
use Rattle.pep440_rs.specs.Lists.ListErrors.{list_rejection_of}
use Rattle.pep440_rs.specs.Lists.ListGrammar.{PieceRejection}
use Rattle.pep440_rs.specs.Specifiers.{Spec}
use Rattle.pep440_rs.specs.declared.list.error.SpecifiersErrorKind.{SpecifiersErrorKind}
use Rattle.pep440_rs.specs.declared.list.error.SpecifiersErrorKind.TheVariants.{Piece, OutOfMemory}
use Rattle.pep440_rs.specs.declared.list.error.VersionSpecifiersParseError.{VersionSpecifiersParseError}

-- the kind of a list's parse error
abbrev pub list_kind_of : VersionSpecifiersParseError → SpecifiersErrorKind
list_kind_of e = e.kind

-- the string that an error holds
abbrev pub line_of : VersionSpecifiersParseError → List ℕ
line_of e = string_bytes e.line

-- the whole string if a piece is invalid; the empty string when out of memory
abbrev pub line_for : List ℕ → SpecifiersErrorKind → List ℕ
line_for text (Piece error start stop) = text
line_for text OutOfMemory = []

-- the result is this outcome, unless an allocation failed
abbrev pub ReturnsList : Result (List Spec) VersionSpecifiersParseError → Result (List Spec) PieceRejection → Type 0
ReturnsList = ReturnsOutcome (λ e. list_rejection_of (list_kind_of e))

-- the result is the arrangement of the members that reading gives, or its error, unless an allocation failed
abbrev pub ListReads : Result (List Spec) VersionSpecifiersParseError → Result (List Spec) PieceRejection → Type 0
ListReads (Ok list) read = (members : List Spec) × (read ≡ Ok members) × Arranges members list
ListReads (Err e) read = IfSome (list_rejection_of (list_kind_of e)) (λ f. read ≡ Err f)
