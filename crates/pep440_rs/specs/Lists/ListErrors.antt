-- What the kind of a list's error reports, apart from its address in memory.
use Rattle.std.specs.Prelude.{◌≡◌, ◌≤◌, ◌+◌, ℕ, Bool, List, Option, option_map, None, Result, Ok, Err, IfSome, IsCharBoundary, false, length, true}
use Rattle.pep440_rs.specs.Errors.{parse_kind_of, specifier_rejection_of}
use Rattle.pep440_rs.specs.Lists.ListGrammar.{PieceRejection}
use Rattle.pep440_rs.specs.Specifiers.SpecifierGrammar.{SpecifierRejection}
use Rattle.pep440_rs.specs.Specifiers.{Spec}
use Rattle.pep440_rs.specs.declared.list.error.SpecifiersErrorKind.{SpecifiersErrorKind}
use Rattle.pep440_rs.specs.declared.list.error.SpecifiersErrorKind.TheVariants.{Piece, OutOfMemory}

-- the reason of an error, or `None` when out of memory
abbrev pub list_rejection_of : SpecifiersErrorKind → Option PieceRejection
list_rejection_of (Piece error start stop) = option_map (λ f. record { error = f; start = start; stop = stop }) (specifier_rejection_of (parse_kind_of error))
list_rejection_of OutOfMemory = None

-- whether it is out of memory
abbrev pub lacks_list_memory : SpecifiersErrorKind → Bool
lacks_list_memory OutOfMemory = true
lacks_list_memory _ = false

-- where the piece begins and ends, in bytes
abbrev pub span_of : SpecifiersErrorKind → ℕ × ℕ
span_of (Piece error start stop) = (start, stop)
span_of OutOfMemory = (0, 0)

-- the piece is a part of the string, and the string may be split at both its ends
pub record IsSpan (text : List ℕ) (kind : SpecifiersErrorKind) : Type 0 where
  pub in_order : (span_of kind).0 ≤ (span_of kind).1
  pub starts : IsCharBoundary text (span_of kind).0
  pub stops : IsCharBoundary text (span_of kind).1

-- out of memory is the outer error's own kind, never inside another
abbrev pub IsListLifted : SpecifiersErrorKind → Type 0
IsListLifted kind = list_rejection_of kind ≡ None → kind ≡ OutOfMemory

-- a piece that begins at start was read as reading gives it, unless an allocation failed
abbrev pub ParsesPiece : ℕ → List ℕ → Result Spec SpecifiersErrorKind → Result Spec SpecifierRejection → Type 0
ParsesPiece start piece (Ok s) read = read ≡ Ok s
ParsesPiece start piece (Err OutOfMemory) read = Unit {0}
ParsesPiece start piece (Err (Piece error begin end)) read =
    IfSome (specifier_rejection_of (parse_kind_of error)) (λ f. read ≡ Err f) × (begin ≡ start) × (end ≡ start + length piece)

-- the members, seen by view, were read as reading gives them, unless an allocation failed
abbrev pub ParsesMembers : {X : Type 0} → (X → List Spec) → Result X SpecifiersErrorKind → Result (List Spec) PieceRejection → Type 0
ParsesMembers view (Ok members) read = read ≡ Ok (view members)
ParsesMembers view (Err kind) read = IfSome (list_rejection_of kind) (λ f. read ≡ Err f)
