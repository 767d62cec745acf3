-- The pieces of a list's text, as they are read one after another.
use Rattle.std.proofs.Common.{◌≡◌, ◌≢◌, ◌==◌, ◌<◌, ◌+◌, ◌-◌, ◌∙◌, ℕ, suc, List, [], ◌∷◌, ◌++◌, false, All, Option, Some, None, Result, Ok, Err, length, drop, get_or, refl, sym, ap, subst, option_map, arith, inl, inr, eqb-true, take, take-append-drop}
use Rattle.std.proofs.lemmas.Bool.{cases_Bool}
use Rattle.std.proofs.lemmas.List.{append_assoc, drop_at, drop_more, length-append}
use Rattle.std.proofs.lemmas.List.Splits.{slice_split_at}
use Rattle.std.proofs.lemmas.Str.{IsCharBoundary-after_ascii, IsCharBoundary-before_ascii, IsCharBoundary-start, IsUtf8-drop}
use Rattle.std.specs.Prelude.{IfSome}
use Rattle.std.specs.Str.{IsCharBoundary, IsUtf8}
use Rattle.pep440_version.specs.Reading.{EndsWith}
use Rattle.pep440_version.proofs.Reading.Endings.{ends_then, seam}
use Rattle.pep440_rs.specs.Errors.{parse_kind_of, specifier_rejection_of}
use Rattle.pep440_rs.specs.Lists.ListErrors.{IsSpan, ParsesPiece, list_rejection_of}
use Rattle.pep440_rs.specs.Lists.ListGrammar.{PieceRejection, pieces}
use Rattle.pep440_rs.specs.Lists.ListReading.{after_piece, read_members, read_pieces}
use Rattle.pep440_rs.specs.Specifiers.SpecifierGrammar.{SpecifierRejection}
use Rattle.pep440_rs.specs.Specifiers.SpecifierReading.{read_specifier}
use Rattle.pep440_rs.specs.Specifiers.{Spec}
use Rattle.pep440_rs.specs.declared.list.error.SpecifiersErrorKind.{SpecifiersErrorKind}
use Rattle.pep440_rs.specs.declared.list.error.SpecifiersErrorKind.TheVariants.{Piece, OutOfMemory}

abbrev pub HasNoComma : List ℕ → Type 0
HasNoComma t = (i : ℕ) → i < length t → get_or t i 0 ≢ 44

later_bytes : (b : ℕ) (t : List ℕ) → HasNoComma (b ∷ t) → HasNoComma t
later_bytes b t none i lt = none (suc i) (omega (arith, lt))

first_byte : (b : ℕ) (t : List ℕ) → HasNoComma (b ∷ t) → (b == 44) ≡ false
first_byte b t none = elim (cases_Bool (b == 44)) [
  | inl e ↦ absurd (none 0 (omega arith) (eqb-true b 44 e))
  | inr e ↦ e
]

-- a text without a comma is one piece
pub pieces_whole : (t : List ℕ) → HasNoComma t → pieces t ≡ t ∷ []
pieces_whole [] none = refl
pieces_whole (b ∷ t) none = rw (first_byte b t none, pieces_whole t (later_bytes b t none)) refl

-- up to the first comma is a piece
pub pieces_split : (p q : List ℕ) → HasNoComma p → pieces (p ++ (44 ∷ q)) ≡ p ∷ pieces q
pieces_split [] q none = refl
pieces_split (b ∷ p) q none = rw (first_byte b p none, pieces_split p q (later_bytes b p none)) refl

-- a text with a comma, before and behind that
pub at_comma : (text : List ℕ) (i : ℕ) → i < length text → get_or text i 0 ≡ 44 → text ≡ take i text ++ (44 ∷ drop (i + 1) text)
at_comma text i inside comma = sym (take-append-drop i text) ∙ ap (λ (zs : List ℕ). take i text ++ zs) (drop_more text i 0 inside ∙ ap (λ (z : ℕ). z ∷ drop (i + 1) text) comma)

pub piece_read : (text : List ℕ) (i : ℕ) → i < length text → get_or text i 0 ≡ 44 → All (λ x. (x == 44) ≡ false) (take i text) → pieces text ≡ take i text ∷ pieces (drop (i + 1) text)
piece_read text i inside comma before = ap pieces (at_comma text i inside comma) ∙ slice_split_at (λ x. x == 44) (take i text) 44 (drop (i + 1) text) before refl

-- the text may be cut before and behind a comma
pub piece_boundary : (text bytes : List ℕ) (i : ℕ) → bytes ≡ text → i < length bytes → get_or bytes i 0 ≡ 44 → IsCharBoundary text i
piece_boundary text bytes i e inside comma = subst (λ t. IsCharBoundary t i) e (IsCharBoundary-before_ascii bytes i inside (omega (arith, comma)))

pub comma_boundary : (text bytes : List ℕ) (i : ℕ) → bytes ≡ text → IsUtf8 text → i < length bytes → get_or bytes i 0 ≡ 44 → IsCharBoundary text (i + 1)
comma_boundary text bytes i e utf8 inside comma =
    IsCharBoundary-after_ascii text i utf8 (subst (λ t. i < length t) e inside) (subst (λ t. get_or t i 0 < 128) e (omega (arith, comma)))

-- members that were read before what is still to be read
abbrev pub with_members : List Spec → Result (List Spec) PieceRejection → Result (List Spec) PieceRejection
with_members prefix (Ok rest) = Ok (prefix ++ rest)
with_members prefix (Err f) = Err f

one_more : (prefix : List Spec) (s : Spec) (k : ℕ) (p : List ℕ) (later : Result (List Spec) PieceRejection) → with_members prefix (after_piece k p (Ok s) later) ≡ with_members (prefix ++ s ∷ []) later
one_more prefix s k p (Ok rest) = ap Ok (sym (append_assoc prefix (s ∷ []) rest))
one_more prefix s k p (Err f) = refl

-- ---- a piece before a comma

steps : (text rest piece later : List ℕ) → EndsWith text rest → rest ≡ piece ++ (44 ∷ later) → length text - length later ≡ length text - length rest + length piece + 1
steps text rest piece later h e =
    let long = ap length h.1 ∙ length-append h.0 rest in
    let rest_long = ap length e ∙ length-append piece (44 ∷ later) in
    omega (arith, long, rest_long)

here : (k : ℕ) (rest piece : List ℕ) (tail : List (List ℕ)) → pieces rest ≡ piece ∷ tail → read_pieces k (pieces rest) ≡ after_piece k piece (read_specifier piece) (read_pieces (k + length piece + 1) tail)
unfolding read_pieces
here k rest piece tail e = ap (read_pieces k) e

pub goes_on : (prefix : List Spec) (s : Spec) (out : Result (List Spec) PieceRejection) (text rest piece later : List ℕ) → EndsWith text rest → rest ≡ piece ++ (44 ∷ later) → pieces rest ≡ piece ∷ pieces later → read_specifier piece ≡ Ok s
    → out ≡ with_members prefix (read_pieces (length text - length rest) (pieces rest)) → out ≡ with_members (prefix ++ s ∷ []) (read_pieces (length text - length later) (pieces later))
goes_on prefix s out text rest piece later h e split read is =
    is ∙ ap (with_members prefix) (here (length text - length rest) rest piece (pieces later) split
    ∙ ap (λ x. after_piece (length text - length rest) piece x (read_pieces (length text - length rest + length piece + 1) (pieces later))) read)
    ∙ one_more prefix s (length text - length rest) piece (read_pieces (length text - length rest + length piece + 1) (pieces later)) ∙ ap (λ k. with_members (prefix ++ s ∷ []) (read_pieces k (pieces later))) (sym (steps text rest piece later h e))

pub stops_here : (prefix : List Spec) (f : SpecifierRejection) (out : Result (List Spec) PieceRejection) (k : ℕ) (rest piece : List ℕ) (tail : List (List ℕ)) → pieces rest ≡ piece ∷ tail → read_specifier piece ≡ Err f
    → out ≡ with_members prefix (read_pieces k (pieces rest)) → out ≡ Err (record { error = f; start = k; stop = k + length piece })
stops_here prefix f out k rest piece tail split read is =
    is ∙ ap (with_members prefix) (here k rest piece tail split ∙ ap (λ x. after_piece k piece x (read_pieces (k + length piece + 1) tail)) read)

-- ---- the last piece

pub ends_here : (prefix : List Spec) (s : Spec) (out : Result (List Spec) PieceRejection) (k : ℕ) (rest piece : List ℕ) → pieces rest ≡ piece ∷ [] → read_specifier piece ≡ Ok s
    → out ≡ with_members prefix (read_pieces k (pieces rest)) → out ≡ Ok (prefix ++ s ∷ [])
unfolding read_pieces
ends_here prefix s out k rest piece split read is = is ∙ ap (with_members prefix) (here k rest piece [] split ∙ ap (λ x. after_piece k piece x (Ok [])) read)

-- ---- the error of a piece

pub piece_refused : (kind : SpecifiersErrorKind) (k : ℕ) (p : List ℕ) (read : Result Spec SpecifierRejection) (out : Result (List Spec) PieceRejection) → ParsesPiece k p (Err kind) read
    → ((f : SpecifierRejection) → read ≡ Err f → out ≡ Err (record { error = f; start = k; stop = k + length p })) → IfSome (list_rejection_of kind) (λ f. out ≡ Err f)
piece_refused OutOfMemory k p read out h all = tt
piece_refused (Piece error begin end) k p read out (told, b, e) all = by_refusal (specifier_rejection_of (parse_kind_of error)) told
  where
    by_refusal : (o : Option SpecifierRejection) → IfSome o (λ f. read ≡ Err f) → IfSome (option_map (λ f. record { error = f; start = begin; stop = end }) o) (λ f. out ≡ Err f)
    by_refusal None h = tt
    by_refusal (Some f) h = all f h ∙ (λ i. Err (record { error = f; start = sym b i; stop = sym e i }))

-- the piece lies in the text where the error says
pub piece_span : (kind : SpecifiersErrorKind) (text rest piece tail : List ℕ) (read : Result Spec SpecifierRejection) → IsUtf8 text → IsUtf8 rest → IsCharBoundary rest (length piece) → EndsWith text rest → rest ≡ piece ++ tail
    → ParsesPiece (length text - length rest) piece (Err kind) read → IsSpan text kind
piece_span OutOfMemory text rest piece tail read u v w h e given = record { in_order = omega arith; starts = IsCharBoundary-start text u; stops = IsCharBoundary-start text u }
piece_span (Piece error begin end) text rest piece tail read u v w h e (told, b, s) =
    let long = ap length h.1 ∙ length-append h.0 rest in
    let rest_long = ap length e ∙ length-append piece tail in
    let at : length text - length tail ≡ end = omega (arith, long, rest_long, s) in
    let behind : drop (length piece) rest ≡ tail = ap (drop (length piece)) e ∙ drop_at piece tail (length piece) refl in
    record {
      in_order = omega (arith, b, s);
      starts = subst (IsCharBoundary text) (sym b) (seam text rest h v);
      stops = subst (IsCharBoundary text) at (seam text tail (ends_then text rest tail h (piece, e)) (subst IsUtf8 behind (IsUtf8-drop rest (length piece) v w)));
    }

at_seam : (prefix : List ℕ) (b : ℕ) (later : List ℕ) → get_or (prefix ++ (b ∷ later)) (length prefix) 0 ≡ b
at_seam [] b later = refl
at_seam (x ∷ prefix) b later = at_seam prefix b later

-- what follows a comma is text
pub after_comma : (text prefix later : List ℕ) → IsUtf8 text → text ≡ prefix ++ (44 ∷ later) → IsUtf8 later
after_comma text prefix later u e =
    let whole : IsUtf8 (prefix ++ (44 ∷ later)) = subst IsUtf8 e u in
    let long = length-append prefix (44 ∷ later) in
    let seam_byte = at_seam prefix 44 later in
    let boundary = IsCharBoundary-after_ascii (prefix ++ (44 ∷ later)) (length prefix) whole (omega (arith, long)) (omega (arith, seam_byte)) in
    let one_long = length-append prefix (44 ∷ []) in
    subst IsUtf8 (ap (drop (length prefix + 1)) (sym (append_assoc prefix (44 ∷ []) later)) ∙ drop_at (prefix ++ (44 ∷ [])) later (length prefix + 1) (omega (arith, one_long)))
    (IsUtf8-drop (prefix ++ (44 ∷ later)) (length prefix + 1) whole boundary)

pub members_from : (text : List ℕ) → (length text == 0) ≡ false → read_members text ≡ read_pieces 0 (pieces text)
members_from text some = rw some refl
