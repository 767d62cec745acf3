-- The text of a list's error.
use Rattle.std.proofs.Common.{◌≡◌, ℕ, List, Option, Some, None, Result, Ok, Err, sym, ap, subst, option_map, ◌∙◌}
use Rattle.std.specs.Prelude.{IfErr, IfSome}
use Rattle.pep440_rs.specs.ErrorTexts.{specifier_error_text}
use Rattle.pep440_rs.specs.Errors.{parse_kind_of, specifier_rejection_of}
use Rattle.pep440_rs.specs.Lists.ListResults.{line_for, line_of, list_kind_of}
use Rattle.pep440_rs.specs.Lists.ListErrors.{list_rejection_of}
use Rattle.pep440_rs.specs.Lists.ListErrorTexts.{list_rejection_text, list_text_of, piece_text}
use Rattle.pep440_rs.specs.Lists.ListGrammar.{PieceRejection, RejectsList}
use Rattle.pep440_rs.specs.Specifiers.SpecifierGrammar.{SpecifierRejection}
use Rattle.pep440_rs.specs.Specifiers.{Spec}
use Rattle.pep440_rs.specs.declared.list.error.SpecifiersErrorKind.{SpecifiersErrorKind}
use Rattle.pep440_rs.specs.declared.list.error.SpecifiersErrorKind.TheVariants.{Piece, OutOfMemory}
use Rattle.pep440_rs.specs.declared.list.error.VersionSpecifiersParseError.{VersionSpecifiersParseError}
use Rattle.pep440_rs.proofs.Reading.Told.{refusal_told}

piece_told : (text line : List ℕ) (start stop : ℕ) (o : Option SpecifierRejection) → IfSome (option_map (λ f. record { error = f; start = start; stop = stop }) o) (RejectsList text)
    → IfSome (option_map (λ f. record { error = f; start = start; stop = stop }) o) (λ g. option_map (λ inner. piece_text inner line start stop) (specifier_error_text o) ≡ Some (list_rejection_text g line))
piece_told text line start stop None h = tt
piece_told text line start stop (Some f) h = ap (option_map (λ inner. piece_text inner line start stop)) (refusal_told h.piece f h.refused)

list_told : (text : List ℕ) (kind : SpecifiersErrorKind) (line : List ℕ) → line ≡ line_for text kind → IfSome (list_rejection_of kind) (RejectsList text)
    → IfSome (list_rejection_of kind) (λ f. list_text_of kind line ≡ Some (list_rejection_text f text))
list_told text OutOfMemory line e h = tt
list_told text (Piece error start stop) line e h =
    subst (λ l. IfSome (list_rejection_of (Piece error start stop)) (λ f. list_text_of (Piece error start stop) l ≡ Some (list_rejection_text f text))) (sym e)
    (piece_told text text start stop (specifier_rejection_of (parse_kind_of error)) h)

pub is_list_told : (text : List ℕ) (result : Result (List Spec) VersionSpecifiersParseError) → IfErr result (λ e. IfSome (list_rejection_of (list_kind_of e)) (RejectsList text))
    → IfErr result (λ e. line_of e ≡ line_for text (list_kind_of e)) → IfErr result (λ e. IfSome (list_rejection_of (list_kind_of e)) (λ f. list_text_of (list_kind_of e) (line_of e) ≡ Some (list_rejection_text f text)))
is_list_told text (Ok list) h l = tt
is_list_told text (Err e) h l = list_told text (list_kind_of e) (line_of e) l h

-- a refusal holds the whole text
pub holds_line : (text : List ℕ) (o : Option (List ℕ)) (result : Result (List Spec) VersionSpecifiersParseError) → o ≡ Some text → IfErr result (λ e. line_of e ≡ line_for text (list_kind_of e))
    → IfErr result (λ e. IfSome (list_rejection_of (list_kind_of e)) (λ _. o ≡ Some (line_of e)))
holds_line text o (Ok list) is held = tt
holds_line text o (Err e) is held = of_kind (list_kind_of e) held
  where
    always : (r : Option PieceRejection) {P : Type 0} → P → IfSome r (λ _. P)
    always None p = tt
    always (Some f) p = p

    of_kind : (kind : SpecifiersErrorKind) → line_of e ≡ line_for text kind → IfSome (list_rejection_of kind) (λ _. o ≡ Some (line_of e))
    of_kind OutOfMemory line = tt
    of_kind (Piece error start stop) line = always (list_rejection_of (Piece error start stop)) (is ∙ ap Some (sym line))
