-- The steps of reading a specifier.
use Rattle.std.proofs.Common.{◌≡◌, ◌==◌, ◌∙◌, ℕ, List, true, false, Option, Some, None, Result, Err, length, refl, sym, ap, option_map, if◌then◌else◌}
use Rattle.std.specs.Char.{is_whitespace, is_not_whitespace}
use Rattle.std.specs.Prelude.{IfSome}
use Rattle.std.specs.Str.{chars, encode_utf8_all}
use Rattle.pep440_version.specs.Reading.{lead, past}
use Rattle.pep440_version.specs.Whole.{read_pattern}
use Rattle.pep440_rs.specs.Errors.{specifier_rejection_of}
use Rattle.pep440_rs.specs.Operators.{Spells}
use Rattle.pep440_rs.specs.Specifiers.SpecifierGrammar.{InvalidOperator, MissingOperator, MissingVersion, SpecifierRejection, is_operator_char}
use Rattle.pep440_rs.specs.Specifiers.SpecifierReading.{from_operator, from_rest, from_version, read_parts, read_specifier, with_pattern}
use Rattle.pep440_rs.specs.Specifiers.{Spec}
use Rattle.pep440_rs.specs.declared.specifier.error.ParseErrorKind.{ParseErrorKind}
use Rattle.pep440_rs.specs.declared.specifier.operator.Operator.{Operator}
use Rattle.pep440_rs.proofs.Reading.Spelled.{spelled_none, spelled_read}

pub operator_bytes : (text opened spelled : List ℕ) → chars opened ≡ past is_whitespace (chars text) → spelled ≡ encode_utf8_all (lead is_operator_char (chars opened))
    → encode_utf8_all (lead is_operator_char (from_operator text)) ≡ spelled
operator_bytes text opened spelled e f = ap (λ cs. encode_utf8_all (lead is_operator_char cs)) (sym e) ∙ sym f

pub no_operator : (text spelled : List ℕ) → encode_utf8_all (lead is_operator_char (from_operator text)) ≡ spelled → (length spelled == 0) ≡ true → read_specifier text ≡ Err MissingOperator
unfolding read_parts
no_operator text spelled is none = rw (is, none) refl

pub unknown_operator : (text spelled : List ℕ) → encode_utf8_all (lead is_operator_char (from_operator text)) ≡ spelled → (length spelled == 0) ≡ false
    → ((o : Operator) → Spells spelled o → ⊥) → read_specifier text ≡ Err (InvalidOperator spelled)
unfolding read_parts
unknown_operator text spelled is some none = rw (is, some, spelled_none spelled none) refl

pub known_operator : (text spelled version rest : List ℕ) (o : Operator) → encode_utf8_all (lead is_operator_char (from_operator text)) ≡ spelled → (length spelled == 0) ≡ false → Spells spelled o
    → encode_utf8_all (lead is_not_whitespace (from_version text)) ≡ version → encode_utf8_all (from_rest text) ≡ rest
    → read_specifier text ≡ (if length version == 0 then Err MissingVersion else with_pattern o (read_pattern version) rest)
unfolding read_parts
known_operator text spelled version rest o is some spells is_version is_rest = rw (is, some, spelled_read spelled o spells, is_version, is_rest) refl

-- an error that names this operator
pub names_operator : (kind : ParseErrorKind) (u : Option (List ℕ)) (read : Result Spec SpecifierRejection) (spelled : List ℕ) → specifier_rejection_of kind ≡ option_map InvalidOperator u
    → IfSome u (λ got. got ≡ spelled) → read ≡ Err (InvalidOperator spelled) → IfSome (specifier_rejection_of kind) (λ f. read ≡ Err f)
names_operator kind None read spelled e named is = rw e tt
names_operator kind (Some got) read spelled e named is = rw e (is ∙ ap (λ t. Err (InvalidOperator t)) (sym named))
