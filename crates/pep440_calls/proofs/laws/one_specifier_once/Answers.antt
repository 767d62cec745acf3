-- Bytes denote one specifier, or are rejected for one reason, and never both.
use Rattle.std.proofs.Common.{◌≡◌, ◌⊎◌, ◌∙◌, ℕ, List, Bool, true, false, refl, sym, ap, inl, inr}
use Rattle.std.proofs.lemmas.Str.{IsUtf8-from_is_utf8}
use Rattle.std.specs.Str.{IsUtf8, is_utf8}
use Rattle.pep440_rs.proofs.Reading.OneMeaning.{either_specifier, not_both_specifier, one_specifier, one_specifier_refusal}
use Rattle.pep440_rs.specs.ErrorTexts.{specifier_rejection_text}
use Rattle.pep440_rs.specs.Specifiers.{Spec}
use Rattle.pep440_rs.specs.Specifiers.SpecifierGrammar.{DerivesSpecifier, RejectsSpecifier, SpecifierRejection}
use Rattle.pep440_calls.proofs.Once.{no_specifier_text, no_utf8}
use Rattle.pep440_calls.proofs.laws.one_specifier_once.Goals as goal
use Rattle.pep440_calls.specs.CallResults.{BytesDenoteSpecifier, RejectsSpecifierBytes, ExplainsSpecifier}

one_bytes_specifier : (bytes : List ℕ) (s t : Spec) → BytesDenoteSpecifier bytes s → BytesDenoteSpecifier bytes t → s ≡ t
one_bytes_specifier bytes s t (u, means) (v, other) = one_specifier bytes s t means other

one_specifier_why : (bytes words others : List ℕ) → ExplainsSpecifier bytes words → ExplainsSpecifier bytes others → words ≡ others
one_specifier_why bytes words others (inl (stray, w)) (inl (again, o)) = w ∙ sym o
one_specifier_why bytes words others (inl (stray, w)) (inr (utf8, g, other, o)) = absurd (stray utf8)
one_specifier_why bytes words others (inr (utf8, f, why, w)) (inl (stray, o)) = absurd (stray utf8)
one_specifier_why bytes words others (inr (utf8, f, why, w)) (inr (again, g, other, o)) = w ∙ ap specifier_rejection_text (one_specifier_refusal bytes f g why other) ∙ sym o

of_specifier : (bytes : List ℕ) → IsUtf8 bytes → ((s : Spec) × DerivesSpecifier bytes s) ⊎ ((f : SpecifierRejection) × RejectsSpecifier bytes f)
    → ((s : Spec) × BytesDenoteSpecifier bytes s) ⊎ RejectsSpecifierBytes bytes
of_specifier bytes utf8 (inl (s, means)) = inl (s, (utf8, means))
of_specifier bytes utf8 (inr (f, why)) = inr (specifier_rejection_text f, inr (utf8, f, why, refl))

either_specifier_by : (bytes : List ℕ) (b : Bool) → is_utf8 bytes ≡ b → ((s : Spec) × BytesDenoteSpecifier bytes s) ⊎ RejectsSpecifierBytes bytes
either_specifier_by bytes true is = of_specifier bytes (IsUtf8-from_is_utf8 bytes is) (either_specifier bytes)
either_specifier_by bytes false is = inr (no_specifier_text bytes (no_utf8 bytes is))

either_bytes_specifier : (bytes : List ℕ) → ((s : Spec) × BytesDenoteSpecifier bytes s) ⊎ RejectsSpecifierBytes bytes
either_bytes_specifier bytes = either_specifier_by bytes (is_utf8 bytes) refl

never_both_specifiers : (bytes : List ℕ) (s : Spec) → BytesDenoteSpecifier bytes s → RejectsSpecifierBytes bytes → ⊥
never_both_specifiers bytes s (utf8, means) (words, inl (stray, w)) = stray utf8
never_both_specifiers bytes s (utf8, means) (words, inr (again, f, why, w)) = not_both_specifier bytes s f means why

pub returns-clause-one : goal.returns-clause-one
returns-clause-one c = one_bytes_specifier

pub returns-clause-why : goal.returns-clause-why
returns-clause-why c = one_specifier_why

pub returns-clause-either : goal.returns-clause-either
returns-clause-either c = either_bytes_specifier

pub returns-clause-never_both : goal.returns-clause-never_both
returns-clause-never_both c = never_both_specifiers
