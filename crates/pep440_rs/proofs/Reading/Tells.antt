-- What reading gives is what the grammar says, and the other way round.
use Rattle.std.proofs.Common.{◌≡◌, ◌<◌, ◌==◌, ◌∙◌, ℕ, List, [], ◌∷◌, Bool, true, false, Option, Some, None, Result, Ok, Err, length, refl, sym, ap, subst, arith, if◌then◌else◌, eqb-true}
use Rattle.std.proofs.lemmas.Bool.Decides.{nat_tests}
use Rattle.std.proofs.lemmas.List.{nil_from_length}
use Rattle.std.proofs.lemmas.Str.{length-le-encodes}
use Rattle.std.specs.Str.{encode_utf8_all}
use Rattle.pep440_version.specs.Patterns.{DerivesPattern}
use Rattle.pep440_version.specs.Record.{Record}
use Rattle.pep440_version.specs.Rejections.{PatternRejection}
use Rattle.pep440_version.specs.Whole.{parse_epoch_and_release, read_pattern}
use Rattle.pep440_version.proofs.Reading.Agreement.{found_pattern, only_pattern}
use Rattle.pep440_version.proofs.Rejections.ExactlyOne.{decides_pattern, sound_pattern}
use Rattle.pep440_rs.specs.Build.{BuildRejection, built_pattern}
use Rattle.pep440_rs.specs.Operators.{Spells}
use Rattle.pep440_rs.specs.Specifiers.SpecifierGrammar.{SpecifierParts, DerivesSpecifier, ReadsParts, RejectsSpecifier, SpecifierRejection, MissingOperator, InvalidOperator, MissingVersion, InvalidVersion, InvalidSpecifier, InvalidTrailing}
use Rattle.pep440_rs.specs.Specifiers.SpecifierReading.{ended, read_parts, read_operator, read_specifier, with_operator, with_pattern}
use Rattle.pep440_rs.specs.Specifiers.{Spec}
use Rattle.pep440_rs.specs.declared.specifier.operator.Operator.{Operator}
use Rattle.pep440_rs.proofs.Reading.Cuts.{read_by_split, the_split}
use Rattle.pep440_rs.proofs.Reading.Spelled.{none_spelled, read_spelled, spelled_none, spelled_read, spelled_some}

-- what the grammar says of a text
abbrev pub Tells : List ℕ → Result Spec SpecifierRejection → Type 0
Tells text (Ok s) = DerivesSpecifier text s
Tells text (Err f) = RejectsSpecifier text f

no_bytes : (cs : List ℕ) → (length (encode_utf8_all cs) == 0) ≡ true → cs ≡ []
no_bytes cs e = nil_from_length cs (omega (arith, length-le-encodes cs, eqb-true (length (encode_utf8_all cs)) 0 e))

some_bytes : (cs : List ℕ) → (length (encode_utf8_all cs) == 0) ≡ false → 0 < length cs
some_bytes [] e = cc e
some_bytes (c ∷ cs) e = omega arith

pub bytes_of_some : (cs : List ℕ) → 0 < length cs → (length (encode_utf8_all cs) == 0) ≡ false
bytes_of_some cs some = let long = length-le-encodes cs in grind (arith, nat_tests)

pub bytes_of_none : (cs : List ℕ) → cs ≡ [] → (length (encode_utf8_all cs) == 0) ≡ true
bytes_of_none cs e = rw e refl

-- ---- reading says what the grammar says

module _ {text : List ℕ} (c : SpecifierParts text) where
  at_end : (o : Operator) (r : Record) (star : Bool) (s : Spec) → ReadsParts c o r star → built_pattern o r star ≡ Ok s
      → (b : Bool) → (length (encode_utf8_all c.rest) == 0) ≡ b → Tells text (if b then Ok s else Err (InvalidTrailing (encode_utf8_all c.rest)))
  at_end o r star s reads built true e = (c, o, r, star, reads, built, no_bytes c.rest e)
  at_end o r star s reads built false e = (c, o, r, star, s, reads, built, some_bytes c.rest e, refl)

  at_build : (o : Operator) (r : Record) (star : Bool) → ReadsParts c o r star → (x : Result Spec BuildRejection) → built_pattern o r star ≡ x → Tells text (ended x (encode_utf8_all c.rest))
  at_build o r star reads (Ok s) e = at_end o r star s reads e _ refl
  at_build o r star reads (Err b) e = (c, o, r, star, reads, e)

  at_pattern : (o : Operator) → Spells (encode_utf8_all c.operator) o → 0 < length c.version
      → (x : Result (Record × Bool) PatternRejection) → read_pattern (encode_utf8_all c.version) ≡ x → Tells text (with_pattern o x (encode_utf8_all c.rest))
  at_pattern o spells some (Ok (r, star)) e = at_build o r star (record { operator = spells; version = found_pattern (encode_utf8_all c.version) r star e }) _ refl
  at_pattern o spells some (Err f) e = (c, o, spells, some, sound_pattern (encode_utf8_all c.version) f e)

  at_version : (o : Operator) → Spells (encode_utf8_all c.operator) o → (b : Bool) → (length (encode_utf8_all c.version) == 0) ≡ b
      → Tells text (if b then Err MissingVersion else with_pattern o (read_pattern (encode_utf8_all c.version)) (encode_utf8_all c.rest))
  at_version o spells true e = (c, o, spells, no_bytes c.version e)
  at_version o spells false e = at_pattern o spells (some_bytes c.version e) _ refl

  at_operator : 0 < length c.operator → (x : Option Operator) → read_operator (encode_utf8_all c.operator) ≡ x
      → Tells text (with_operator (encode_utf8_all c.operator) x (encode_utf8_all c.version) (encode_utf8_all c.rest))
  at_operator some None e = (c, some, refl, none_spelled (encode_utf8_all c.operator) e)
  at_operator some (Some o) e = at_version o (read_spelled (encode_utf8_all c.operator) o e) _ refl

  at_start : (b : Bool) → (length (encode_utf8_all c.operator) == 0) ≡ b
      → Tells text (if b then Err MissingOperator else with_operator (encode_utf8_all c.operator) (read_operator (encode_utf8_all c.operator)) (encode_utf8_all c.version) (encode_utf8_all c.rest))
  at_start true e = (c, no_bytes c.operator e)
  at_start false e = at_operator (some_bytes c.operator e) _ refl

  told_by_split : Tells text (read_parts (encode_utf8_all c.operator) (encode_utf8_all c.version) (encode_utf8_all c.rest))
  unfolding read_parts
  told_by_split = at_start _ refl

pub tells : (text : List ℕ) → Tells text (read_specifier text)
tells text = subst (Tells text) (sym (read_by_split text (the_split text))) (told_by_split (the_split text))

-- ---- what the grammar says is what reading gives

-- the empty text means no version
derived_some : (version : List ℕ) (r : Record) (star : Bool) → DerivesPattern version r star → (length version == 0) ≡ false
unfolding parse_epoch_and_release
derived_some [] r star h = let e = only_pattern [] r star h in cc
derived_some (b ∷ rest) r star h = grind (arith, nat_tests)

means_none : (operator version rest : List ℕ) → (length operator == 0) ≡ true → read_parts operator version rest ≡ Err MissingOperator
unfolding read_parts
means_none operator version rest none = rw none refl

means_unknown : (operator version rest : List ℕ) → (length operator == 0) ≡ false → read_operator operator ≡ None → read_parts operator version rest ≡ Err (InvalidOperator operator)
unfolding read_parts
means_unknown operator version rest some none = rw (some, none) refl

means_missing : (operator version rest : List ℕ) (o : Operator) → Spells operator o → (length version == 0) ≡ true → read_parts operator version rest ≡ Err MissingVersion
unfolding read_parts
means_missing operator version rest o spells none = rw (spelled_some operator o spells, spelled_read operator o spells, none) refl

means_pattern : (operator version rest : List ℕ) (o : Operator) (x : Result (Record × Bool) PatternRejection) → Spells operator o → (length version == 0) ≡ false → read_pattern version ≡ x
    → read_parts operator version rest ≡ with_pattern o x rest
unfolding read_parts
means_pattern operator version rest o x spells some e = rw (spelled_some operator o spells, spelled_read operator o spells, some) (ap (λ y. with_pattern o y rest) e)

means_built : (operator version rest : List ℕ) (o : Operator) (r : Record) (star : Bool) (x : Result Spec BuildRejection) → Spells operator o → DerivesPattern version r star → built_pattern o r star ≡ x
    → read_parts operator version rest ≡ ended x rest
means_built operator version rest o r star x spells derives e =
    means_pattern operator version rest o (Ok (r, star)) spells (derived_some version r star derives) (only_pattern version r star derives) ∙ ap (λ y. ended y rest) e

pub decides : (text : List ℕ) (x : Result Spec SpecifierRejection) → Tells text x → read_specifier text ≡ x
decides text (Ok s) (c, o, r, star, reads, built, end) =
    read_by_split text c ∙ means_built _ _ _ o r star (Ok s) reads.operator reads.version built ∙ rw (bytes_of_none c.rest end) refl
decides text (Err MissingOperator) (c, none) = read_by_split text c ∙ means_none _ _ _ (bytes_of_none c.operator none)
decides text (Err (InvalidOperator got)) (c, some, is, none) =
    read_by_split text c ∙ means_unknown _ _ _ (bytes_of_some c.operator some) (ap read_operator (sym is) ∙ spelled_none got none)
    ∙ ap (λ t. Err (InvalidOperator t)) (sym is)
decides text (Err MissingVersion) (c, o, spells, none) = read_by_split text c ∙ means_missing _ _ _ o spells (bytes_of_none c.version none)
decides text (Err (InvalidVersion f)) (c, o, spells, some, refuses) =
    read_by_split text c ∙ means_pattern _ _ _ o (Err f) spells (bytes_of_some c.version some) (decides_pattern (encode_utf8_all c.version) f refuses)
decides text (Err (InvalidSpecifier b)) (c, o, r, star, reads, built) = read_by_split text c ∙ means_built _ _ _ o r star (Err b) reads.operator reads.version built
decides text (Err (InvalidTrailing rest)) (c, o, r, star, s, reads, built, some, is) =
    read_by_split text c ∙ means_built _ _ _ o r star (Ok s) reads.operator reads.version built ∙ rw (bytes_of_some c.rest some) (ap (λ t. Err (InvalidTrailing t)) (sym is))
