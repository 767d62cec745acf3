-- Bytes that are visible ASCII and no comma.
use Rattle.std.proofs.Common.{◌≡◌, ◌==◌, ◌&&◌, ◌<◌, ◌∙◌, ℕ, List, [], ◌∷◌, ◌++◌, Bool, true, refl, sym, arith, nat_lt, not}
use Rattle.std.proofs.lemmas.Bool.Decides.{nat_tests}
use Rattle.std.proofs.lemmas.List.Folds.{list_all-append}
use Rattle.std.proofs.lemmas.Str.Ascii.{IsAscii-cons, IsAscii-nil, encodes-IsAscii}
use Rattle.std.specs.List.{list_all}
use Rattle.std.specs.Str.{IsAscii, encode_utf8_all}
use Rattle.pep440_version.proofs.Reading.Prefixes.{both_first, both_second}
use Rattle.std.specs.Char.{is_ascii}
use Rattle.pep440_rs.specs.Specifiers.SpecifierGrammar.{is_operator_char}

abbrev pub is_shown : ℕ → Bool
is_shown b = nat_lt 32 b && nat_lt b 127 && not (b == 44)

pub all_weaker : (p q : ℕ → Bool) → ((b : ℕ) → p b ≡ true → q b ≡ true) → (t : List ℕ) → list_all p t ≡ true → list_all q t ≡ true
all_weaker p q weaker [] h = refl
all_weaker p q weaker (b ∷ t) h = rw (weaker b (both_first (p b) (list_all p t) h), all_weaker p q weaker t (both_second (p b) (list_all p t) h)) refl

pub all_joined : (p : ℕ → Bool) (a b : List ℕ) → list_all p a ≡ true → list_all p b ≡ true → list_all p (a ++ b) ≡ true
all_joined p a b h g = list_all-append p a b ∙ rw (h, g) refl

pub all_later : (p : ℕ → Bool) (a b : List ℕ) → list_all p (a ++ b) ≡ true → list_all p b ≡ true
all_later p a b h = both_second (list_all p a) (list_all p b) (sym (list_all-append p a b) ∙ h)

pub all_ascii : (p : ℕ → Bool) → ((b : ℕ) → p b ≡ true → b < 128) → (t : List ℕ) → list_all p t ≡ true → IsAscii t
all_ascii p low [] h = IsAscii-nil
all_ascii p low (b ∷ t) h = IsAscii-cons b t (low b (both_first (p b) (list_all p t) h)) (all_ascii p low t (both_second (p b) (list_all p t) h))

operator_low : (b : ℕ) → is_operator_char b ≡ true → b < 128
operator_low b h = grind (arith, nat_tests)

operator_ascii : (b : ℕ) → is_operator_char b ≡ true → is_ascii b ≡ true
operator_ascii b h = grind (arith, nat_tests)

-- the bytes of an operator's characters are those characters
pub operator_bytes : (cs : List ℕ) → list_all is_operator_char cs ≡ true → encode_utf8_all cs ≡ cs
operator_bytes cs h = encodes-IsAscii cs (all_ascii is_operator_char operator_low cs h)

pub operator_plain : (cs : List ℕ) → list_all is_operator_char cs ≡ true → list_all is_ascii (encode_utf8_all cs) ≡ true
operator_plain cs h = rw (operator_bytes cs h) (all_weaker is_operator_char is_ascii operator_ascii cs h)
