-- What stands at the end of a text, as its front is read.
use Rattle.std.specs.Char.{is_ascii_whitespace}
use Rattle.std.proofs.Common.{◌≡◌, ◌-◌, ◌<◌, ℕ, List, [], ◌∷◌, ◌++◌, length, sym, ap, ◌∙◌, arith, subst}
use Rattle.std.proofs.lemmas.List.{append_assoc, length-append}
use Rattle.std.proofs.lemmas.Str.{IsCharBoundary-at_seam}
use Rattle.std.specs.Str.{IsCharBoundary, IsUtf8}
use Rattle.pep440_version.specs.Grammar.{IsRelease}
use Rattle.pep440_version.specs.Reading.{EndsWith, past, lead}
use Rattle.pep440_version.proofs.Reading.ReadIsDerived.{split}

pub ends_then : (a b c : List ℕ) → EndsWith a b → EndsWith b c → EndsWith a c
ends_then a b c h g = (h.0 ++ g.0, h.1 ∙ ap (λ t. h.0 ++ t) g.1 ∙ sym (append_assoc h.0 g.0 c))

pub ends_blanks : (a b : List ℕ) → EndsWith a b → EndsWith a (past is_ascii_whitespace b)
ends_blanks a b h = ends_then a b _ h (lead is_ascii_whitespace b, split is_ascii_whitespace b)

pub some_numbers : (t ns : List ℕ) → IsRelease t ns → 0 < length ns
some_numbers t [] h = absurd h
some_numbers t (n ∷ rest) h = omega arith

pub seam : (text rest : List ℕ) → EndsWith text rest → IsUtf8 rest → IsCharBoundary text (length text - length rest)
seam text rest h u =
    let long = ap length h.1 ∙ length-append h.0 rest in
    let at : length h.0 ≡ length text - length rest = omega (arith, long) in
    subst (IsCharBoundary text) at (IsCharBoundary-at_seam text h.0 rest h.1 u)
