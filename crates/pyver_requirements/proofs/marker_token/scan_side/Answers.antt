use Rattle.std.proofs.Common.{◌≡◌, ◌∙◌, ◌≤◌, List, [], ◌∷◌, ℕ, ap, arith, false, get_or, length, sym, if◌then◌else◌}
use Rattle.pyver_requirements.specs.LineParts.{before_byte, behind_byte}
use Rattle.pyver_requirements.specs.MarkerTokens.{constant, marker_word, side, variable}
use Rattle.pyver_requirements.specs.Options.{is_quote}
use Rattle.pyver_requirements.proofs.marker_token.scan_side.Goals as goal

-- the side of a string without a quote at its start
word_side : (text : List ℕ) → 1 ≤ length text → is_quote (get_or text 0 0) ≡ false → side text ≡ variable (marker_word text)
word_side [] some other = absurd (omega (arith, some))
word_side (b ∷ rest) some other = ap (λ q. if q then constant (before_byte b rest) (behind_byte b rest) else variable (marker_word (b ∷ rest))) other

pub returns-else-is_quote : goal.returns-else-is_quote
returns-else-is_quote c =
    c.find_variable.ensures ∙ ap variable c.scan_word.ensures ∙ sym (word_side c.args.text.now c.in-len1-up.len_at_least (sym c.is_quote.ensures ∙ c.if-is_quote.false))
