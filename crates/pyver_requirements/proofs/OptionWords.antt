-- The words of options, one after another.
use Rattle.std.proofs.Common.{◌≡◌, ◌∙◌, ◌-◌, ◌<◌, ◌&&◌, ◌||◌, ℕ, zero, suc, Bool, List, [], ◌∷◌, true, false, not, Option, arith, drop, length, refl, sym, ap, inl, inr}
use Rattle.std.proofs.lemmas.Bool.{cases_Bool}
use Rattle.std.specs.Char.{is_ascii_whitespace}
use Rattle.std.specs.List.{prefix_len}
use Rattle.pep440_version.specs.Grammar.{starts}
use Rattle.pep440_version.specs.Reading.{past}
use Rattle.pyver_requirements.specs.Options.{FaultPosition, OptionWord, WordStep, behind_step, end_fault, is_among, option_name, option_words, step_fault, either_step, word_step, words_fault, names_option, next_state, shell_word}
use Rattle.pyver_requirements.specs.declared.option_value.ShellState.TheVariants.{Plain}

-- the words behind so many bytes
skipped : (n : ℕ) (text : List ℕ) → option_words n text ≡ option_words 0 (drop n text)
unfolding option_words
skipped zero text = refl
skipped (suc n) [] = refl
skipped (suc n) (b ∷ rest) = skipped n rest

past_blank : (b : ℕ) (rest : List ℕ) → true ≡ is_ascii_whitespace b → past is_ascii_whitespace (b ∷ rest) ≡ past is_ascii_whitespace rest
past_blank b rest h =
    let count : prefix_len is_ascii_whitespace (b ∷ rest) ≡ suc (prefix_len is_ascii_whitespace rest) = rw (← h) (omega arith) in
    ap (λ k. drop k (b ∷ rest)) count

past_other : (b : ℕ) (rest : List ℕ) → false ≡ is_ascii_whitespace b → past is_ascii_whitespace (b ∷ rest) ≡ b ∷ rest
past_other b rest h = rw (← h) refl

behind_blank : (b : ℕ) (rest : List ℕ) → true ≡ is_ascii_whitespace b → option_words 0 (b ∷ rest) ≡ option_words 0 rest
unfolding option_words
behind_blank b rest h = rw (← h) refl

-- blanks are no words
pub behind_blanks : (text : List ℕ) → option_words 0 (past is_ascii_whitespace text) ≡ option_words 0 text
behind_blanks [] = refl
behind_blanks (b ∷ rest) = elim (cases_Bool (is_ascii_whitespace b)) [
  | inl h ↦ ap (option_words 0) (past_blank b rest (sym h)) ∙ behind_blanks rest ∙ sym (behind_blank b rest (sym h))
  | inr h ↦ ap (option_words 0) (past_other b rest (sym h))
]

-- the first word
word_here : (b : ℕ) (rest : List ℕ) → false ≡ is_ascii_whitespace b → shell_word Plain (b ∷ rest) ≡ b ∷ shell_word (next_state Plain b) rest
word_here b rest h = rw (← h) refl

first_word : (b : ℕ) (rest : List ℕ) → false ≡ is_ascii_whitespace b
    → option_words 0 (b ∷ rest) ≡ record { text = shell_word Plain (b ∷ rest); left = length (b ∷ rest) } ∷ option_words (length (shell_word Plain (b ∷ rest)) - 1) rest
unfolding option_words
first_word b rest h = rw (← h) refl

split_word : (b : ℕ) (rest : List ℕ) → false ≡ is_ascii_whitespace b
    → option_words 0 (b ∷ rest) ≡ record { text = shell_word Plain (b ∷ rest); left = length (b ∷ rest) } ∷ option_words 0 (drop (length (shell_word Plain (b ∷ rest))) (b ∷ rest))
split_word b rest h =
    let word = shell_word (next_state Plain b) rest in
    let less : length (b ∷ word) - 1 ≡ length word = omega arith in
    let count : length (shell_word Plain (b ∷ rest)) - 1 ≡ length word = ap (λ (w : List ℕ). length w - 1) (word_here b rest h) ∙ less in
    first_word b rest h ∙ ap (λ (ws : List OptionWord). record { text = shell_word Plain (b ∷ rest); left = length (b ∷ rest) } ∷ ws)
    (ap (λ (k : ℕ). option_words k rest) count ∙ skipped (length word) rest ∙ ap (λ (w : List ℕ). option_words 0 (drop (length w) (b ∷ rest))) (sym (word_here b rest h)))

read_word : (awaited : Option (List ℕ)) (w : OptionWord) (ws : List OptionWord) → words_fault awaited (w ∷ ws) ≡ step_fault w.left (word_step awaited w.text) (λ next. words_fault next ws)
unfolding words_fault
read_word awaited w ws = refl

-- the fault from a word on
pub from_word : (awaited : Option (List ℕ)) (text word : List ℕ) (whole : Option FaultPosition) → 0 < length text → starts is_ascii_whitespace text ≡ false → word ≡ shell_word Plain text
    → words_fault awaited (option_words 0 text) ≡ whole → step_fault (length text) (word_step awaited word) (λ next. words_fault next (option_words 0 (drop (length word) text))) ≡ whole
from_word awaited [] word whole some filled is kept = absurd (omega (arith, some))
from_word awaited (b ∷ rest) word whole some filled is kept =
    ap (λ (w : List ℕ). step_fault (length (b ∷ rest)) (word_step awaited w) (λ next. words_fault next (option_words 0 (drop (length w) (b ∷ rest))))) is
    ∙ sym (read_word awaited (record { text = shell_word Plain (b ∷ rest); left = length (b ∷ rest) }) (option_words 0 (drop (length (shell_word Plain (b ∷ rest))) (b ∷ rest))))
    ∙ sym (ap (words_fault awaited) (split_word b rest (sym filled))) ∙ kept

-- the same behind the blanks that follow it, by what the word is
pub goes_on : (awaited : Option (List ℕ)) (text word : List ℕ) (whole : Option FaultPosition) → 0 < length text → starts is_ascii_whitespace text ≡ false → word ≡ shell_word Plain text
    → words_fault awaited (option_words 0 text) ≡ whole → (step : WordStep) → word_step awaited word ≡ step
    → step_fault (length text) step (λ next. words_fault next (option_words 0 (past is_ascii_whitespace (drop (length word) text)))) ≡ whole
goes_on awaited text word whole some filled is kept step e =
    ap (λ (ws : List OptionWord). step_fault (length text) step (λ next. words_fault next ws)) (behind_blanks (drop (length word) text))
    ∙ ap (λ (s : WordStep). step_fault (length text) s (λ next. words_fault next (option_words 0 (drop (length word) text)))) (sym e)
    ∙ from_word awaited text word whole some filled is kept

no_words : option_words 0 [] ≡ []
unfolding option_words
no_words = refl

fault_at_end : (awaited : Option (List ℕ)) → words_fault awaited [] ≡ end_fault awaited
unfolding words_fault
fault_at_end awaited = refl

-- no words are left
pub at_end : (awaited : Option (List ℕ)) (text : List ℕ) (whole : Option FaultPosition) → length text ≡ 0 → words_fault awaited (option_words 0 text) ≡ whole → end_fault awaited ≡ whole
at_end awaited [] whole none kept = sym (ap (words_fault awaited) no_words ∙ fault_at_end awaited) ∙ kept
at_end awaited (b ∷ rest) whole none kept = absurd (omega (arith, none))

-- ---- whether an option is among them

look_at : (option : List ℕ) (is_value : Bool) (w : OptionWord) (ws : List OptionWord)
    → is_among option is_value (w ∷ ws) ≡ ((not is_value && names_option option (option_name w.text)) || behind_step (either_step is_value w.text) (λ next. is_among option next ws))
unfolding is_among
look_at option is_value w ws = refl

module _ (option : List ℕ) (is_value : Bool) where
  -- by the first word, and what is behind it
  looked_by : (text word : List ℕ) → 0 < length text → starts is_ascii_whitespace text ≡ false → word ≡ shell_word Plain text
      → is_among option is_value (option_words 0 text)
      ≡ ((not is_value && names_option option (option_name word)) || behind_step (either_step is_value word) (λ next. is_among option next (option_words 0 (drop (length word) text))))
  looked_by [] word some filled is = absurd (omega (arith, some))
  looked_by (b ∷ rest) word some filled is =
      ap (is_among option is_value) (split_word b rest (sym filled))
      ∙ look_at option is_value (record { text = shell_word Plain (b ∷ rest); left = length (b ∷ rest) }) (option_words 0 (drop (length (shell_word Plain (b ∷ rest))) (b ∷ rest)))
      ∙ ap (λ (w : List ℕ). (not is_value && names_option option (option_name w)) || behind_step (either_step is_value w) (λ next. is_among option next (option_words 0 (drop (length w) (b ∷ rest))))) (sym is)

  -- by what the first word is: this option, or another
  pub found_here : (text word : List ℕ) (whole : Bool) → 0 < length text → starts is_ascii_whitespace text ≡ false → word ≡ shell_word Plain text
      → is_among option is_value (option_words 0 text) ≡ whole → (not is_value && names_option option (option_name word)) ≡ true → whole ≡ true
  found_here text word whole some filled is kept named =
      sym kept ∙ looked_by text word some filled is
      ∙ ap (λ b. b || behind_step (either_step is_value word) (λ next. is_among option next (option_words 0 (drop (length word) text)))) named

  pub found_later : (text word : List ℕ) (whole : Bool) → 0 < length text → starts is_ascii_whitespace text ≡ false → word ≡ shell_word Plain text
      → is_among option is_value (option_words 0 text) ≡ whole → (not is_value && names_option option (option_name word)) ≡ false → (step : WordStep) → either_step is_value word ≡ step
      → behind_step step (λ next. is_among option next (option_words 0 (past is_ascii_whitespace (drop (length word) text)))) ≡ whole
  found_later text word whole some filled is kept named step e =
      ap (λ (ws : List OptionWord). behind_step step (λ next. is_among option next ws)) (behind_blanks (drop (length word) text))
      ∙ ap (λ (s : WordStep). behind_step s (λ next. is_among option next (option_words 0 (drop (length word) text)))) (sym e)
      ∙ sym (ap (λ b. b || behind_step (either_step is_value word) (λ next. is_among option next (option_words 0 (drop (length word) text)))) named)
      ∙ sym (looked_by text word some filled is) ∙ kept

none_among : (option : List ℕ) (is_value : Bool) → is_among option is_value [] ≡ false
unfolding is_among
none_among option is_value = refl

-- no words are left
pub not_found : (option : List ℕ) (is_value : Bool) (text : List ℕ) (whole : Bool) → length text ≡ 0 → is_among option is_value (option_words 0 text) ≡ whole → whole ≡ false
not_found option is_value [] whole none kept = sym kept ∙ ap (is_among option is_value) no_words ∙ none_among option is_value
not_found option is_value (b ∷ rest) whole none kept = absurd (omega (arith, none))
