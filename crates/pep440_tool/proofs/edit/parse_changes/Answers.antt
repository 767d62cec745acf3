use Rattle.std.proofs.Common.{◌≡◌, ◌+◌, ◌∷◌, ◌++◌, ◌∙◌, [], List, ap, map, refl, string_bytes, sym}
use Rattle.std.proofs.lemmas.List.{map-append}
use Rattle.pep440_version.specs.Changes.ChangeWords.{change_of, not_a_change_text}
use Rattle.pep440_version.specs.Changes.{Edit, edit}
use Rattle.pep440_tool.specs.Answers.{DenotesChange, RejectsChange}
use Rattle.pep440_tool.proofs.Runs.{found_more, found_rejected, word_left, words_left}
use Rattle.pep440_tool.proofs.edit.parse_changes.Goals as goal

pub returns-in-Err-NotAChange : goal.returns-in-Err-NotAChange
returns-in-Err-NotAChange c = λ lacks. (
  not_a_change_text (c.loop-at.at + 1),
  refl,
  found_rejected DenotesChange RejectsChange _ _ (words_left string_bytes c.args.words.now (c.loop-at.at + 1)) _ (c.loop-at.at + 1, string_bytes c.index-words-at.result) _
      (word_left string_bytes c.args.words.now c.loop-at.at c.index-words-at.result c.loop-at-test.true c.index-words-at.is)
      (ap change_of (sym c.as_str.ensures.value) ∙ (rw c.in-Err-NotAChange.field-0-is at c.in-Err-NotAChange.ensures), refl) c.loop-at.invariant,
)

pub loop-at-preserved : goal.loop-at-preserved
loop-at-preserved c =
    found_more DenotesChange _ _ (words_left string_bytes c.args.words.now (c.loop-at.at + 1)) (λ edits. map edit c.loop-at.changes.items ≡ edits) (λ edits. map edit c.push.new.self.items ≡ edits)
    (c.loop-at.at + 1, string_bytes c.index-words-at.result) (edit c.in-Ok.change) (word_left string_bytes c.args.words.now c.loop-at.at c.index-words-at.result c.loop-at-test.true c.index-words-at.is)
    (ap change_of (sym c.as_str.ensures.value) ∙ c.in-Ok.ensures)
    (λ xs is. ap (map edit) c.in_ok-push-in-Ok.ensures.items ∙ map-append edit c.loop-at.changes.items (c.in-Ok.change ∷ []) ∙ ap (λ (l : List Edit). l ++ edit c.in-Ok.change ∷ []) is) c.loop-at.invariant
