use Rattle.std.proofs.Common.{◌≡◌, ◌∙◌, Some, ap, subst, sym}
use Rattle.pep440_version.specs.Form.{IsForm, IsWord, form_record, with_part, word_with_part}
use Rattle.pep440_version.proofs.Words.Replaced.{part_is_set}
use Rattle.pep440_version.proofs.version.Version.with_part.Goals as goal

pub from_packed-requires-clause-word : goal.from_packed-requires-clause-word
from_packed-requires-clause-word c =
    let local_segment : IsWord c.in-PackedWord.count c.in-PackedWord.word c.in-PackedWord.numbers = subst IsForm c.in-PackedWord.is c.self.invariant.form in
    let set : Some c.in_ok-word-in-PackedWord.word ≡ word_with_part c.in-PackedWord.word c.args.part = sym c.in_ok-word-in-PackedWord.was ∙ c.replace_part.ensures in
    (part_is_set c.args.part c.in-PackedWord.count c.in-PackedWord.word c.in_ok-word-in-PackedWord.word c.in-PackedWord.numbers local_segment set).0

pub returns-in_ok-word-in-PackedWord : goal.returns-in_ok-word-in-PackedWord
returns-in_ok-word-in-PackedWord c =
    let local_segment : IsWord c.in-PackedWord.count c.in-PackedWord.word c.in-PackedWord.numbers = subst IsForm c.in-PackedWord.is c.self.invariant.form in
    let set : Some c.in_ok-word-in-PackedWord.word ≡ word_with_part c.in-PackedWord.word c.args.part = sym c.in_ok-word-in-PackedWord.was ∙ c.replace_part.ensures in
    c.from_packed.ensures
    ∙ (part_is_set c.args.part c.in-PackedWord.count c.in-PackedWord.word c.in_ok-word-in-PackedWord.word c.in-PackedWord.numbers local_segment set).1
    ∙ ap (with_part c.args.part) (ap form_record (sym c.in-PackedWord.is) ∙ c.self.view_is)
