use Rattle.std.proofs.Common.{refl, string_bytes}
use Rattle.pyver_commands.specs.AnswerViews.{outcome_of, reading_of}
use Rattle.pyver_commands.specs.Shows.{ShowsWord, show_outcome}
use Rattle.pyver_commands.proofs.InputOutput.{taken_all, taken_more}
use Rattle.pyver_commands.proofs.show.show_versions.Goals as goal

pub returns : goal.returns
returns c = taken_all string_bytes (ShowsWord c.args.format) c.args.words.now c.loop-word.word-index (outcome_of c.loop-word.answer) c.loop-word-test.false c.loop-word.invariant

pub loop-word-preserved : goal.loop-word-preserved
loop-word-preserved c =
    let reading = reading_of c.in_ok-reading.reading in
    taken_more string_bytes (ShowsWord c.args.format) c.args.words.now c.loop-word.word-index c.word-item.result (outcome_of c.loop-word.answer) (outcome_of c.push_shown.new.answer)
    (show_outcome c.args.format (string_bytes c.word-item.result) reading) c.loop-word-test.true c.word-item.is (reading, rw c.as_str.ensures.value at c.in_ok-reading.ensures, refl)
    (rw c.as_str-in-loop-word.ensures.value at c.in_ok-push_shown.ensures) c.loop-word.invariant
