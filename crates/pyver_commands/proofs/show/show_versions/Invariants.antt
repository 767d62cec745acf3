use Rattle.std.proofs.Common.{string_bytes}
use Rattle.pyver_commands.specs.AnswerViews.{outcome_of}
use Rattle.pyver_commands.specs.Shows.{ShowsWord}
use Rattle.pyver_commands.proofs.InputOutput.{Taken}
use Rattle.pyver_commands.proofs.show.show_versions.Given as goal

abbrev pub invariant-loop-word : goal.invariant-loop-word
invariant-loop-word l = Taken string_bytes (ShowsWord l.format) l.words l.word-index (outcome_of l.answer)
