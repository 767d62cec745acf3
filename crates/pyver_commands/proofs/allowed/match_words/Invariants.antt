use Rattle.std.proofs.Common.{string_bytes}
use Rattle.pyver_commands.specs.AnswerViews.{outcome_of}
use Rattle.pyver_commands.specs.Matches.{MatchesWord}
use Rattle.pyver_commands.proofs.InputOutput.{Taken}
use Rattle.pyver_commands.proofs.allowed.match_words.Given as goal

abbrev pub invariant-loop-word : goal.invariant-loop-word
invariant-loop-word l = Taken string_bytes (MatchesWord l.quiet l.takes l.list) l.words l.word-index (outcome_of l.answer)
