use Rattle.std.proofs.Common.{◌≡◌, map, string_bytes}
use Rattle.pep440_tool.specs.Answers.{DenotesChange}
use Rattle.pep440_tool.proofs.Runs.{Found, words_left}
use Rattle.pep440_version.specs.Changes.{edit}
use Rattle.pep440_tool.proofs.edit.parse_changes.Given as goal

abbrev pub invariant-loop-at : goal.invariant-loop-at
invariant-loop-at l = Found DenotesChange (words_left string_bytes l.words 0) (words_left string_bytes l.words l.at) (λ edits. map edit l.changes.items ≡ edits)
