use Rattle.std.proofs.Common.{◌≡◌, string_bytes}
use Rattle.pep440_tool.specs.Picks.{CandidateDenotes}
use Rattle.pep440_tool.proofs.Runs.{Found, words_left}
use Rattle.pep440_tool.proofs.pick.parse_candidates.Given as goal

abbrev pub invariant-loop-at : goal.invariant-loop-at
invariant-loop-at l = Found CandidateDenotes (words_left string_bytes l.words 0) (words_left string_bytes l.words l.at) (λ found. l.versions.items ≡ found)
