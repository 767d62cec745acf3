use Rattle.std.proofs.Common.{◌≡◌, ◌+◌, ◌∷◌, ◌++◌, ◌∙◌, [], List, ap, string_bytes}
use Rattle.pep440_version.specs.Record.{Record}
use Rattle.pep440_tool.specs.Answers.{RejectsFirst}
use Rattle.pep440_tool.specs.Picks.{CandidateDenotes, RejectsCandidate}
use Rattle.pep440_tool.proofs.Runs.{found_more, found_rejected, word_left, words_left, stopped}
use Rattle.pep440_tool.proofs.pick.parse_candidates.Goals as goal

pub returns-in_err-version : goal.returns-in_err-version
returns-in_err-version c =
    stopped _ (RejectsCandidate (c.loop-at.at + 1, string_bytes c.index-words-at.result)) (RejectsFirst CandidateDenotes RejectsCandidate (words_left string_bytes c.args.words.now 0))
    (λ a why. found_rejected CandidateDenotes RejectsCandidate _ _ (words_left string_bytes c.args.words.now (c.loop-at.at + 1)) _ (c.loop-at.at + 1, string_bytes c.index-words-at.result) a
    (word_left string_bytes c.args.words.now c.loop-at.at c.index-words-at.result c.loop-at-test.true c.index-words-at.is) why c.loop-at.invariant)
    c.in_err-version.field-0.0 (rw c.as_str.ensures.value at c.in_err-version.ensures) c.from_residual.result c.from_residual.ensures.1

pub loop-at-preserved : goal.loop-at-preserved
loop-at-preserved c =
    found_more CandidateDenotes _ _ (words_left string_bytes c.args.words.now (c.loop-at.at + 1)) (λ found. c.loop-at.versions.items ≡ found) (λ found. c.push.new.self.items ≡ found)
    (c.loop-at.at + 1, string_bytes c.index-words-at.result) c.in_ok-version.version (word_left string_bytes c.args.words.now c.loop-at.at c.index-words-at.result c.loop-at-test.true c.index-words-at.is)
    (rw c.as_str.ensures.value at c.in_ok-version.ensures) (λ xs is. c.in_ok-push.ensures.items ∙ ap (λ (l : List Record). l ++ c.in_ok-version.version ∷ []) is) c.loop-at.invariant
