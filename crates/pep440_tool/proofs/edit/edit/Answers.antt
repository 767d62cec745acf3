use Rattle.std.proofs.Common.{◌≡◌, ◌∙◌, ap, inl, inr, map, string_bytes}
use Rattle.std.specs.List.{enumerate_from}
use Rattle.pep440_version.specs.Changes.{apply_edits, edit}
use Rattle.pep440_tool.specs.Answers.{DenotesChange, EditAnswer, RejectsChange, RejectsFirst, edited_answer}
use Rattle.pep440_tool.proofs.Runs.{answered_weaker, stopped}
use Rattle.pep440_tool.proofs.edit.edit.Goals as goal

pub returns-in_err-changes : goal.returns-in_err-changes
returns-in_err-changes c =
    let words = map string_bytes c.args.words.now in
    stopped _ (RejectsFirst DenotesChange RejectsChange (enumerate_from 1 words)) (EditAnswer c.args.word.now words) (λ a h. inl (c.in_ok-version.version, c.in_ok-version.ensures, inr h))
    c.in_err-changes.field-0.0 c.in_err-changes.ensures c.from_residual-in_err-changes.result c.from_residual-in_err-changes.ensures.1

pub returns : goal.returns
returns c =
    let words = map string_bytes c.args.words.now in
    let version = c.in_ok-version.version in
    answered_weaker (λ a. a ≡ edited_answer (apply_edits 1 version (map edit c.as_slice.result.now))) (EditAnswer c.args.word.now words)
    (λ a h. inl (version, c.in_ok-version.ensures, inl (map edit c.in_ok-changes.changes.items, c.in_ok-changes.ensures, h ∙ ap (λ xs. edited_answer (apply_edits 1 version (map edit xs))) c.as_slice.ensures.value)))
    c.apply_changes.result c.apply_changes.ensures
