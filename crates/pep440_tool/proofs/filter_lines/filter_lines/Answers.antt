use Rattle.std.proofs.Common.{inl, inr, string_bytes}
use Rattle.pep440_version.specs.Grammar.{Derives}
use Rattle.pep440_version.specs.Rejections.{Rejects}
use Rattle.pep440_tool.specs.Answers.{RejectsFirst}
use Rattle.pep440_tool.specs.Lines.{FilterAnswer, LineDenotes, RejectsLine, numbered_lines, shown_version_error}
use Rattle.pep440_tool.specs.AnswerValues.{answer_value}
use Rattle.pep440_tool.proofs.Runs.{shows_contained, stopped}
use Rattle.pep440_tool.proofs.filter_lines.filter_lines.Goals as goal

pub returns : goal.returns
returns c = inl (
  c.in_ok-list.list,
  c.in_ok-list.ensures,
  inl (
    c.in_ok-versions.ensures.0,
    c.in_ok-versions.ensures.1,
    shows_contained c.in_ok-list.list c.in_ok-versions.ensures.0 (answer_value c.from_lines.result) c.in_ok-versions.versions.items c.sort.new.self.items (string_bytes c.in_ok-to_string.field-0)
        c.in_ok-versions.ensures.2 c.in_ok-sort.ensures.permutation c.in_ok-sort.ensures.sorted c.in_ok-sort.ensures.stable
        (rw c.as_slice.ensures.value at c.in_ok-to_string.ensures.ok) c.from_lines.ensures,
  ),
)

pub returns-in_err-versions : goal.returns-in_err-versions
returns-in_err-versions c =
    stopped _ (RejectsFirst (LineDenotes Derives) (RejectsLine Rejects shown_version_error) (numbered_lines c.args.input.now)) (FilterAnswer c.args.word.now c.args.input.now)
    (λ a h. inl (c.in_ok-list.list, c.in_ok-list.ensures, inr h)) c.in_err-versions.field-0.0 c.in_err-versions.ensures c.from_residual-in_err-versions.result c.from_residual-in_err-versions.ensures.1
