use Rattle.std.proofs.Common.{◌-◌, ◌∙◌, ℕ, List, ap, drop, length, take}
use Rattle.std.proofs.lemmas.List.{take_rest}
use Rattle.std.specs.Char.{eq_ignore_ascii_case}
use Rattle.std.specs.Cmp.Lexicographic.{pointwise}
use Rattle.pyver_requirements.proofs.Lines.{case_ignored}
use Rattle.pyver_requirements.proofs.line_kind.has_ending.Goals as goal

pub returns : goal.returns
returns c =
    let word : List ℕ = c.args.word.now in
    let start : ℕ = c.saturating_sub.result in
    case_ignored c.eq_ignore_ascii_case.result c.args.ending.now (take (length word - start) (drop start word)) c.eq_ignore_ascii_case.ensures.test
    ∙ ap (pointwise eq_ignore_ascii_case c.args.ending.now) (take_rest word start ∙ ap (λ (n : ℕ). drop n word) c.saturating_sub.ensures)
