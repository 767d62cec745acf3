use Rattle.std.proofs.Common.{◌≡◌, IfOk, subst, sym}
use Rattle.pyver_commands.proofs.CommandLaws.{many_versions}
use Rattle.pyver_commands.specs.AnswerViews.{outcome_of}
use Rattle.pyver_commands.proofs.bump_input.bump_lines.Goals as goal

pub returns-in-len2-up : goal.returns-in-len2-up
returns-in-len2-up c =
    let rule = c.args.rule.now in
    subst (λ o. IfOk c.report_count-in-len2-up.result (λ a. outcome_of a ≡ o)) (sym (many_versions rule.to rule.parts.items c.args.lines.now c.in-len2-up.len_at_least)) c.report_count-in-len2-up.ensures
