use Rattle.std.proofs.Common.{◌∙◌, string_bytes}
use Rattle.pep440_rs.proofs.Reading.OneMeaning.{not_both_list}
use Rattle.pyver_commands.specs.Matches.{ListFails, list_fault}
use Rattle.pyver_tool.proofs.command.start_filter.Goals as goal

pub returns-in_ok-report_list_fault-in-Invalid : goal.returns-in_ok-report_list_fault-in-Invalid
returns-in_ok-report_list_fault-in-Invalid c =
    let fails = rw c.in-Invalid.is at c.in_ok-list.ensures in (
      λ d. not_both_list c.args.specifiers.now d.0 fails.0 d.1 fails.1,
      λ texts. (
        ListFails (string_bytes c.in-Invalid.message),
        fails,
        c.in_ok-report_list_fault-in-Invalid.ensures ∙ (λ i. list_fault (c.usage.ensures i) c.args.specifiers.now (c.as_str.ensures.value i)),
      ),
    )
