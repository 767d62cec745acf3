use Rattle.std.proofs.Common.{◌∙◌, ◌+◌, ap, take}
use Rattle.std.specs.Fmt.{decimal}
use Rattle.pyver_findings.specs.SarifLogs.{line_location, line_start, utf16_length}
use Rattle.pyver_findings.specs.Views.{file_line_of}
use Rattle.pyver_requirements.proofs.Grouped.{part_more}
use Rattle.pyver_findings.proofs.report_sarif.push_line_location.Goals as goal

pub returns : goal.returns
unfolding line_location
returns c =
    let l = file_line_of c.args.line.now in
    part_more c.args.bytes.now.items (line_start l) _ _ _ c.in_ok-push_line_start.ensures
    (part_more _ _ _ _ _ c.in_ok-push_text.ensures
    (part_more _ (decimal (utf16_length (take c.args.column l.text) + 1)) _ _ _ (rw (c.start_of.ensures ∙ ap (take c.args.column) c.as_slice.ensures.value) at c.in_ok-push_column.ensures)
    c.in_ok-push_text-2.ensures))
