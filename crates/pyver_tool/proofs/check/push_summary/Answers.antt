use Rattle.std.proofs.Common.{◌∙◌, map, string_bytes}
use Rattle.pyver_tool.proofs.RunEnds.{summary_is, written_last}
use Rattle.pyver_findings.specs.Views.{report_of}
use Rattle.pyver_tool.proofs.check.push_summary.Goals as goal

pub returns : goal.returns
returns c =
    written_last c.extend_from_slice.result c.extend_from_slice.new.self.items c.push_text.new.bytes.items c.as_slice-2.result.now _ c.extend_from_slice.ensures.items
    (summary_is c.args.options (map string_bytes c.args.words.now) (report_of c.args.report.now) c.args.bytes.now.items c.push_text.new.bytes.items c.together_note.result.now c.as_slice-2.result.now
    c.if-options.false c.in_ok-push_text.ensures (rw c.as_slice.ensures.value at c.together_note.ensures) (c.as_slice-2.ensures.value ∙ c.in_ok-summarize.ensures))
