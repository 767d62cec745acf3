use Rattle.std.proofs.Common.{◌≡◌, ◌∙◌, ◌++◌, codes, length, map, sym}
use Rattle.std.proofs.lemmas.List.{length-map}
use Rattle.pyver_findings.specs.ReportTexts.{count_text, ignored_text, left_out_texts, problems_text}
use Rattle.pyver_findings.specs.Views.{finding_of}
use Rattle.pyver_requirements.proofs.Grouped.{part_more, three_parts}
use Rattle.pyver_findings.proofs.report.Report.summarize.Goals as goal

pub returns : goal.returns
returns c =
    let found = c.args.self.now.findings in
    let long : c.len-2.result ≡ length (map finding_of found.items) = c.len-2.ensures ∙ found.ok.0 ∙ sym (length-map found.items finding_of) in
    let ignored = c.args.self.now.ignored in
    let others : c.len.result ≡ length (map finding_of ignored.items) = c.len.ensures ∙ ignored.ok.0 ∙ sym (length-map ignored.items finding_of) in
    let tail : c.push_problems.new.bytes.items ≡ c.push_all_left_out.new.bytes.items ++ (ignored_text (length (map finding_of ignored.items)) ++ problems_text (length (map finding_of found.items)) c.args.self.now.files) =
    part_more _ _ _ _ _ (rw others at c.in_ok-push_ignore_count.ensures) (rw long at c.in_ok-push_problems.ensures) in
    three_parts c.new-bytes.result.items (count_text (codes "pyver: lines read: ") c.args.self.now.lines) (left_out_texts c.args.self.now.left_out.items)
    (ignored_text (length (map finding_of ignored.items)) ++ problems_text (length (map finding_of found.items)) c.args.self.now.files)
    c.push_count.new.bytes.items c.push_all_left_out.new.bytes.items c.push_problems.new.bytes.items c.new-bytes.ensures.items c.in_ok-push_count.ensures (rw c.as_slice.ensures.value at c.in_ok-push_all_left_out.ensures) tail
