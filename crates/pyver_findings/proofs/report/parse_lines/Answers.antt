use Rattle.pyver_findings.specs.Views.{file_line_of, line_meaning_of}
use Rattle.pyver_findings.proofs.StringReadings.{kept_all, kept_more}
use Rattle.pyver_findings.proofs.report.parse_lines.Goals as goal

pub loop-line-preserved : goal.loop-line-preserved
loop-line-preserved c =
    kept_more file_line_of c.args.lines.now c.loop-line.line-index c.line-item.result (line_meaning_of c.in_ok-reading.reading) c.loop-line.readings c.push.new.self c.loop-line-test.true c.line-item.is
    c.in_ok-reading.ensures c.in_ok-push.ensures.invalid c.in_ok-push.ensures.demands c.in_ok-push.ensures.left_out c.loop-line.invariant

pub returns : goal.returns
returns c = kept_all file_line_of c.args.lines.now c.loop-line.line-index c.loop-line.readings c.loop-line-test.false c.loop-line.invariant
