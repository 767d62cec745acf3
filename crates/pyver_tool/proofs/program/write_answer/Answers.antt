use Rattle.std.proofs.Common.{subst}
use Rattle.std.specs.Io.KnownBytes.{Appends}
use Rattle.cli_io.specs.Streams.{WroteBeginning}
use Rattle.pyver_tool.proofs.RunEnds.{ends_in_errors, ends_in_output}
use Rattle.pyver_tool.proofs.program.write_answer.Goals as goal

pub returns-in-Err : goal.returns-in-Err
returns-in-Err g c =
    let last = c.report_write_failure.ensures.told in
    ends_in_output g.W.Write.contents g.E.Write.contents c.args.out.now c.write_whole.new.writer c.args.err.now c.report_write_failure.new.err c.report_write_failure.result c.args.answer.now last.0 last.1
    (subst (λ bytes. WroteBeginning (g.W.Write.contents c.args.out.now) (g.W.Write.contents c.write_whole.new.writer) bytes) c.as_slice.ensures.value c.write_whole.ensures.beginning) last.2

pub returns-in-Err-write_whole : goal.returns-in-Err-write_whole
returns-in-Err-write_whole g c =
    ends_in_errors g.W.Write.contents g.E.Write.contents c.args.out.now c.write_whole.new.writer c.args.err.now c.write_whole-2.new.writer c.failure_status.result c.args.answer.now c.failure_status.ensures.either
    (subst (λ bytes. Appends (g.W.Write.contents c.args.out.now) (g.W.Write.contents c.write_whole.new.writer) bytes) c.as_slice.ensures.value c.in_default.ensures.whole)
    (subst (λ bytes. WroteBeginning (g.E.Write.contents c.args.err.now) (g.E.Write.contents c.write_whole-2.new.writer) bytes) c.as_slice-2.ensures.value c.write_whole-2.ensures.beginning)
