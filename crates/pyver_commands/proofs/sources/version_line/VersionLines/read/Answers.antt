use Rattle.std.proofs.Common.{◌≡◌, ◌+◌, ap, arith, length, map, subst, sym, take_all}
use Rattle.pyver_commands.proofs.SourceReads.{lines_more, none_faults, size_front, size_more}
use Rattle.pyver_commands.specs.Sources.InputLines.{filled_lines}
use Rattle.pyver_commands.specs.Sources.SourceTexts.{source_of}
use Rattle.pyver_commands.specs.Sources.VersionLineViews.{IsOfLines, KeepsLines}
use Rattle.pyver_commands.proofs.sources.version_line.VersionLines.read.Goals as goal

pub loop-source-init : goal.loop-source-init
loop-source-init c = record { keeps = c.new-lines.ensures c.args.options; limits = omega (arith, none_faults c.args.options c.new-lines.result (c.new-lines.ensures c.args.options)) }

pub push_source-requires : goal.push_source-requires
push_source-requires c =
    let same : length c.as_slice.result.now ≡ length c.source-item.result.text.items = ap length c.as_slice.ensures.value in
    omega (arith, same, c.requires, c.loop-source.invariant.limits, size_front c.args.sources.now (c.loop-source.source-index + 1), size_more c.args.sources.now c.loop-source.source-index c.source-item.result _ c.loop-source-test.true c.source-item.is)

pub loop-source-preserved : goal.loop-source-preserved
loop-source-preserved c = let same : length c.as_slice.result.now ≡ length c.source-item.result.text.items = ap length c.as_slice.ensures.value in record {
  keeps = subst (λ l. KeepsLines c.args.options l c.push_source.new.self) (sym (lines_more c.args.sources.now c.loop-source.source-index c.source-item.result _ c.loop-source-test.true c.source-item.is))
      ((rw c.as_slice.ensures.value at c.in_ok-push_source.ensures.lines) _ c.loop-source.invariant.keeps);
  limits = omega (arith, same, c.loop-source.invariant.limits, c.in_ok-push_source.ensures.faults, size_more c.args.sources.now c.loop-source.source-index c.source-item.result _ c.loop-source-test.true c.source-item.is);
}

pub returns : goal.returns
returns c =
    subst (λ l. IsOfLines c.args.options (filled_lines (map source_of l)) c.finish.new.self) (take_all c.loop-source.source-index c.args.sources.now c.loop-source-test.false)
    (c.in_ok-finish.ensures _ c.loop-source.invariant.keeps)
