use Rattle.std.proofs.Common.{◌≡◌, ◌∙◌, ◌+◌, ap, arith, length, map}
use Rattle.std.proofs.lemmas.Result.{err_from_is_err_and}
use Rattle.pyver_commands.proofs.SourceReads.{size_pushed, source_read, source_stops, sources_pushed, stops_after_text}
use Rattle.pyver_commands.specs.Sources.SourceTexts.{size_of, source_of, sources_of}
use Rattle.pyver_commands.specs.Sources.SourceViews.{origin_of}
use Rattle.pyver_commands.proofs.sources.source_texts.open_and_read.Goals as goal

pub returns-in_err-text-clause-stopped : goal.returns-in_err-text-clause-stopped
returns-in_err-text-clause-stopped g c =
    let p = err_from_is_err_and c.from_residual.result c.from_residual.ensures.1 in
    rw (p.1, p.2) (source_stops _ _ (origin_of c.args.origin) _ c.args.input.now c.read_by_name.new.input c.in_err-text.ensures.stopped)

pub returns-in_err-push-in-Ok-clause-stopped : goal.returns-in_err-push-in-Ok-clause-stopped
returns-in_err-push-in-Ok-clause-stopped g c =
    let p = err_from_is_err_and c.from_residual-in_err-push-in-Ok.result c.from_residual-in_err-push-in-Ok.ensures.1 in
    let read = rw c.in-Ok.is at c.in_ok-text.ensures.read in
    rw (p.1, p.2) (stops_after_text _ _ (origin_of c.args.origin) c.args.input.now c.read_by_name.new.input c.in-Ok.text.items read)

pub returns-in_ok-push-in-Ok-clause-read : goal.returns-in_ok-push-in-Ok-clause-read
returns-in_ok-push-in-Ok-clause-read g c =
    let read = rw c.in-Ok.is at c.in_ok-text.ensures.read in
    source_read _ _ (origin_of c.args.origin) (sources_of c.args.state.now) _ c.args.input.now c.read_by_name.new.input c.in-Ok.text.items read
    (ap (map source_of) c.in_ok-push-in-Ok.ensures.items ∙ sources_pushed c.args.state.now.texts.items _)

pub returns-in_ok-push-in-Ok-clause-limits : goal.returns-in_ok-push-in-Ok-clause-limits
returns-in_ok-push-in-Ok-clause-limits g c =
    let limits = rw c.in-Ok.is at c.in_ok-text.ensures.limits in
    let pushed : size_of c.push.new.self.items ≡ size_of c.args.state.now.texts.items + (length c.in-Ok.text.items + 1) = ap size_of c.in_ok-push-in-Ok.ensures.items ∙ size_pushed c.args.state.now.texts.items _ in
    (omega (arith, pushed, limits.0, c.requires.0), limits.1)
