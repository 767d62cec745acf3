use Rattle.std.proofs.Common.{◌∙◌, sym}
use Rattle.std.proofs.lemmas.Result.{err_from_is_err_and}
use Rattle.pyver_commands.proofs.SourceReads.{file_part, input_part}
use Rattle.pyver_commands.proofs.sources.source_texts.read_by_name.Goals as goal

pub returns-in_err-read_text-clause-stopped : goal.returns-in_err-read_text-clause-stopped
returns-in_err-read_text-clause-stopped g c =
    let p = err_from_is_err_and c.from_residual.result c.from_residual.ensures.1 in
    rw (p.1, p.2) (input_part _ _ c.args.name.now _ c.args.input.now c.read_text.new.input c.in_err-read_text.ensures.part.0 c.utf8.name (sym c.is_input.ensures ∙ c.if-is_input.true) c.in_err-read_text.ensures.part.1 c.in_err-read_text.ensures.failure)

pub returns-in_err-read_text-in-Ok-clause-stopped : goal.returns-in_err-read_text-in-Ok-clause-stopped
returns-in_err-read_text-in-Ok-clause-stopped g c =
    let p = err_from_is_err_and c.from_residual-in_err-read_text-in-Ok.result c.from_residual-in_err-read_text-in-Ok.ensures.1 in
    rw (p.1, p.2) (file_part _ _ c.args.name.now g.F.File.Read.remaining _ c.in-Ok.file c.read_text-in-Ok.new.input c.args.input.now c.in_err-read_text-in-Ok.ensures.part.0 c.utf8.name (sym c.is_input.ensures ∙ c.if-is_input.false)
    c.in-Ok.ensures.opened c.in_err-read_text-in-Ok.ensures.part.1 c.in_err-read_text-in-Ok.ensures.failure)
