use Rattle.std.proofs.Common.{◌≡◌, ◌∙◌, [], ap, map, string_bytes, sym}
use Rattle.std.proofs.lemmas.Result.{err_from_is_err_and}
use Rattle.pyver_commands.proofs.Filtering.{none_names}
use Rattle.pyver_commands.proofs.SourceReads.{alone_read, alone_stopped}
use Rattle.pyver_commands.specs.Sources.SourceTexts.{source_of}
use Rattle.pyver_commands.proofs.sources.source_texts.read_sources.Goals as goal

pub returns-in_err-open_and_read-clause-stopped : goal.returns-in_err-open_and_read-clause-stopped
returns-in_err-open_and_read-clause-stopped g c =
    let none : map string_bytes c.args.names.now ≡ [] = none_names string_bytes c.args.names.now (sym c.is_empty.ensures ∙ c.if-not-is_empty.false) in
    let p = err_from_is_err_and c.from_residual.result c.from_residual.ensures.1 in
    rw (p.1, p.2) (alone_stopped _ _ (map string_bytes c.args.names.now) _ c.args.input.now c.open_and_read.new.input none c.in_err-open_and_read.ensures.stopped)

pub returns-in-None-clause-read : goal.returns-in-None-clause-read
returns-in-None-clause-read g c =
    let none : map string_bytes c.args.names.now ≡ [] = none_names string_bytes c.args.names.now (sym c.is_empty.ensures ∙ c.if-not-is_empty.false) in
    let read = rw c.in-None.is at c.in_ok-open_and_read.ensures.read in
    alone_read _ _ (map string_bytes c.args.names.now) _ _ c.args.input.now c.open_and_read.new.input none (ap (map source_of) c.requires.new.0) read
