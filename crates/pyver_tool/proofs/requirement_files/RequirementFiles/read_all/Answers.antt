use Rattle.std.proofs.Common.{◌≡◌, ◌∙◌, ◌+◌, ◌∷◌, ◌++◌, ap, arith, drop, length, length-append, map, refl, subst, sym, take, take_all}
use Rattle.std.proofs.lemmas.List.{length-map, length-take-le, take-map}
use Rattle.std.proofs.lemmas.Result.{err_from_is_err_and}
use Rattle.pyver_tool.proofs.RunEnds.{each_more, ends_stopped, ends_whole, taken_names}
use Rattle.pyver_commands.proofs.Filtering.{names_split}
use Rattle.pyver_commands.proofs.SourceReads.{stops_before}
use Rattle.pyver_tool.specs.RequirementFiles.{ReadsFilesInTurn, ReadsStep, names_of_files, none_read, read_of}
use Rattle.pyver_commands.specs.Sources.SourceTexts.{FailsInText}
use Rattle.pyver_findings.specs.Views.{named_file_of}
use Rattle.pyver_tool.proofs.requirement_files.RequirementFiles.read_all.Goals as goal

pub returns-in_err-named-clause-stopped : goal.returns-in_err-named-clause-stopped
returns-in_err-named-clause-stopped g c =
    let p = err_from_is_err_and c.from_residual.result c.from_residual.ensures.1 in
    let known = g.F.Files.known c.args.files.now in
    let paths = g.F.Files.path c.args.files.now in
    let here = c.loop-index in
    let named = named_file_of c.index.result.now in
    let front = map named_file_of (take here.index here.self.names.items) in
    let split = names_split named_file_of here.self.names.items here.index c.index.result.now _ named (omega (arith, c.loop-index-test.true, here.invariant.5)) c.index.ensures refl in
    let each = subst (λ f. ReadsFilesInTurn c.args.kind known paths g.R.Read.remaining f none_read (read_of here.self) c.args.input.now here.input) (take-map named_file_of here.index here.self.names.items) here.invariant.0 in
    rw (p.1, p.2) (ends_stopped c.args.kind known paths g.R.Read.remaining (names_of_files c.args.self.now) here.self c.args.input.now here.input here.input front _ named split each here.invariant.1 _
    (stops_before known g.R.Read.remaining named.name here.input))

pub returns-in_err-read_file-clause-stopped : goal.returns-in_err-read_file-clause-stopped
returns-in_err-read_file-clause-stopped g c =
    let p = err_from_is_err_and c.from_residual-in_err-read_file.result c.from_residual-in_err-read_file.ensures.1 in
    let why = c.in_err-read_file.field-0.0 in
    let known = g.F.Files.known c.args.files.now in
    let paths = g.F.Files.path c.args.files.now in
    let here = c.loop-index in
    let named = named_file_of c.in_ok-named.named in
    let front = map named_file_of (take here.index here.self.names.items) in
    let split = names_split named_file_of here.self.names.items here.index c.index.result.now _ named (omega (arith, c.loop-index-test.true, here.invariant.5)) c.index.ensures c.in_ok-named.ensures.cases in
    let each = subst (λ f. ReadsFilesInTurn c.args.kind known paths g.R.Read.remaining f none_read (read_of here.self) c.args.input.now here.input) (take-map named_file_of here.index here.self.names.items) here.invariant.0 in
    rw (p.1, p.2) (ends_stopped c.args.kind known paths g.R.Read.remaining (names_of_files c.args.self.now) here.self c.args.input.now here.input c.read_file.new.input front _ named split each here.invariant.1 why
    (subst (λ f. FailsInText f g.R.Read.remaining named.name here.input c.read_file.new.input why) here.invariant.2 c.in_err-read_file.ensures.stopped))

pub loop-index-preserved : goal.loop-index-preserved
loop-index-preserved g c =
    let known = g.F.Files.known c.args.files.now in
    let paths = g.F.Files.path c.args.files.now in
    let here = c.loop-index in
    let new = c.read_file.new.self in
    let named = named_file_of c.in_ok-named.named in
    let front = map named_file_of (take here.index here.self.names.items) in
    let rest = map named_file_of (drop (here.index + 1) here.self.names.items) in
    let split : names_of_files here.self ≡ front ++ named ∷ rest =
    names_split named_file_of here.self.names.items here.index c.index.result.now _ named (omega (arith, c.loop-index-test.true, here.invariant.5)) c.index.ensures c.in_ok-named.ensures.cases in
    let each = subst (λ f. ReadsFilesInTurn c.args.kind known paths g.R.Read.remaining f none_read (read_of here.self) c.args.input.now here.input) (take-map named_file_of here.index here.self.names.items) here.invariant.0 in
    let kept = subst (λ k. ReadsStep c.args.kind k (g.F.Files.path here.files) g.R.Read.remaining named here.self new here.input c.read_file.new.input) here.invariant.2 c.in_ok-read_file.ensures.read in
    let step : ReadsStep c.args.kind known paths g.R.Read.remaining named here.self new here.input c.read_file.new.input = subst (λ p. ReadsStep c.args.kind known p g.R.Read.remaining named here.self new here.input c.read_file.new.input) here.invariant.3 kept in
    let long : length front ≡ here.index = length-map (take here.index here.self.names.items) named_file_of ∙ length-take-le here.index here.self.names.items (omega (arith, here.invariant.5, here.invariant.6)) in
    let grown : length new.names.items ≡ length here.self.names.items + length step.more =
    sym (length-map new.names.items named_file_of) ∙ ap length step.behind ∙ length-append (names_of_files here.self) step.more ∙ ap (λ n. n + length step.more) (length-map here.self.names.items named_file_of) in
    let counted : c.len-count-in-loop-index.result ≡ length new.names.items = c.len-count-in-loop-index.ensures ∙ new.names.ok.0 in (
      subst (λ f. ReadsFilesInTurn c.args.kind known paths g.R.Read.remaining f none_read (read_of new) c.args.input.now c.read_file.new.input) (sym (ap (take (here.index + 1)) step.behind ∙ taken_names (names_of_files here.self) step.more front rest named here.index split long))
          (each_more c.args.kind known paths g.R.Read.remaining (names_of_files c.args.self.now) here.self c.args.input.now here.input c.read_file.new.input front rest named split each new step),
      step.names (names_of_files c.args.self.now) here.invariant.1,
      c.in_ok-read_file.ensures.kept ∙ here.invariant.2,
      c.in_ok-read_file.ensures.kept_paths ∙ here.invariant.3,
      step.reads,
      counted,
      omega (arith, c.loop-index-test.true, here.invariant.5, grown, counted),
    )

pub returns-clause-read : goal.returns-clause-read
returns-clause-read g c =
    let known = g.F.Files.known c.args.files.now in
    let paths = g.F.Files.path c.args.files.now in
    let here = c.loop-index in
    let whole : take here.index (names_of_files here.self) ≡ names_of_files here.self = take_all here.index (names_of_files here.self) (omega (arith, c.loop-index-test.false, here.invariant.5, length-map here.self.names.items named_file_of)) in
    ends_whole c.args.kind known paths g.R.Read.remaining (names_of_files c.args.self.now) here.self c.args.input.now here.input here.invariant.1
    (subst (λ f. ReadsFilesInTurn c.args.kind known paths g.R.Read.remaining f none_read (read_of here.self) c.args.input.now here.input) whole here.invariant.0)
