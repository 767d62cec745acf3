use Rattle.std.proofs.Common.{arith, ◌+◌, ◌∙◌, None, Some, ap, drop, map, refl, true, string_bytes, subst, sym, take, take_all}
use Rattle.std.proofs.lemmas.Result.{err_from_is_err_and}
use Rattle.pyver_commands.proofs.Filtering.{names_more, names_split, not_none}
use Rattle.pyver_commands.proofs.SourceReads.{all_ends, all_more, all_refused, all_stopped}
use Rattle.pyver_commands.specs.Sources.SourceTexts.{FailsInSources, GainsSource, FailsInSource, size_of, source_of, sources_of}
use Rattle.pyver_commands.specs.Sources.{ReadsAll, ReadsInput, is_none}
use Rattle.pyver_commands.proofs.sources.source_texts.read_all.Goals as goal

pub loop-name-init : goal.loop-name-init
loop-name-init g c = ((refl, ap (map source_of) c.requires.new.0), refl, (omega (arith, ap size_of c.requires.new.0, c.requires.new.1), omega (arith, c.requires.new.1)), refl)

pub returns-in_err-open_and_read-clause-stopped : goal.returns-in_err-open_and_read-clause-stopped
returns-in_err-open_and_read-clause-stopped g c =
    let p = err_from_is_err_and c.from_residual.result c.from_residual.ensures.1 in
    let why = c.in_err-open_and_read.field-0.0 in
    let read = map string_bytes (take c.loop-name.name-index c.args.names.now) in
    let left = map string_bytes (drop (c.loop-name.name-index + 1) c.args.names.now) in
    let text = c.as_str-name.result.now in
    rw (p.1, p.2) (subst (λ n. FailsInSources (g.F.Files.known c.args.files.now) g.R.Read.remaining n c.args.input.now c.open_and_read.new.input why)
    (sym (names_split string_bytes c.args.names.now c.loop-name.name-index c.name-item.result _ text c.loop-name-test.true c.name-item.is c.as_str-name.ensures.value))
    (all_stopped _ _ read c.loop-name.is_first text _ (sources_of c.loop-name.state) c.args.input.now c.loop-name.input c.open_and_read.new.input c.loop-name.invariant.3 c.loop-name.invariant.0 left why
    (subst (λ f. FailsInSource f g.R.Read.remaining (record { is_first = c.loop-name.is_first; name = text }) c.loop-name.input c.open_and_read.new.input why) c.loop-name.invariant.1 c.in_err-open_and_read.ensures.stopped)))

pub returns-in-Some-clause-read : goal.returns-in-Some-clause-read
returns-in-Some-clause-read g c =
    let read = map string_bytes (take c.loop-name.name-index c.args.names.now) in
    let left = map string_bytes (drop (c.loop-name.name-index + 1) c.args.names.now) in
    let text = c.as_str-name.result.now in
    let refused = rw c.in-Some.is at c.in_ok-open_and_read.ensures.read in
    subst (λ n. ReadsInput (g.F.Files.known c.args.files.now) g.R.Read.remaining n c.args.input.now c.open_and_read.new.input (record { sources = sources_of c.open_and_read.new.state; unopened = Some (record { name = text; failure = c.in-Some.failure }) }))
    (sym (names_split string_bytes c.args.names.now c.loop-name.name-index c.name-item.result _ text c.loop-name-test.true c.name-item.is c.as_str-name.ensures.value))
    (all_refused _ _ read c.loop-name.is_first text _ (sources_of c.open_and_read.new.state) c.args.input.now c.loop-name.input c.open_and_read.new.input c.loop-name.invariant.3 c.loop-name.invariant.0 left c.in-Some.failure
    (subst (λ f. GainsSource f g.R.Read.remaining (record { is_first = c.loop-name.is_first; name = text }) (sources_of c.loop-name.state) (sources_of c.open_and_read.new.state) c.loop-name.input c.open_and_read.new.input (Some c.in-Some.failure)) c.loop-name.invariant.1 refused))

pub loop-name-preserved : goal.loop-name-preserved
loop-name-preserved g c =
    let read = map string_bytes (take c.loop-name.name-index c.args.names.now) in
    let text = c.as_str-name.result.now in
    let more = names_more string_bytes c.args.names.now c.loop-name.name-index c.name-item.result _ text c.loop-name-test.true c.name-item.is c.as_str-name.ensures.value in
    let reads = rw c.in-None.is at c.in_ok-open_and_read.ensures.read in (
      subst (λ n. ReadsAll (g.F.Files.known c.args.files.now) g.R.Read.remaining true n c.args.input.now c.open_and_read.new.input (sources_of c.open_and_read.new.state)) (sym more)
          (all_more _ _ read c.loop-name.is_first text _ (sources_of c.open_and_read.new.state) c.args.input.now c.loop-name.input c.open_and_read.new.input c.loop-name.invariant.3 c.loop-name.invariant.0
          (subst (λ f. GainsSource f g.R.Read.remaining (record { is_first = c.loop-name.is_first; name = text }) (sources_of c.loop-name.state) (sources_of c.open_and_read.new.state) c.loop-name.input c.open_and_read.new.input None) c.loop-name.invariant.1 reads)),
      c.in_ok-open_and_read.ensures.kept ∙ c.loop-name.invariant.1,
      c.in_ok-open_and_read.ensures.limits,
      not_none read text ∙ ap is_none (sym more),
    )

pub returns-clause-read : goal.returns-clause-read
returns-clause-read g c =
    subst (λ l. ReadsInput (g.F.Files.known c.args.files.now) g.R.Read.remaining (map string_bytes l) c.args.input.now c.loop-name.input (record { sources = sources_of c.loop-name.state; unopened = None }))
    (take_all c.loop-name.name-index c.args.names.now c.loop-name-test.false) (all_ends _ _ _ (sources_of c.loop-name.state) c.args.input.now c.loop-name.input c.loop-name.invariant.0)
