use Rattle.std.proofs.Common.{arith, ◌+◌, ◌∙◌, None, Some, ap, drop, map, refl, string_bytes, subst, sym, take, take_all}
use Rattle.std.proofs.lemmas.Result.{err_from_is_err_and}
use Rattle.pyver_commands.proofs.Filtering.{GoesOn, goes_on_ends, goes_on_more, goes_on_none, goes_on_refused, goes_on_stops, names_more, names_split, not_none, same_reads, same_refuses, same_stops}
use Rattle.pyver_commands.specs.FilterSteps.{AllFinish, AllFail}
use Rattle.pyver_commands.specs.Sources.{is_none}
use Rattle.pyver_commands.proofs.filter_sources.filter_all.Goals as goal

pub loop-name-init : goal.loop-name-init
loop-name-init g c = (goes_on_none _ _ _ _ c.args.rule.now c.args.state.now c.args.input.now c.args.out.now c.args.err.now c.requires.new.1 c.requires.new.2 c.requires.new.3 c.requires.new.4, refl, omega (arith, c.requires.new.1), refl)

pub returns-in_err-open_and_filter-clause-stopped : goal.returns-in_err-open_and_filter-clause-stopped
returns-in_err-open_and_filter-clause-stopped g c =
    let p = err_from_is_err_and c.from_residual.result c.from_residual.ensures.1 in
    let why = c.in_err-open_and_filter.field-0.0 in
    let read = map string_bytes (take c.loop-name.name-index c.args.names.now) in
    let left = map string_bytes (drop (c.loop-name.name-index + 1) c.args.names.now) in
    let text = c.as_str-name.result.now in
    rw (p.1, p.2) (subst (λ n. AllFail (g.F.Files.known c.args.files.now) g.R.Read.remaining g.W.Write.contents g.E.Write.contents c.args.rule.now n c.args.input.now c.open_and_filter.new.input c.args.out.now c.open_and_filter.new.out c.args.err.now c.open_and_filter.new.err why)
    (sym (names_split string_bytes c.args.names.now c.loop-name.name-index c.name-item.result _ text c.loop-name-test.true c.name-item.is c.as_str-name.ensures.value))
    (goes_on_stops _ _ _ _ c.args.rule.now read c.loop-name.state c.args.input.now c.loop-name.input c.open_and_filter.new.input c.args.out.now c.loop-name.out c.open_and_filter.new.out c.args.err.now c.loop-name.err c.open_and_filter.new.err
    c.loop-name.invariant.0 text left why
    (same_stops _ _ _ _ _ c.args.rule.now read c.loop-name.is_first text c.loop-name.invariant.1 c.loop-name.invariant.3 c.loop-name.state c.loop-name.input c.open_and_filter.new.input c.loop-name.out c.open_and_filter.new.out
    c.loop-name.err c.open_and_filter.new.err why c.in_err-open_and_filter.ensures.stopped)))

pub returns-in-Some-clause-finished : goal.returns-in-Some-clause-finished
returns-in-Some-clause-finished g c =
    let read = map string_bytes (take c.loop-name.name-index c.args.names.now) in
    let left = map string_bytes (drop (c.loop-name.name-index + 1) c.args.names.now) in
    let text = c.as_str-name.result.now in
    let refused = rw c.in-Some.is at c.in_ok-open_and_filter.ensures.finished in
    subst (λ n. AllFinish (g.F.Files.known c.args.files.now) g.R.Read.remaining g.W.Write.contents g.E.Write.contents c.args.rule.now n (Some (record { name = text; failure = c.in-Some.failure })) c.open_and_filter.new.state c.args.input.now c.open_and_filter.new.input c.args.out.now c.open_and_filter.new.out c.args.err.now c.open_and_filter.new.err)
    (sym (names_split string_bytes c.args.names.now c.loop-name.name-index c.name-item.result _ text c.loop-name-test.true c.name-item.is c.as_str-name.ensures.value))
    (goes_on_refused _ _ _ _ c.args.rule.now read c.loop-name.state c.args.input.now c.loop-name.input c.open_and_filter.new.input c.args.out.now c.loop-name.out c.open_and_filter.new.out c.args.err.now c.loop-name.err c.open_and_filter.new.err
    c.loop-name.invariant.0 text left c.in-Some.failure c.open_and_filter.new.state
    (same_refuses _ _ _ _ _ c.args.rule.now read c.loop-name.is_first text c.loop-name.invariant.1 c.loop-name.invariant.3 c.in-Some.failure c.loop-name.state c.open_and_filter.new.state c.loop-name.input c.open_and_filter.new.input c.loop-name.out
    c.open_and_filter.new.out c.loop-name.err c.open_and_filter.new.err refused))

pub loop-name-preserved : goal.loop-name-preserved
loop-name-preserved g c =
    let read = map string_bytes (take c.loop-name.name-index c.args.names.now) in
    let text = c.as_str-name.result.now in
    let more = names_more string_bytes c.args.names.now c.loop-name.name-index c.name-item.result _ text c.loop-name-test.true c.name-item.is c.as_str-name.ensures.value in
    let reads = rw c.in-None.is at c.in_ok-open_and_filter.ensures.finished in (
      subst (λ n. GoesOn (g.F.Files.known c.args.files.now) g.R.Read.remaining g.W.Write.contents g.E.Write.contents c.args.rule.now n c.open_and_filter.new.state c.args.input.now c.open_and_filter.new.input c.args.out.now c.open_and_filter.new.out c.args.err.now c.open_and_filter.new.err)
          (sym more)
          (goes_on_more _ _ _ _ c.args.rule.now read c.loop-name.state c.args.input.now c.loop-name.input c.open_and_filter.new.input c.args.out.now c.loop-name.out c.open_and_filter.new.out c.args.err.now c.loop-name.err c.open_and_filter.new.err
          c.loop-name.invariant.0 text c.open_and_filter.new.state
          (same_reads _ _ _ _ _ c.args.rule.now read c.loop-name.is_first text c.loop-name.invariant.1 c.loop-name.invariant.3 c.loop-name.state c.open_and_filter.new.state c.loop-name.input c.open_and_filter.new.input c.loop-name.out
          c.open_and_filter.new.out c.loop-name.err c.open_and_filter.new.err reads)),
      c.in_ok-open_and_filter.ensures.kept ∙ c.loop-name.invariant.1,
      c.in_ok-open_and_filter.ensures.limits,
      not_none read text ∙ ap is_none (sym more),
    )

pub returns-clause-finished : goal.returns-clause-finished
returns-clause-finished g c =
    subst (λ l. AllFinish (g.F.Files.known c.args.files.now) g.R.Read.remaining g.W.Write.contents g.E.Write.contents c.args.rule.now (map string_bytes l) None c.loop-name.state c.args.input.now c.loop-name.input c.args.out.now c.loop-name.out c.args.err.now c.loop-name.err)
    (take_all c.loop-name.name-index c.args.names.now c.loop-name-test.false)
    (goes_on_ends _ _ _ _ c.args.rule.now _ c.loop-name.state c.args.input.now c.loop-name.input c.args.out.now c.loop-name.out c.args.err.now c.loop-name.err c.loop-name.invariant.0)
