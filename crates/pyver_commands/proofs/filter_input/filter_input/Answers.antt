use Rattle.std.proofs.Common.{[], Some, refl, subst, take, arith}
use Rattle.std.proofs.KnownBytes.{Consumes-kept, Consumes-nil}
use Rattle.std.proofs.lemmas.Result.{err_from_is_err_and}
use Rattle.std.specs.Io.KnownBytes.{Consumes}
use Rattle.pyver_commands.proofs.Filtering.{counted, finishes, finishes_restarted, goes_counted, goes_more, goes_none, restarted, stops_finishing, stops_reading, stops_restarted, stops_writing}
use Rattle.pyver_commands.specs.Sources.SourceViews.{origin_of}
use Rattle.pyver_commands.proofs.filter_input.filter_input.Goals as goal

pub loop-state-init : goal.loop-state-init
loop-state-init g c = (
  goes_none _ _ _ c.args.rule.now (origin_of c.args.origin) _ _ c.args.input.now c.args.out.now c.args.err.now c.new-line.result.items refl refl refl c.requires.nothing.0 c.requires.nothing.1 c.new-line.ensures.items,
  omega arith,
  c.requires.limits,
)

pub returns-in_default-clause-stopped : goal.returns-in_default-clause-stopped
returns-in_default-clause-stopped g c =
    stops_restarted _ _ _ c.args.rule.now (origin_of c.args.origin) c.args.state.now c.args.input.now _ c.args.out.now _ c.args.err.now _ (stops_reading _ _ _ c.args.rule.now (origin_of c.args.origin) (restarted c.args.state.now) c.loop-state.state c.args.input.now c.loop-state.input c.args.out.now c.loop-state.out c.args.err.now c.loop-state.err c.loop-state.line.items
    c.loop-state.invariant.0 c.read.new.self [] (Consumes-kept _ _ _ [] (Consumes-nil (g.R.Read.remaining c.loop-state.input)) c.in_default.ensures.bytes))

pub returns-in_err-push_line-clause-stopped : goal.returns-in_err-push_line-clause-stopped
returns-in_err-push_line-clause-stopped g c =
    let p = err_from_is_err_and c.from_residual.result c.from_residual.ensures.1 in
    rw p.1 (stops_restarted _ _ _ c.args.rule.now (origin_of c.args.origin) c.args.state.now c.args.input.now _ c.args.out.now _ c.args.err.now _ (stops_reading _ _ _ c.args.rule.now (origin_of c.args.origin) (restarted c.args.state.now) c.loop-state.state c.args.input.now c.loop-state.input c.args.out.now c.loop-state.out c.args.err.now c.loop-state.err c.loop-state.line.items
    c.loop-state.invariant.0 c.read.new.self _ c.in-Ok.ensures.bytes.0))

pub returns-in_err-push_bytes-clause-stopped : goal.returns-in_err-push_bytes-clause-stopped
returns-in_err-push_bytes-clause-stopped g c =
    let p = err_from_is_err_and c.from_residual-in_err-push_bytes.result c.from_residual-in_err-push_bytes.ensures.1 in
    rw p.1 (stops_restarted _ _ _ c.args.rule.now (origin_of c.args.origin) c.args.state.now c.args.input.now _ c.args.out.now _ c.args.err.now _ (stops_reading _ _ _ c.args.rule.now (origin_of c.args.origin) (restarted c.args.state.now) c.loop-state.state c.args.input.now c.loop-state.input c.args.out.now c.loop-state.out c.args.err.now c.loop-state.err c.loop-state.line.items
    c.loop-state.invariant.0 c.read.new.self _ c.in-Ok.ensures.bytes.0))

pub returns-clause-stopped : goal.returns-clause-stopped
returns-clause-stopped g c =
    stops_restarted _ _ _ c.args.rule.now (origin_of c.args.origin) c.args.state.now c.args.input.now _ c.args.out.now _ c.args.err.now _ (stops_reading _ _ _ c.args.rule.now (origin_of c.args.origin) (restarted c.args.state.now) c.loop-state.state c.args.input.now c.loop-state.input c.args.out.now c.loop-state.out c.args.err.now c.loop-state.err c.loop-state.line.items
    c.loop-state.invariant.0 c.loop-state.input [] (Consumes-nil (g.R.Read.remaining c.loop-state.input)))

pub returns-in_err-write_both-clause-stopped : goal.returns-in_err-write_both-clause-stopped
returns-in_err-write_both-clause-stopped g c =
    let p = err_from_is_err_and c.from_residual-in_err-write_both.result c.from_residual-in_err-write_both.ensures.1 in
    let zero = c.if-count-eq0.true in
    let going = goes_counted _ _ _ c.args.rule.now (origin_of c.args.origin) (restarted c.args.state.now) c.loop-state.state c.args.input.now c.loop-state.input c.args.out.now c.loop-state.out c.args.err.now c.loop-state.err c.loop-state.line.items c.loop-state.invariant.0 in
    rw p.1 (stops_restarted _ _ _ c.args.rule.now (origin_of c.args.origin) c.args.state.now c.args.input.now _ c.args.out.now _ c.args.err.now _ (stops_finishing _ _ _ c.args.rule.now (origin_of c.args.origin) (restarted c.args.state.now) (counted c.loop-state.state) c.args.input.now c.loop-state.input c.args.out.now c.loop-state.out c.args.err.now c.loop-state.err c.loop-state.line.items
    going c.read.new.self c.write_both.new.out c.write_both.new.err c.push_line.new.self
    (subst (λ n. Consumes (g.R.Read.remaining c.loop-state.input) (g.R.Read.remaining c.read.new.self) (take n c.read.new.buf)) zero c.in-Ok.ensures.bytes.0)
    (c.in-Ok.ensures.bytes.1 zero (omega arith)) (rw c.as_slice.ensures.value at c.in_ok-push_line.ensures) (rw c.as_slice-then-count-eq0.ensures.value at c.write_both.ensures.output)
    (rw c.as_slice-then-count-eq0-2.ensures.value at c.write_both.ensures.errors)))

pub returns-in_err-write_both-clause-failure : goal.returns-in_err-write_both-clause-failure
returns-in_err-write_both-clause-failure g c =
    let p = err_from_is_err_and c.from_residual-in_err-write_both.result c.from_residual-in_err-write_both.ensures.1 in
    rw (p.1, p.2) (c.in_err-write_both.ensures.failure (Some c.args.origin.name.now))

pub returns-then-count-eq0-clause-finished : goal.returns-then-count-eq0-clause-finished
returns-then-count-eq0-clause-finished g c =
    let zero = c.if-count-eq0.true in
    let going = goes_counted _ _ _ c.args.rule.now (origin_of c.args.origin) (restarted c.args.state.now) c.loop-state.state c.args.input.now c.loop-state.input c.args.out.now c.loop-state.out c.args.err.now c.loop-state.err c.loop-state.line.items c.loop-state.invariant.0 in
    finishes_restarted _ _ _ c.args.rule.now (origin_of c.args.origin) c.args.state.now c.args.input.now _ c.args.out.now _ c.args.err.now _ c.clear.new.self (finishes _ _ _ c.args.rule.now (origin_of c.args.origin) (restarted c.args.state.now) (counted c.loop-state.state) c.args.input.now c.loop-state.input c.args.out.now c.loop-state.out c.args.err.now c.loop-state.err c.loop-state.line.items
    going c.read.new.self c.write_both.new.out c.write_both.new.err c.push_line.new.self c.clear.new.self
    (subst (λ n. Consumes (g.R.Read.remaining c.loop-state.input) (g.R.Read.remaining c.read.new.self) (take n c.read.new.buf)) zero c.in-Ok.ensures.bytes.0)
    (c.in-Ok.ensures.bytes.1 zero (omega arith)) (rw c.as_slice.ensures.value at c.in_ok-push_line.ensures) (rw c.as_slice-then-count-eq0.ensures.value at c.in_ok-write_both.ensures.whole.0)
    (rw c.as_slice-then-count-eq0-2.ensures.value at c.in_ok-write_both.ensures.whole.1) c.clear.ensures.counts.2 c.clear.ensures.kept c.clear.ensures.nothing.0 c.clear.ensures.nothing.1)

pub returns-in_err-write_both-2-clause-stopped : goal.returns-in_err-write_both-2-clause-stopped
returns-in_err-write_both-2-clause-stopped g c =
    let p = err_from_is_err_and c.from_residual-in_err-write_both-2.result c.from_residual-in_err-write_both-2.ensures.1 in
    let steps = c.in_ok-push_bytes.ensures.steps in
    let going = goes_counted _ _ _ c.args.rule.now (origin_of c.args.origin) (restarted c.args.state.now) c.loop-state.state c.args.input.now c.loop-state.input c.args.out.now c.loop-state.out c.args.err.now c.loop-state.err c.loop-state.line.items c.loop-state.invariant.0 in
    rw p.1 (stops_restarted _ _ _ c.args.rule.now (origin_of c.args.origin) c.args.state.now c.args.input.now _ c.args.out.now _ c.args.err.now _ (stops_writing _ _ _ c.args.rule.now (origin_of c.args.origin) (restarted c.args.state.now) (counted c.loop-state.state) c.args.input.now c.loop-state.input c.args.out.now c.loop-state.out c.args.err.now c.loop-state.err c.loop-state.line.items
    going c.read.new.self c.write_both-in-loop-state.new.out c.write_both-in-loop-state.new.err c.push_bytes.new.self _ steps.0 c.push_bytes.new.line.items c.in-Ok.ensures.bytes.0 steps.1 steps.2
    (rw c.as_slice-in-loop-state.ensures.value at c.write_both-in-loop-state.ensures.output) (rw c.as_slice-in-loop-state-2.ensures.value at c.write_both-in-loop-state.ensures.errors)))

pub returns-in_err-write_both-2-clause-failure : goal.returns-in_err-write_both-2-clause-failure
returns-in_err-write_both-2-clause-failure g c =
    let p = err_from_is_err_and c.from_residual-in_err-write_both-2.result c.from_residual-in_err-write_both-2.ensures.1 in
    rw (p.1, p.2) (c.in_err-write_both-2.ensures.failure (Some c.args.origin.name.now))

pub loop-state-preserved : goal.loop-state-preserved
loop-state-preserved g c =
    let steps = c.in_ok-push_bytes.ensures.steps in
    let going = goes_counted _ _ _ c.args.rule.now (origin_of c.args.origin) (restarted c.args.state.now) c.loop-state.state c.args.input.now c.loop-state.input c.args.out.now c.loop-state.out c.args.err.now c.loop-state.err c.loop-state.line.items c.loop-state.invariant.0 in (
      goes_more _ _ _ c.args.rule.now (origin_of c.args.origin) (restarted c.args.state.now) (counted c.loop-state.state) c.args.input.now c.loop-state.input c.args.out.now c.loop-state.out c.args.err.now c.loop-state.err c.loop-state.line.items
          going c.read.new.self c.write_both-in-loop-state.new.out c.write_both-in-loop-state.new.err c.push_bytes.new.self _ steps.0 c.push_bytes.new.line.items c.clear-in-loop-state.new.self c.in-Ok.ensures.bytes.0 steps.1 steps.2
          (rw c.as_slice-in-loop-state.ensures.value at c.in_ok-write_both-2.ensures.whole.0) (rw c.as_slice-in-loop-state-2.ensures.value at c.in_ok-write_both-2.ensures.whole.1)
          c.clear-in-loop-state.ensures.counts.1 c.clear-in-loop-state.ensures.counts.2 c.clear-in-loop-state.ensures.kept c.clear-in-loop-state.ensures.nothing.0 c.clear-in-loop-state.ensures.nothing.1,
      omega (arith, c.clear-in-loop-state.ensures.counts.0, c.clear-in-loop-state.ensures.counts.1, steps.2.read_count, c.in_ok-push_bytes.ensures.count.0, c.loop-state.invariant.1, c.in-Ok.ensures.bound),
      omega (arith, c.clear-in-loop-state.ensures.counts.0, c.clear-in-loop-state.ensures.counts.2, steps.2.read_count, c.in_ok-push_bytes.ensures.count.1, c.loop-state.invariant.2, c.in-Ok.ensures.bound),
    )
