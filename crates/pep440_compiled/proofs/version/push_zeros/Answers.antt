use Rattle.std.proofs.Common.{◌≡◌, ◌∙◌, ◌++◌, ap, length, arith}
use Rattle.pep440_compiled.proofs.Checking.{one_written, trim_le, zeros_written}
use Rattle.pep440_compiled.proofs.version.push_zeros.Goals as goal

pub loop-preserved : goal.loop-preserved
loop-preserved c =
    let kept = length c.trim_trailing_zeros-kept.result.now in
    one_written c.args.bytes.now.items c.loop.bytes.items c.push.new.self.items c.loop.counter kept (omega (arith, c.loop.auto.counter)) c.loop.invariant c.in_ok-push.ensures.items

pub returns : goal.returns
returns c =
    let kept = c.trim_trailing_zeros-kept in
    let ended : c.loop.counter ≡ length c.args.release.now =
    omega (arith, c.loop-test.false, c.loop.auto.counter, c.loop.auto.counter-end, trim_le c.args.release.now kept.result.now kept.ensures) in
    c.loop.invariant ∙ ap (λ l. c.args.bytes.now.items ++ l) (zeros_written c.args.release.now kept.result.now c.loop.counter kept.ensures ended)
