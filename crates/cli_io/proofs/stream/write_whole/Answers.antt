use Rattle.std.proofs.Common.{◌+◌, ◌≤◌, length, drop, arith, length-drop}
use Rattle.std.proofs.KnownBytes.{Appends-kept}
use Rattle.cli_io.proofs.Bytes.{WroteBeginning-take, Appends-more, rest_is}
use Rattle.cli_io.proofs.stream.write_whole.Goals as goal

pub returns-in-0-clause-beginning : goal.returns-in-0-clause-beginning
returns-in-0-clause-beginning g c =
    WroteBeginning-take _ _ (c.loop-at.at + c.in_ok-count.count) _ (Appends-more _ _ _ _ c.loop-at.at c.in_ok-count.count c.loop-at.invariant.1 c.in_ok-count.ensures.bytes)

pub loop-at-preserved : goal.loop-at-preserved
loop-at-preserved g c = (
  let short : c.in_ok-count.count ≤ length (drop c.loop-at.at c.args.bytes.now) = rw rest_is at c.in_ok-count.ensures.bound in omega (arith, length-drop c.loop-at.at c.args.bytes.now),
  Appends-more _ _ _ _ c.loop-at.at c.in_ok-count.count c.loop-at.invariant.1 c.in_ok-count.ensures.bytes,
)

pub returns-in_err-count-clause-beginning : goal.returns-in_err-count-clause-beginning
returns-in_err-count-clause-beginning g c =
    WroteBeginning-take _ _ c.loop-at.at _ (Appends-kept _ _ _ _ c.loop-at.invariant.1 c.in_err-count.ensures.bytes)

pub returns-in_err-flush-clause-beginning : goal.returns-in_err-flush-clause-beginning
returns-in_err-flush-clause-beginning g c =
    WroteBeginning-take _ _ c.loop-at.at _ (Appends-kept _ _ _ _ c.loop-at.invariant.1 c.flush.ensures.bytes)

pub returns-clause-beginning : goal.returns-clause-beginning
returns-clause-beginning g c =
    WroteBeginning-take _ _ c.loop-at.at _ (Appends-kept _ _ _ _ c.loop-at.invariant.1 c.flush.ensures.bytes)
