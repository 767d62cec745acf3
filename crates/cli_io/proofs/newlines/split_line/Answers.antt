use Rattle.std.proofs.Common.{◌≡◌, ◌==◌, false, take_all}
use Rattle.std.proofs.lemmas.Bool.{ne_eqb}
use Rattle.std.proofs.lemmas.List.{take_rest}
use Rattle.std.proofs.lemmas.List.Elements.{All-more}
use Rattle.std.proofs.lemmas.List.Splits.{slice_split_none}
use Rattle.cli_io.proofs.Bytes.{line_read}
use Rattle.cli_io.proofs.newlines.split_line.Goals as goal

pub returns-then-byte-eq10-clause-lines : goal.returns-then-byte-eq10-clause-lines
returns-then-byte-eq10-clause-lines c = rw take_rest (line_read c.args.input.now c.loop-at.at c.loop-at-test.true c.if-byte-eq10.true c.loop-at.invariant)

pub loop-at-preserved : goal.loop-at-preserved
loop-at-preserved c = All-more (λ b. (b == 10) ≡ false) c.args.input.now c.loop-at.at 0 c.loop-at-test.true c.loop-at.invariant (ne_eqb _ 10 c.if-byte-eq10.false)

pub returns-clause-lines : goal.returns-clause-lines
returns-clause-lines c = slice_split_none (λ b. b == 10) _ (rw (take_all _ _ c.loop-at-test.false) at c.loop-at.invariant)
