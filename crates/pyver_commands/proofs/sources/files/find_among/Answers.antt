use Rattle.std.proofs.Common.{None, string_bytes, subst}
use Rattle.pyver_commands.proofs.InputOutput.{output_here, output_next, output_none}
use Rattle.pyver_commands.specs.Sources.{IsKnownOutput}
use Rattle.pyver_commands.proofs.sources.files.find_among.Goals as goal

pub loop-name-init : goal.loop-name-init
loop-name-init g c = λ found h. h

pub loop-name-preserved : goal.loop-name-preserved
loop-name-preserved g c = λ found h.
    c.loop-name.invariant found
    (output_next string_bytes (g.F.Files.output c.args.files.now) c.args.names.now c.loop-name.name-index c.name-item.result found c.loop-name-test.true c.name-item.is
    (subst (IsKnownOutput (g.F.Files.output c.args.files.now (string_bytes c.name-item.result))) c.if-is_output.false (rw c.as_str.ensures.value at c.is_output.ensures)) h)

pub returns-then-is_output : goal.returns-then-is_output
returns-then-is_output g c =
    let outputs = g.F.Files.output c.args.files.now in
    c.loop-name.invariant _
    (rw c.as_str-then-is_output.ensures.value (output_here string_bytes outputs c.args.names.now c.loop-name.name-index c.name-item.result c.loop-name-test.true c.name-item.is
    (subst (IsKnownOutput (outputs (string_bytes c.name-item.result))) c.if-is_output.true (rw c.as_str.ensures.value at c.is_output.ensures))))

pub returns : goal.returns
returns g c = c.loop-name.invariant None (output_none string_bytes (g.F.Files.output c.args.files.now) c.args.names.now c.loop-name.name-index c.loop-name-test.false)
