use Rattle.std.proofs.Common.{subst, sym}
use Rattle.cli_io.proofs.Bytes.{WroteBeginning-none}
use Rattle.pyver_commands.specs.Sources.RunFailures.{Reports}
use Rattle.pyver_tool.proofs.RunEnds.{write_failure}
use Rattle.pyver_tool.proofs.program.report_run_failure.Goals as goal

pub returns-in-Errors : goal.returns-in-Errors
returns-in-Errors g c =
    let why = write_failure c.failure_status.result c.failure_status.ensures.either in
    (why.0, subst (λ f. Reports f c.failure_status.result why.0) (sym c.in-Errors.is) why.1, WroteBeginning-none _ why.0)
