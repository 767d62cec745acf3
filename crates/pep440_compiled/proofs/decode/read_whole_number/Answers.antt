use Rattle.std.proofs.Common.{arith}
use Rattle.pep440_compiled.proofs.Rewritten.{coded_again, epoch_parts}
use Rattle.pep440_compiled.proofs.decode.read_whole_number.Goals as goal

pub returns-in_err-number-clause-found : goal.returns-in_err-number-clause-found
returns-in_err-number-clause-found c n rest f e =
    let parts = epoch_parts c.args.bytes.now c.in_ok-first.rest.now rest c.in_ok-first.first.now n c.in_ok-first.ensures.cases.0 e in
    absurd (c.in_err-number.ensures.found n rest f parts.0 parts.1)

pub returns-clause-found : goal.returns-clause-found
returns-clause-found c n rest f e =
    let parts = epoch_parts c.args.bytes.now c.in_ok-first.rest.now rest c.in_ok-first.first.now n c.in_ok-first.ensures.cases.0 e in
    c.in_ok-number.ensures.found n rest f parts.0 parts.1

pub returns-clause-exact : goal.returns-clause-exact
returns-clause-exact c =
    coded_again 0 c.args.bytes.now c.in_ok-first.rest.now c.in_ok-number.rest.now c.in_ok-first.first.now c.in_ok-first.first.now c.in_ok-number.number c.in_ok-first.ensures.cases.0 (omega arith) c.in_ok-number.ensures.exact.0 c.in_ok-number.ensures.exact.1
