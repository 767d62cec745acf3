use Rattle.std.proofs.Common.{◌*◌, ◌/◌, ◌%◌, arith}
use Rattle.pep440_compiled.proofs.Rewritten.{coded_again, ranked_parts}
use Rattle.pep440_compiled.proofs.decode.read_ranked_number.Goals as goal

pub returns-in_err-number-clause-found : goal.returns-in_err-number-clause-found
returns-in_err-number-clause-found c rank n rest below f e =
    let parts = ranked_parts c.args.bytes.now c.in_ok-first.rest.now rest c.in_ok-first.first.now rank n c.in_ok-first.ensures.cases.0 e in
    absurd (c.in_err-number.ensures.found n rest f parts.0 parts.2)

pub returns-clause-found : goal.returns-clause-found
returns-clause-found c rank n rest below f e =
    let parts = ranked_parts c.args.bytes.now c.in_ok-first.rest.now rest c.in_ok-first.first.now rank n c.in_ok-first.ensures.cases.0 e in
    let found = c.in_ok-number.ensures.found n rest f parts.0 parts.2 in
    (parts.1, found.0, found.1)

pub returns-clause-exact : goal.returns-clause-exact
returns-clause-exact c =
    let first = c.in_ok-first.first.now in
    coded_again (16 * (first / 16)) c.args.bytes.now c.in_ok-first.rest.now c.in_ok-number.rest.now first (first % 16) c.in_ok-number.number c.in_ok-first.ensures.cases.0 (omega arith) c.in_ok-number.ensures.exact.0 c.in_ok-number.ensures.exact.1
