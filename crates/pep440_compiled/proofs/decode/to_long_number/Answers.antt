use Rattle.std.proofs.Common.{◌∙◌, ◌-◌, ◌++◌, Some, ap, arith, drop, length, replicate, take, w64}
use Rattle.std.specs.Int.{from_be_bytes}
use Rattle.pep440_compiled.proofs.Rewritten.{number_again, number_of}
use Rattle.pep440_compiled.proofs.decode.to_long_number.Goals as goal
use Rattle.pep440_keys.proofs.Bytes.{needed_le}

pub returns-in_err-start-clause-found : goal.returns-in_err-start-clause-found
returns-in_err-start-clause-found c n f e = absurd (rw c.in_err-start.was at c.checked_sub.ensures (omega (arith, needed_le n, ap length e)))

pub returns-clause-found : goal.returns-clause-found
returns-clause-found c n f e =
    let start = c.in_ok-start.ensures in
    ap Some (c.from_be_bytes.ensures
    ∙ ap (λ l. from_be_bytes w64 (take c.in_ok-start.start (replicate 8 0) ++ (l ++ drop (8 - c.in_ok-start.start) (drop c.in_ok-start.start (replicate 8 0))))) c.copy_from_slice.ensures.after
    ∙ number_of n c.in_ok-start.start c.args.bytes.now f e start.0 start.1)

pub returns-clause-exact : goal.returns-clause-exact
returns-clause-exact c other =
    let start = c.in_ok-start.ensures in
    number_again _ c.in_ok-start.start c.args.bytes.now (λ i. omega (arith, c.type_inv.bytes i)) other start.0 start.1
    (c.from_be_bytes.ensures
    ∙ ap (λ l. from_be_bytes w64 (take c.in_ok-start.start (replicate 8 0) ++ (l ++ drop (8 - c.in_ok-start.start) (drop c.in_ok-start.start (replicate 8 0))))) c.copy_from_slice.ensures.after)
