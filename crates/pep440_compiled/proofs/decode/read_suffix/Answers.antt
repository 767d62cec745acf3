use Rattle.std.proofs.Common.{◌∙◌, ◌-◌, arith, length, rules, take}
use Rattle.std.specs.Prelude.{drop}
use Rattle.pep440_compiled.proofs.Suffixes.{by_three, final_again, final_is, in_turn}
use Rattle.pep440_compiled.proofs.decode.read_suffix.Goals as goal

pub returns-in-80-clause-found : goal.returns-in-80-clause-found
returns-in-80-clause-found c r rest p e =
    let bytes = c.args.bytes.now in
    let front = by_three bytes (omega (arith, c.in-80.len_at_least)) (search rules) (search rules) (search rules) in
    final_is r bytes (take (length bytes - 3) (drop 3 bytes)) rest p front (e ∙ in_turn r rest)

pub returns-in-80-clause-exact : goal.returns-in-80-clause-exact
returns-in-80-clause-exact c =
    let bytes = c.args.bytes.now in
    final_again bytes (take (length bytes - 3) (drop 3 bytes)) (by_three bytes (omega (arith, c.in-80.len_at_least)) (search rules) (search rules) (search rules))
