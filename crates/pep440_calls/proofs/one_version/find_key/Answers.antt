use Rattle.std.proofs.Common.{inr}
use Rattle.pep440_calls.proofs.Forms.{no_compiled}
use Rattle.pep440_calls.proofs.one_version.find_key.Goals as goal

pub returns-in-Ok-clause-found : goal.returns-in-Ok-clause-found
returns-in-Ok-clause-found c =
    let found = c.in-Ok.ensures.ok in
    (found.0, inr found.1, found.2)

pub returns-in-Err-clause-found : goal.returns-in-Err-clause-found
returns-in-Err-clause-found c = no_compiled c.args.bytes.now c.requires c.in-Err.ensures.err
