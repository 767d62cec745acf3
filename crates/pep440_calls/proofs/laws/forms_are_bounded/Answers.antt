use Rattle.pep440_calls.proofs.Forms.{compiled_bound, key_bound, print_bound}
use Rattle.pep440_calls.proofs.laws.forms_are_bounded.Goals as goal

pub returns-clause-normal : goal.returns-clause-normal
returns-clause-normal c bytes r means = print_bound bytes r means.1

pub returns-clause-key : goal.returns-clause-key
returns-clause-key c bytes r means = key_bound bytes r means.1

pub returns-clause-compiled : goal.returns-clause-compiled
returns-clause-compiled c bytes r means = compiled_bound bytes r means.1
