use Rattle.std.proofs.Common.{[], ◌∷◌, arith, inr, refl, rules}
use Rattle.pep440_compiled.proofs.stack_form.skip_separator.Goals as goal
use Rattle.pep440_version.proofs.Reading.NormalParts.{by_first}

pub returns-in-46 : goal.returns-in-46
returns-in-46 c = (46 ∷ [], inr (46, refl, refl), by_first 46 c.args.text.now (omega (arith, c.in-46.len_at_least)) (search rules))

pub returns-in-45 : goal.returns-in-45
returns-in-45 c = (45 ∷ [], inr (45, refl, refl), by_first 45 c.args.text.now (omega (arith, c.in-45.len_at_least)) (search rules))

pub returns-in-95 : goal.returns-in-95
returns-in-95 c = (95 ∷ [], inr (95, refl, refl), by_first 95 c.args.text.now (omega (arith, c.in-95.len_at_least)) (search rules))
