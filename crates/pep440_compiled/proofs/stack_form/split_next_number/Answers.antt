use Rattle.std.proofs.Common.{◌≡◌, ◌∙◌, ◌∷◌, ◌-◌, ap, arith, drop, length, rules, sym, take}
use Rattle.pep440_compiled.proofs.stack_form.split_next_number.Goals as goal
use Rattle.pep440_version.proofs.Reading.NormalParts.{by_first}

pub returns-in-46-clause-found : goal.returns-in-46-clause-found
returns-in-46-clause-found c = λ digits rest n is stop e.
    let text = c.args.text.now in
    let dot : text ≡ 46 ∷ take (length text - 1) (drop 1 text) = by_first 46 text (omega (arith, c.in-46.len_at_least)) (search rules) in
    c.split_number.ensures.found digits rest n is stop (ap (drop 1) (sym dot ∙ e))
