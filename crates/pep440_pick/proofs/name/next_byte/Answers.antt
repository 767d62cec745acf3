use Rattle.std.proofs.Common.{◌≡◌, ◌∙◌, ◌∷◌, true, rules, ap, sym, drop}
use Rattle.std.proofs.lemmas.List.{take_rest}
use Rattle.pep440_version.specs.Grammar.{is_separator}
use Rattle.pep440_pick.specs.Names.{normal}
use Rattle.pep440_pick.proofs.Normal.{run_is_one}
use Rattle.pep440_pick.proofs.name.next_byte.Goals as goal

pub returns-then-is_separator-clause-value : goal.returns-then-is_separator-clause-value
returns-then-is_separator-clause-value c =
    let parts : c.args.text.now ≡ c.in_ok-first.first.now ∷ c.in_ok-first.rest.now = search rules in
    let is : is_separator c.in_ok-first.first.now ≡ true = sym c.is_separator.ensures ∙ c.if-is_separator.true in
    ap normal parts ∙ run_is_one c.in_ok-first.first.now c.in_ok-first.rest.now is
    ∙ ap (λ n. 45 ∷ normal (drop n c.in_ok-first.rest.now)) (sym c.count_separators.ensures.count)
    ∙ ap (λ t. 45 ∷ normal t) (sym (take_rest c.in_ok-first.rest.now c.count_separators.result))
