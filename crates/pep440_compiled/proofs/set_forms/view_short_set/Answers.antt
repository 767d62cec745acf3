use Rattle.std.proofs.Common.{◌≡◌, ◌∙◌, ◌∷◌, ap, arith, drop, sym}
use Rattle.pep440_compiled.proofs.SetMerging.{keys_before}
use Rattle.pep440_compiled.proofs.set_forms.view_short_set.Goals as goal
use Rattle.pep440_compiled.specs.Lists.{members_bytes}
use Rattle.pep440_compiled.specs.SetBytes.{set_bytes}
use Rattle.pep440_sets.specs.Sets.{list_set}

pub returns-clause-found : goal.returns-clause-found
returns-clause-found c s h =
    let rest = c.in_ok-format.rest.now in
    let six : c.in_ok-format.format.now ≡ 6 = omega arith in
    let is = c.in_ok-format.ensures.cases.0 ∙ ap (λ b. b ∷ rest) six in
    keys_before c.args.list.now rest c.in_ok-keys.keys.now s is (λ l d. (c.in_ok-keys.ensures.found (set_bytes (list_set l)) (members_bytes l) d.size (ap (drop 1) (sym is ∙ d.same))).0) h
