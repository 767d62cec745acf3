use Rattle.std.proofs.Common.{arith, rules, ◌≡◌, ◌∷◌, ◌++◌, ◌-◌, ◌∙◌, ap, sym, refl, inr, length, take, drop, codes}
use Rattle.std.proofs.lemmas.List.{append_assoc}
use Rattle.pep440_version.proofs.Reading.NormalParts.{by_first}
use Rattle.pep440_version.proofs.parse.normal_parts.parse_normal_epoch.Goals as goal

pub returns-in-33 : goal.returns-in-33
returns-in-33 c =
    let n = c.in-Some.ensures.number in
    let after = c.in-Some.after.now in
    let rest = take (length after - 1) (drop 1 after) in
    let mark : after ≡ 33 ∷ rest = by_first 33 after (omega arith) (search rules) in
    (n.0 ++ codes "!", inr (n.0, n.1, refl), n.3 ∙ ap (λ t. n.0 ++ t) mark ∙ sym (append_assoc n.0 (codes "!") rest))
