use Rattle.std.proofs.Common.{◌∙◌, ap, length, sym}
use Rattle.pep440_compiled.proofs.Comparing.{decided_by_order, decided_by_tie, same_keys}
use Rattle.pep440_compiled.proofs.Fronts.{eq_true}
use Rattle.pep440_compiled.proofs.Loops.{behind}
use Rattle.pep440_compiled.proofs.list_members.skip_key.Goals as goal
use Rattle.pep440_keys.specs.SortKeys.{key_bytes}

pub returns-then-is_eq-clause-found : goal.returns-then-is_eq-clause-found
returns-then-is_eq-clause-found c s v rest p k o e =
    let tie = eq_true c.args.order (sym c.is_eq.ensures ∙ c.if-is_eq.true) in
    let same = k.key ∙ same_keys s v p k.parsed (sym o ∙ tie) in
    (behind (length c.args.version.now.key.now) c.args.member.now c.in_ok-rest.field-0-0.now c.in_ok-rest.rest.now (key_bytes s) rest (ap length same) e c.in_ok-rest.ensures.cases.2, decided_by_tie s v c.args.version.now c.args.order p k o tie)

pub returns-clause-found : goal.returns-clause-found
returns-clause-found c s v rest p k o e =
    ((c.in_ok-rest-2.ensures.found s rest p e).2, decided_by_order s v c.args.version.now c.args.order k o c.if-not-version.false)
