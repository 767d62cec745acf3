use Rattle.std.proofs.Common.{subst}
use Rattle.pep440_compiled.proofs.Listed.{form_denotes, one_denoted_list, one_form}
use Rattle.pep440_compiled.proofs.laws.lists_are_exact.Goals as goal
use Rattle.pep440_compiled.specs.Lists.{IsListForm}

pub returns-clause-one : goal.returns-clause-one
returns-clause-one c = one_denoted_list

pub returns-clause-same : goal.returns-clause-same
returns-clause-same c a b l m d e =
    (λ same. one_denoted_list b l m (form_denotes b l (subst (λ x. IsListForm x l) same d)) (form_denotes b m e), λ same. one_form a b m (subst (IsListForm a) same d) e)

pub returns-clause-denoted : goal.returns-clause-denoted
returns-clause-denoted c = form_denotes
