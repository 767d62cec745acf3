use Rattle.std.proofs.Common.{◌∙◌, ap}
use Rattle.std.specs.Prelude.{Ok}
use Rattle.pep440_compiled.proofs.ByteOrder.{shared_cmp, versions_in_order}
use Rattle.pep440_compiled.proofs.version.compare.Goals as goal

pub returns-clause-found : goal.returns-clause-found
returns-clause-found c r q d e =
    ap Ok (c.cmp_common.ensures ∙ (λ i. shared_cmp (d.same i) (e.same i)) ∙ versions_in_order r q d.parsed e.parsed)
