use Rattle.std.proofs.Common.{◌∙◌, ap, sym}
use Rattle.std.specs.Ordering.{ordering_then}
use Rattle.pep440_version.specs.Key.{local_cmp}
use Rattle.pep440_version.proofs.Ordering.Comparisons.{with_local}
use Rattle.pep440_version.proofs.order.cmp_parts.Goals as goal

pub returns-in-Equal : goal.returns-in-Equal
returns-in-Equal c =
    rw (c.local.ensures, c.local-in-Equal.ensures) at c.cmp_locals.ensures
    ∙ ap (λ o. ordering_then o (local_cmp c.args.a.now.local c.args.b.now.local)) (sym c.in-Equal.is ∙ c.cmp_parts_without_local.ensures)
    ∙ with_local c.args.a.now c.args.b.now
