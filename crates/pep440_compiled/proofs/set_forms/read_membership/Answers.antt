use Rattle.std.proofs.Common.{◌∙◌, ap, sym}
use Rattle.std.specs.Prelude.{unwrap_or}
use Rattle.pep440_compiled.proofs.set_forms.read_membership.Goals as goal

pub returns-in-Some-holds_version-clause-ok : goal.returns-in-Some-holds_version-clause-ok
returns-in-Some-holds_version-clause-ok c =
    let d = c.in-Some.ensures.exact in
    (d.0, d.1, d.3, λ s h. ap (λ o. unwrap_or o c.in-Some-holds_version.held) (sym c.in-Some-holds_version.is ∙ c.holds_version.ensures s d.0 h d.1.parsed d.2))

pub returns-in-None-clause-list : goal.returns-in-None-clause-list
returns-in-None-clause-list c _ s h =
    let d = c.in-Some.ensures.exact in
    cc (c.in-None.is, c.holds_version.ensures s d.0 h d.1.parsed d.2)
