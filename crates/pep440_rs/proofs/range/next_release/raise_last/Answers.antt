use Rattle.std.proofs.Common.{◌∙◌, sym, ap, Some}
use Rattle.pep440_rs.proofs.Raising.LastRaised.{raised_some, raised_none}
use Rattle.pep440_rs.proofs.range.next_release.raise_last.Goals as goal

pub returns-in_err-next-clause-refused : goal.returns-in_err-next-clause-refused
returns-in_err-next-clause-refused c = λ _. raised_none c.args.release.now c.requires c.in_err-next.ensures.1

pub returns-clause-value : goal.returns-clause-value
returns-clause-value c =
    raised_some c.args.release.now c.in_ok-numbers.numbers.items c.in_ok-next.next c.requires c.in_ok-next.ensures c.in_ok-numbers.ensures.items
    ∙ ap Some (sym c.in_ok-push.ensures.items)
