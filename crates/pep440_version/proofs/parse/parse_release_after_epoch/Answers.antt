use Rattle.std.proofs.Common.{◌≤◌, sym, subst, length}
use Rattle.pep440_version.proofs.Reading.WithoutMemory.{release_too}
use Rattle.pep440_version.proofs.parse.parse_release_after_epoch.Goals as goal

pub returns-in_err-numbers-clause-memory : goal.returns-in_err-numbers-clause-memory
returns-in_err-numbers-clause-memory c = λ x e few.
    let y = release_too c.args.epoch c.args.first c.args.text.now x e in
    cc (c.in_err-numbers.ensures.memory y.0 y.1 (subst (λ l. length l ≤ 4) (sym y.2) few))
