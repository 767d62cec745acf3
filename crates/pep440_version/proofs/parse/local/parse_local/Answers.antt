use Rattle.std.proofs.Common.{◌∙◌, sym}
use Rattle.pep440_version.proofs.Reading.WithoutMemory.{plus_gives}
use Rattle.pep440_version.proofs.parse.local.parse_local.Goals as goal

pub returns-then-starts_with-clause-memory : goal.returns-then-starts_with-clause-memory
returns-then-starts_with-clause-memory c = λ x e none. absurd (plus_gives c.args.text.now x (sym c.starts_with.ensures ∙ c.if-starts_with.true) e none)
