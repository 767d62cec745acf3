use Rattle.std.proofs.Common.{inr, refl}
use Rattle.pep440_calls.proofs.edits.write_edited.Goals as goal

pub returns-in-Err : goal.returns-in-Err
returns-in-Err c = inr (refl, refl, c.in-Err.error, c.in-Err.ensures, c.status.ensures)
