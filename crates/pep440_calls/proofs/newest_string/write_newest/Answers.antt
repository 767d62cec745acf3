use Rattle.std.proofs.Common.{inl, refl}
use Rattle.pep440_calls.proofs.newest_string.write_newest.Goals as goal

pub returns-in-Ok-Some : goal.returns-in-Ok-Some
returns-in-Ok-Some c = inl (rw c.in-Ok-Some.field-0-is at c.in-Ok-Some.ensures, refl)
