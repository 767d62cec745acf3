use Rattle.std.proofs.Common.{inl, rules}
use Rattle.pep440_calls.proofs.messages.write_error.Goals as goal

pub returns-in-Some : goal.returns-in-Some
returns-in-Some c = inl (c.in-Some.kind, c.in-Some.ensures, search rules)
