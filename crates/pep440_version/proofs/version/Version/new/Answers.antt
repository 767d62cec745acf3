use Rattle.std.proofs.Common.{◌≡◌, IfOk, IsOk, subst, true}
use Rattle.pep440_version.specs.Record.{Record}
use Rattle.pep440_version.specs.Word.{is_packed}
use Rattle.pep440_version.proofs.version.Version.new.Goals as goal

pub returns-clause-value : goal.returns-clause-value
returns-clause-value c = subst (λ (r : Record). IfOk c.from_unpacked.result (λ v. v ≡ r)) c.in_ok-new.ensures.value c.from_unpacked.ensures.value

pub returns-clause-memory : goal.returns-clause-memory
returns-clause-memory c = subst (λ (r : Record). is_packed r ≡ true → IsOk c.from_unpacked.result) c.in_ok-new.ensures.value c.from_unpacked.ensures.memory
