use Rattle.std.proofs.Common.{◌≡◌, IfOk, IsOk, rules, subst, sym, true}
use Rattle.pep440_version.specs.Form.{unpacked_record}
use Rattle.pep440_version.specs.Record.{IsRecord, Record}
use Rattle.pep440_version.specs.Word.{is_packed}
use Rattle.pep440_version.proofs.version.Version.with_min.Goals as goal

pub returns-clause-value : goal.returns-clause-value
returns-clause-value c = subst (λ (r : Record). IfOk c.from_unpacked.result (λ v. v ≡ record r { min = c.args.min })) c.into_unpacked-unpacked.ensures.value c.from_unpacked.ensures.value

pub returns-clause-memory : goal.returns-clause-memory
returns-clause-memory c = subst (λ (r : Record). is_packed (record r { min = c.args.min }) ≡ true → IsOk c.from_unpacked.result) c.into_unpacked-unpacked.ensures.value c.from_unpacked.ensures.memory

pub from_unpacked-requires : goal.from_unpacked-requires
from_unpacked-requires c =
    let valid : IsRecord (unpacked_record c.into_unpacked-unpacked.result) = subst IsRecord (sym c.into_unpacked-unpacked.ensures.value) c.into_unpacked-unpacked.ensures.valid in
    record { epoch = valid.epoch; some = valid.some; release = valid.release; pre = valid.pre; post = valid.post; dev = valid.dev; local = valid.local; min = search rules; max = valid.max }
