use Rattle.std.proofs.Common.{◌≡◌, ◌∙◌, sym, subst, arith}
use Rattle.std.proofs.lemmas.Result.{IfOk-weaker}
use Rattle.std.specs.declared.cmp.Ordering.TheVariants.{Equal}
use Rattle.pep440_version.specs.Feed.{feed}
use Rattle.pep440_version.specs.Form.{unpacked_record}
use Rattle.pep440_version.specs.Key.{record_cmp}
use Rattle.pep440_version.specs.Record.{IsRecord, Record}
use Rattle.pep440_version.proofs.Meaning.NumbersFit.{fits_release}
use Rattle.pep440_version.proofs.Ordering.Comparisons.{zeros_tie}
use Rattle.pep440_version.proofs.version.Version.with_release.Goals as goal

pub returns-clause-zeros : goal.returns-clause-zeros
returns-clause-zeros c = λ same.
    let value : unpacked_record (record c.into_unpacked-unpacked.result { release = c.in_ok-numbers.numbers }) ≡ record c.args.self { release = c.args.release.now } =
    λ i. record (c.into_unpacked-unpacked.ensures.value i) { release = c.in_ok-numbers.ensures.value i } in
    IfOk-weaker c.from_unpacked.result (λ v. v ≡ unpacked_record (record c.into_unpacked-unpacked.result { release = c.in_ok-numbers.numbers })) (λ v. (record_cmp v c.args.self ≡ Equal) × (feed v ≡ feed c.args.self))
    (λ (v : Record) is. subst (λ w. (record_cmp w c.args.self ≡ Equal) × (feed w ≡ feed c.args.self)) (sym (is ∙ value)) (zeros_tie c.args.self c.args.release.now same))
    c.from_unpacked.ensures.value

pub from_unpacked-requires : goal.from_unpacked-requires
from_unpacked-requires c =
    let valid : IsRecord (unpacked_record c.into_unpacked-unpacked.result) = subst IsRecord (sym c.into_unpacked-unpacked.ensures.value) c.into_unpacked-unpacked.ensures.valid in
    subst (λ xs. IsRecord (record (unpacked_record c.into_unpacked-unpacked.result) { release = xs })) (sym c.in_ok-numbers.ensures.value) (fits_release (unpacked_record c.into_unpacked-unpacked.result) c.args.release.now valid c.requires (λ i. omega (arith, c.type_inv.release i)))
