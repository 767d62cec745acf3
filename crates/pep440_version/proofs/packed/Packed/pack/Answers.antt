use Rattle.std.proofs.Common.{◌≡◌, ◌∙◌, ap, arith, length}
use Rattle.pep440_version.specs.Form.{unpacked_record}
use Rattle.pep440_version.specs.Record.{Record}
use Rattle.pep440_version.specs.Word.{word_of}
use Rattle.pep440_version.proofs.Words.Replaced.{given, shown}
use Rattle.pep440_version.proofs.packed.Packed.pack.Goals as goal

pub returns-clause-some : goal.returns-clause-some
returns-clause-some c =
    let r : Record = unpacked_record c.args.unpacked.now in
    let numbers : c.as_slice-release.result.now ≡ r.release = c.as_slice-release.ensures in
    let sum : c.pack_word.result ≡ word_of c.as_slice-release.result.now (c.in_ok-class.class, c.in_ok-class.number) = omega arith in
    shown _ _ _ _ _ r (c.pad_with_zeros-numbers.ensures.prefix ∙ numbers) (ap length numbers) (given r c.in_ok-class.class c.in_ok-class.number c.in_ok-class.ensures)
    (sum ∙ ap (λ xs. word_of xs (c.in_ok-class.class, c.in_ok-class.number)) numbers)
