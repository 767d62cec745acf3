use Rattle.std.proofs.Common.{◌∙◌, ap, sym}
use Rattle.pep440_version.proofs.Reading.Agreement.{only}
use Rattle.pep440_version.proofs.Reading.ReadIsDerived.{inside}
use Rattle.pep440_version.specs.Word.{is_packed}
use Rattle.pep440_version.proofs.version.Version.parse_unpacked.Goals as goal

pub returns-in_ok-build_from_parts-in-Some-clause-reads : goal.returns-in_ok-build_from_parts-in-Some-clause-reads
returns-in_ok-build_from_parts-in-Some-clause-reads c = only c.args.text.now _ c.in-Some.ensures ∙ c.in_ok-build_from_parts-in-Some.ensures.reads

pub returns-in_err-build_from_parts-in-Some-clause-memory : goal.returns-in_err-build_from_parts-in-Some-clause-memory
returns-in_err-build_from_parts-in-Some-clause-memory c = λ r e fits.
    let same = inside _ _ (sym (only c.args.text.now _ c.in-Some.ensures) ∙ e) in
    cc (c.in_err-build_from_parts-in-Some.ensures.memory (ap is_packed same ∙ fits))
