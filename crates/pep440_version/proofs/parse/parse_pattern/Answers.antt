use Rattle.std.proofs.Common.{◌∙◌, ap, sym, false, Bool, Ok}
use Rattle.pep440_version.specs.Record.{Record}
use Rattle.pep440_version.specs.Word.{is_packed}
use Rattle.pep440_version.proofs.Reading.Agreement.{only_pattern, sure}
use Rattle.pep440_version.proofs.Reading.ReadIsDerived.{inside}
use Rattle.pep440_version.proofs.parse.parse_pattern.Goals as goal

pub returns-in_ok-build_from_parts-in-Some-clause-reads : goal.returns-in_ok-build_from_parts-in-Some-clause-reads
returns-in_ok-build_from_parts-in-Some-clause-reads c =
    only_pattern c.args.text.now _ false c.in-Some.ensures ∙ ap (λ (r : Record). Ok (r, false)) (inside _ _ c.in_ok-build_from_parts-in-Some.ensures.reads)

pub returns-in_err-build_from_parts-in-Some-clause-memory : goal.returns-in_err-build_from_parts-in-Some-clause-memory
returns-in_err-build_from_parts-in-Some-clause-memory c = λ x e fits.
    let same = sure _ _ (sym (only_pattern c.args.text.now _ false c.in-Some.ensures) ∙ e) in
    cc (c.in_err-build_from_parts-in-Some.ensures.memory (ap (λ (p : Record × Bool). is_packed p.0) same ∙ fits))
