use Rattle.std.proofs.Common.{◌≡◌, ℕ, List, sym, Some, drop, option_map}
use Rattle.std.proofs.lemmas.Result.{err_from_is_err_and}
use Rattle.pep440_version.specs.Errors.{rejection_of}
use Rattle.pep440_version.specs.Grammar.{dev_spellings}
use Rattle.pep440_version.specs.Suffixes.{spelled, skip_separator, parse_count, parse_dev}
use Rattle.pep440_version.proofs.Reading.Digits.{fault_on}
use Rattle.pep440_version.proofs.Reading.WithoutMemory.{read_too}
use Rattle.pep440_version.proofs.Reading.AfterRelease.{number_err}
use Rattle.pep440_version.proofs.parse.suffix.parse_dev.Goals as goal

pub returns-in_err-number-in-Some-clause-reads : goal.returns-in_err-number-in-Some-clause-reads
returns-in_err-number-in-Some-clause-reads c =
    let p = err_from_is_err_and c.from_residual.result c.from_residual.ensures.1 in
    let text = c.args.text.now in
    let h : option_map {U = Unit {0} × List ℕ} (λ x. (x.0, drop x.1 (skip_separator text))) (spelled dev_spellings (skip_separator text)) ≡ Some (c.in-Some.field-0-0, c.in-Some.after.now) = rw (sym c.skip_separator.ensures) (sym c.in-Some.ensures) in
    rw (p.1, p.2) (fault_on (rejection_of c.in_err-number-in-Some.field-0.0) (parse_count (skip_separator c.in-Some.after.now)) (parse_dev text)
    (λ f e. number_err dev_spellings text c.in-Some.after.now c.in-Some.field-0-0 f h e) c.in_err-number-in-Some.ensures.reads)

pub returns-in_err-number-in-Some-clause-memory : goal.returns-in_err-number-in-Some-clause-memory
returns-in_err-number-in-Some-clause-memory c = λ x e.
    let text = c.args.text.now in
    let h : option_map {U = Unit {0} × List ℕ} (λ x. (x.0, drop x.1 (skip_separator text))) (spelled dev_spellings (skip_separator text)) ≡ Some (c.in-Some.field-0-0, c.in-Some.after.now) = rw (sym c.skip_separator.ensures) (sym c.in-Some.ensures) in
    let y = read_too (parse_count (skip_separator c.in-Some.after.now)) (parse_dev text) (λ f g. number_err dev_spellings text c.in-Some.after.now c.in-Some.field-0-0 f h g) x e in
    cc (c.in_err-number-in-Some.ensures.memory y.0 y.1)
