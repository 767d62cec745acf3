use Rattle.std.proofs.Common.{◌≡◌, ◌∙◌, sym, true, drop}
use Rattle.std.proofs.lemmas.Result.{err_from_is_err_and}
use Rattle.pep440_version.specs.Errors.{rejection_of}
use Rattle.pep440_version.specs.Reading.{parse_number, starts_with_number}
use Rattle.pep440_version.specs.Whole.{parse_epoch_and_release}
use Rattle.pep440_version.proofs.Reading.Digits.{fault_on}
use Rattle.pep440_version.proofs.Reading.AfterRelease.{prefix_plain, prefix_epoch, prefix_err}
use Rattle.pep440_version.proofs.Reading.WithoutMemory.{read_too}
use Rattle.pep440_version.proofs.parse.parse_epoch_and_release.Goals as goal

pub returns-then-not-starts_with-clause-reads : goal.returns-then-not-starts_with-clause-reads
returns-then-not-starts_with-clause-reads c =
    let first = sym c.starts_with_number.ensures ∙ c.if-not-starts_with_number.false in
    let none = sym c.starts_with.ensures ∙ c.if-not-starts_with.true in
    rw (prefix_plain c.args.text.now c.in_ok-number.after.now c.in_ok-number.number first c.in_ok-number.ensures.reads none) c.parse_release_after_epoch.ensures.reads

pub returns-in_err-first-clause-reads : goal.returns-in_err-first-clause-reads
returns-in_err-first-clause-reads c =
    let p = err_from_is_err_and c.from_residual-in_err-first.result c.from_residual-in_err-first.ensures.1 in
    let text = c.args.text.now in
    let first = sym c.starts_with_number.ensures ∙ c.if-not-starts_with_number.false in
    let bang = sym c.starts_with.ensures ∙ c.if-not-starts_with.false in
    let second : starts_with_number (drop 1 c.in_ok-number.after.now) ≡ true = rw (sym c.skip_ascii-rest.ensures) (sym c.starts_with_number-2.ensures ∙ c.if-not-starts_with_number-2.false) in
    rw (p.1, p.2) (fault_on (rejection_of c.in_err-first.field-0.0) (parse_number c.skip_ascii-rest.result.now) (parse_epoch_and_release text)
    (λ f h. prefix_err text c.in_ok-number.after.now c.in_ok-number.number f first c.in_ok-number.ensures.reads bang second (rw (sym c.skip_ascii-rest.ensures) h)) c.in_err-first.ensures.reads)

pub returns-clause-reads : goal.returns-clause-reads
returns-clause-reads c =
    let text = c.args.text.now in
    let first = sym c.starts_with_number.ensures ∙ c.if-not-starts_with_number.false in
    let bang = sym c.starts_with.ensures ∙ c.if-not-starts_with.false in
    let second : starts_with_number (drop 1 c.in_ok-number.after.now) ≡ true = rw (sym c.skip_ascii-rest.ensures) (sym c.starts_with_number-2.ensures ∙ c.if-not-starts_with_number-2.false) in
    let read = rw c.skip_ascii-rest.ensures at c.in_ok-first.ensures.reads in
    rw (prefix_epoch text c.in_ok-number.after.now c.in_ok-first.behind.now c.in_ok-number.number c.in_ok-first.first first c.in_ok-number.ensures.reads bang second read) c.parse_release_after_epoch-2.ensures.reads

pub returns-then-not-starts_with-clause-memory : goal.returns-then-not-starts_with-clause-memory
returns-then-not-starts_with-clause-memory c = λ x e few.
    let first = sym c.starts_with_number.ensures ∙ c.if-not-starts_with_number.false in
    let none = sym c.starts_with.ensures ∙ c.if-not-starts_with.true in
    c.parse_release_after_epoch.ensures.memory x (sym (prefix_plain c.args.text.now c.in_ok-number.after.now c.in_ok-number.number first c.in_ok-number.ensures.reads none) ∙ e) few

pub returns-in_err-first-clause-memory : goal.returns-in_err-first-clause-memory
returns-in_err-first-clause-memory c = λ x e few.
    let text = c.args.text.now in
    let first = sym c.starts_with_number.ensures ∙ c.if-not-starts_with_number.false in
    let bang = sym c.starts_with.ensures ∙ c.if-not-starts_with.false in
    let second : starts_with_number (drop 1 c.in_ok-number.after.now) ≡ true = rw (sym c.skip_ascii-rest.ensures) (sym c.starts_with_number-2.ensures ∙ c.if-not-starts_with_number-2.false) in
    let y = read_too (parse_number c.skip_ascii-rest.result.now) (parse_epoch_and_release text)
    (λ f h. prefix_err text c.in_ok-number.after.now c.in_ok-number.number f first c.in_ok-number.ensures.reads bang second (rw (sym c.skip_ascii-rest.ensures) h)) x e in
    cc (c.in_err-first.ensures.memory y.0 y.1)

pub returns-clause-memory : goal.returns-clause-memory
returns-clause-memory c = λ x e few.
    let text = c.args.text.now in
    let first = sym c.starts_with_number.ensures ∙ c.if-not-starts_with_number.false in
    let bang = sym c.starts_with.ensures ∙ c.if-not-starts_with.false in
    let second : starts_with_number (drop 1 c.in_ok-number.after.now) ≡ true = rw (sym c.skip_ascii-rest.ensures) (sym c.starts_with_number-2.ensures ∙ c.if-not-starts_with_number-2.false) in
    let read = rw c.skip_ascii-rest.ensures at c.in_ok-first.ensures.reads in
    c.parse_release_after_epoch-2.ensures.memory x (sym (prefix_epoch text c.in_ok-number.after.now c.in_ok-first.behind.now c.in_ok-number.number c.in_ok-first.first first c.in_ok-number.ensures.reads bang second read) ∙ e) few
