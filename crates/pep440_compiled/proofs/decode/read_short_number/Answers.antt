use Rattle.std.proofs.Common.{◌≡◌, ◌∙◌, ◌++◌, ap, arith, length, refl}
use Rattle.std.proofs.lemmas.List.{nil_from_length}
use Rattle.pep440_compiled.proofs.Rewritten.{no_number, short_number, epoch_parts}
use Rattle.pep440_compiled.proofs.decode.read_short_number.Goals as goal
use Rattle.pep440_keys.specs.SortKeys.{needed_bytes}

pub returns-then-count-eq0-clause-found : goal.returns-then-count-eq0-clause-found
returns-then-count-eq0-clause-found c n rest f e =
    let parts = epoch_parts c.args.bytes.now c.in_ok-count.rest.now rest c.in_ok-count.count.now n c.in_ok-count.ensures.cases.0 e in
    let none : length (needed_bytes n) ≡ 0 = omega (arith, parts.0, c.if-count-eq0.true) in
    (no_number n (needed_bytes n) f none refl, parts.1 ∙ ap (λ l. l ++ rest) (nil_from_length (needed_bytes n) none))

pub returns-clause-found : goal.returns-clause-found
returns-clause-found c n rest f e =
    let parts = epoch_parts c.args.bytes.now c.in_ok-count.rest.now rest c.in_ok-count.count.now n c.in_ok-count.ensures.cases.0 e in
    short_number n c.in_ok-number.number.now (needed_bytes n) c.in_ok-count.rest.now c.in_ok-number.rest.now rest f (omega arith) refl (omega (arith, parts.0, c.if-count-eq0.false, c.if-count-gt1.false)) c.in_ok-number.ensures.cases.0 parts.1
