use Rattle.std.proofs.Common.{◌≡◌, ◌∙◌, ◌∷◌, ◌<◌, Some, ap, arith, length, rules, sym}
use Rattle.std.proofs.lemmas.List.{nil_from_length}
use Rattle.pep440_compiled.proofs.Rewritten.{begins_otherwise, needed_first, needed_one, no_number, one_number, zero_number}
use Rattle.pep440_compiled.proofs.decode.to_number.Goals as goal
use Rattle.pep440_keys.specs.SortKeys.{needed_bytes}

pub returns-in_default-clause-found : goal.returns-in_default-clause-found
returns-in_default-clause-found c n f e = ap Some (no_number n c.args.bytes.now f c.in_default.ensures.cases e)

pub returns-in_default-clause-exact : goal.returns-in_default-clause-exact
returns-in_default-clause-exact c = zero_number c.args.bytes.now c.in_default.ensures.cases

pub returns-then-first-eq0-clause-found : goal.returns-then-first-eq0-clause-found
returns-then-first-eq0-clause-found c n f e = absurd (needed_first n c.in-Some.first.now c.args.bytes.now c.in-Some.rest.now c.in-Some.ensures.cases.0 c.if-first-eq0.true e)

pub returns-then-is_empty-clause-found : goal.returns-then-is_empty-clause-found
returns-then-is_empty-clause-found c n f e =
    let none : length c.in-Some.rest.now ≡ 0 = search rules in
    let small : c.in-Some.first.now < 256 = omega arith in
    let same : c.from.result ≡ c.in-Some.first.now = omega arith in
    ap Some (same ∙ one_number n c.in-Some.first.now c.args.bytes.now f small c.if-first-eq0.false (c.in-Some.ensures.cases.0 ∙ ap (λ l. c.in-Some.first.now ∷ l) (nil_from_length c.in-Some.rest.now none)) e)

pub returns-then-is_empty-clause-exact : goal.returns-then-is_empty-clause-exact
returns-then-is_empty-clause-exact c =
    let none : length c.in-Some.rest.now ≡ 0 = search rules in
    let small : c.in-Some.first.now < 256 = omega arith in
    let same : c.from.result ≡ c.in-Some.first.now = omega arith in
    c.in-Some.ensures.cases.0 ∙ ap (λ l. c.in-Some.first.now ∷ l) (nil_from_length c.in-Some.rest.now none) ∙ needed_one c.in-Some.first.now c.if-first-eq0.false small ∙ ap needed_bytes (sym same)

pub returns-clause-exact : goal.returns-clause-exact
returns-clause-exact c = c.to_long_number.ensures.exact (begins_otherwise c.args.bytes.now c.in-Some.rest.now c.in-Some.first.now c.in-Some.ensures.cases.0 c.if-first-eq0.false)
