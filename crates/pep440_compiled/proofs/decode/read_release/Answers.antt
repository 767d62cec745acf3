use Rattle.std.proofs.Common.{◌≡◌, ◌∙◌, ◌++◌, ◌∷◌, ap, arith, length, rules, subst, sym, true≢false}
use Rattle.std.specs.List.{flat_map}
use Rattle.pep440_compiled.proofs.Checking.{release_again}
use Rattle.pep440_compiled.proofs.Fronts.{IsTrimmed, trim_again}
use Rattle.pep440_compiled.proofs.Rewritten.{release_written}
use Rattle.pep440_compiled.proofs.decode.read_release.Goals as goal
use Rattle.pep440_keys.specs.SortKeys.{number_bytes}
use Rattle.pep440_version.specs.Key.Trim.{trim}

pub returns-in_default-clause-found : goal.returns-in_default-clause-found
returns-in_default-clause-found c release rest all some z e = absurd (rw c.in_default.is at (c.in_ok-numbers.ensures.found (trim release) rest all e))

pub returns-then-not-are_trimmed-clause-found : goal.returns-then-not-are_trimmed-clause-found
returns-then-not-are_trimmed-clause-found c release rest all some z e =
    let numbers = rw c.in-Some.is at (c.in_ok-numbers.ensures.found (trim release) rest all e) in
    let trimmed = c.are_trimmed.ensures.1 (subst IsTrimmed (sym (c.as_slice.ensures ∙ numbers.0)) (trim_again release)) in
    absurd (true≢false (sym trimmed ∙ c.if-not-are_trimmed.true))

pub returns-then-is_empty-clause-found : goal.returns-then-is_empty-clause-found
returns-then-is_empty-clause-found c release rest all some z e =
    let numbers = rw c.in-Some.is at (c.in_ok-numbers.ensures.found (trim release) rest all e) in
    let again = release_again release c.in-Some.numbers.items c.push_zeros.new.numbers.items c.args.zeros numbers.0 z c.in_ok-push_zeros.ensures in
    let none : length c.push_zeros.new.numbers.items ≡ 0 = search rules in
    absurd (omega (arith, none, ap length again, some))

pub returns-clause-found : goal.returns-clause-found
returns-clause-found c release rest all some z e =
    let numbers = rw c.in-Some.is at (c.in_ok-numbers.ensures.found (trim release) rest all e) in
    (release_again release c.in-Some.numbers.items c.push_zeros.new.numbers.items c.args.zeros numbers.0 z c.in_ok-push_zeros.ensures, numbers.1)

pub returns-clause-exact : goal.returns-clause-exact
returns-clause-exact c =
    let read = rw c.in-Some.is at c.in_ok-numbers.ensures.exact in
    let trimmed = subst IsTrimmed c.as_slice.ensures (c.are_trimmed.ensures.0 c.if-not-are_trimmed.false) in
    let written = release_written c.in-Some.numbers.items c.push_zeros.new.numbers.items c.args.zeros trimmed c.in_ok-push_zeros.ensures in
    (written.0, read ∙ ap (λ l. flat_map (number_bytes 1) l ++ 0 ∷ c.in-Some.rest.now) (sym written.1))
