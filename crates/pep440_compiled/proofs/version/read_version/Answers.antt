use Rattle.std.proofs.Common.{◌≡◌, ◌∙◌, subst, sym, true≢false}
use Rattle.pep440_compiled.proofs.Rewritten.{denoted}
use Rattle.pep440_compiled.proofs.version.read_version.Goals as goal
use Rattle.pep440_version.specs.RoundTrip.{IsParsed}

pub returns-then-not-is_parsed-clause-err : goal.returns-then-not-is_parsed-clause-err
returns-then-not-is_parsed-clause-err c is r d =
    let found = rw c.in-Some-2.is at (c.in_ok-version.ensures.found r (c.in-Some.ensures.found r d)) in
    let same : c.in-Some-2.version ≡ r = cc in
    let parsed = c.is_parsed.ensures.1 (subst IsParsed (sym same) d.parsed) in
    absurd (true≢false (sym parsed ∙ c.if-not-is_parsed.true))

pub returns-clause-ok : goal.returns-clause-ok
returns-clause-ok c =
    let decoded = rw c.in-Some-2.is at c.in_ok-version.ensures.exact in
    denoted c.args.bytes.now c.in-Some.view c.in-Some-2.version (decoded (c.is_parsed.ensures.0 c.if-not-is_parsed.false)) c.in-Some.ensures.exact
