use Rattle.std.proofs.Common.{◌++◌, ◌∙◌, ap, sym}
use Rattle.std.specs.Char.{encode_utf8}
use Rattle.pep440_rs.specs.Specifiers.SpecifierReading.{passes}
use Rattle.pep440_rs.proofs.Reading.Scanning.{ends_further, run_goes_on, run_stops}
use Rattle.pep440_rs.proofs.specifier.scan.skip_characters.Goals as goal

pub returns-then-not-passes-clause-back : goal.returns-then-not-passes-clause-back
returns-then-not-passes-clause-back c =
    let step = sym c.loop-c.invariant.0 ∙ c.in-Some.ensures.steps.0 in
    run_stops (passes c.args.run) c.args.text.now c.loop-c.rest.now _ c.in-Some.c c.loop-c.invariant.1 step (sym c.passes.ensures ∙ c.if-not-passes.true) c.loop-c.invariant.3

pub loop-c-preserved : goal.loop-c-preserved
loop-c-preserved c =
    let step = sym c.loop-c.invariant.0 ∙ c.in-Some.ensures.steps.0 ∙ ap (λ t. encode_utf8 c.in-Some.c ++ t) (sym c.as_str-rest.ensures) in (
      sym c.as_str-rest.ensures,
      c.as_str-rest.utf8,
      ends_further c.args.text.now c.loop-c.rest.now c.as_str-rest.result.now (encode_utf8 c.in-Some.c) c.loop-c.invariant.2 step,
      run_goes_on (passes c.args.run) c.args.text.now c.loop-c.rest.now c.as_str-rest.result.now c.in-Some.c c.loop-c.invariant.1 step (sym c.passes.ensures ∙ c.if-not-passes.false) c.loop-c.invariant.3,
    )
