use Rattle.std.proofs.Common.{◌≡◌, ◌∙◌, ap, append-nil, arith, get_or, refl, sym}
use Rattle.std.proofs.lemmas.Str.{IsCharBoundary-after_ascii, IsCharBoundary-start}
use Rattle.std.specs.Str.{chars}
use Rattle.pep440_version.proofs.Reading.Endings.{ends_then}
use Rattle.pep440_version.specs.Reading.{past}
use Rattle.pep440_rs.specs.Specifiers.SpecifierReading.{passes}
use Rattle.pep440_rs.proofs.Reading.Scanning.{ascii_at, byte_passes, byte_stops, ends_at, no_run_left}
use Rattle.pep440_rs.proofs.specifier.scan.skip_run.Goals as goal

pub loop-at-init : goal.loop-at-init
loop-at-init c = record { boundary = IsCharBoundary-start c.args.text.now c.utf8.text; passed = refl }

pub returns-then-not-is_ascii-clause-back : goal.returns-then-not-is_ascii-clause-back
returns-then-not-is_ascii-clause-back c =
    c.skip_characters.ensures.back ∙ ap (λ t. past (passes c.args.run) (chars t)) c.range_from.ensures.value ∙ sym c.loop-at.invariant.passed

pub returns-then-not-is_ascii-clause-ends : goal.returns-then-not-is_ascii-clause-ends
returns-then-not-is_ascii-clause-ends c =
    ends_then c.args.text.now c.range_from.result.now c.skip_characters.result.now (ends_at c.args.text.now c.range_from.result.now c.loop-at.at c.range_from.ensures.value) c.skip_characters.ensures.ends

pub returns-then-not-passes-clause-back : goal.returns-then-not-passes-clause-back
returns-then-not-passes-clause-back c =
    let byte : c.from.result ≡ get_or c.args.text.now c.loop-at.at 0 = c.from.ensures ∙ ap (λ t. get_or t c.loop-at.at 0) c.as_bytes-bytes.ensures.value in
    let ascii = ascii_at c.args.text.now c.as_bytes-bytes.result.now c.loop-at.at c.as_bytes-bytes.ensures.value (sym c.is_ascii.ensures ∙ c.if-not-is_ascii.false) in
    let fails = ap (passes c.args.run) (sym byte) ∙ sym c.passes.ensures ∙ c.if-not-passes.true in
    ap chars c.range_from-then-not-passes.ensures.value
    ∙ byte_stops (passes c.args.run) c.args.text.now c.loop-at.at c.utf8.text c.loop-at.invariant.boundary (omega arith) ascii fails c.loop-at.invariant.passed

pub returns-then-not-passes-clause-ends : goal.returns-then-not-passes-clause-ends
returns-then-not-passes-clause-ends c = ends_at c.args.text.now c.range_from-then-not-passes.result.now c.loop-at.at c.range_from-then-not-passes.ensures.value

pub loop-at-preserved : goal.loop-at-preserved
loop-at-preserved c =
    let byte : c.from.result ≡ get_or c.args.text.now c.loop-at.at 0 = c.from.ensures ∙ ap (λ t. get_or t c.loop-at.at 0) c.as_bytes-bytes.ensures.value in
    let ascii = ascii_at c.args.text.now c.as_bytes-bytes.result.now c.loop-at.at c.as_bytes-bytes.ensures.value (sym c.is_ascii.ensures ∙ c.if-not-is_ascii.false) in
    let is = ap (passes c.args.run) (sym byte) ∙ sym c.passes.ensures ∙ c.if-not-passes.false in
    record {
      boundary = IsCharBoundary-after_ascii c.args.text.now c.loop-at.at c.utf8.text (omega arith) ascii;
      passed = byte_passes (passes c.args.run) c.args.text.now c.loop-at.at c.utf8.text c.loop-at.invariant.boundary (omega arith) ascii is c.loop-at.invariant.passed;
    }

pub returns-clause-back : goal.returns-clause-back
returns-clause-back c = no_run_left (passes c.args.run) c.args.text.now c.loop-at.at (omega arith) c.loop-at.invariant.passed

pub returns-clause-ends : goal.returns-clause-ends
returns-clause-ends c = (c.args.text.now, sym (append-nil c.args.text.now))
