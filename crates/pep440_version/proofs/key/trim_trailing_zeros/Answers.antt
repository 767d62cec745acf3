use Rattle.std.proofs.Common.{◌≡◌, ◌∙◌, ap, arith, sym, take}
use Rattle.pep440_version.specs.Key.Trim.{trim}
use Rattle.pep440_version.proofs.Ordering.Comparisons.{trim-drop_zero, trim-prefix}
use Rattle.pep440_version.proofs.key.trim_trailing_zeros.Goals as goal
use Rattle.pep440_version.proofs.key.trim_trailing_zeros.Goals.{then-loop-end-test+else-numbers-end-eq0, else-loop-end-test}

pub loop-end-preserved : goal.loop-end-preserved
loop-end-preserved c =
    (omega arith, trim-drop_zero c.args.numbers.now c.loop-end.end (omega arith) (omega arith) c.if-numbers-end-eq0.true ∙ c.loop-end.invariant.1)

pub returns : goal.returns
returns c =
    elim c.loop-end-test.branch [
      | then-loop-end-test+else-numbers-end-eq0 w ↦ sym (trim-prefix c.args.numbers.now c.loop-end.end (omega arith) (omega arith) (omega arith)) ∙ c.loop-end.invariant.1
      | else-loop-end-test w ↦
          let none : c.loop-end.end ≡ 0 = omega arith in
          ap (λ k. take k c.args.numbers.now) none ∙ ap (λ k. trim (take k c.args.numbers.now)) (sym none) ∙ c.loop-end.invariant.1
    ]
