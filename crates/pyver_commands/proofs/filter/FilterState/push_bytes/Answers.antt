use Rattle.std.proofs.Common.{◌++◌, ◌∷◌, ◌∙◌, [], ap, get_or, ne_eqb, refl, subst, sym, arith}
use Rattle.pyver_commands.proofs.Filtering.{steps_more, steps_none}
use Rattle.pyver_commands.proofs.InputOutput.{bytes_newline, bytes_other, cuts_none}
use Rattle.pyver_commands.specs.FilterSteps.{Steps}
use Rattle.pyver_commands.specs.Sources.SourceViews.{origin_of}
use Rattle.pyver_commands.proofs.filter.FilterState.push_bytes.Goals.{then-byte-eq10+in_ok-push_line, else-byte-eq10+in_ok-push}
use Rattle.pyver_commands.proofs.filter.FilterState.push_bytes.Goals as goal

pub loop-byte-init : goal.loop-byte-init
loop-byte-init c = ([], cuts_none c.args.line.now.items c.requires.line, steps_none c.args.rule.now (origin_of c.args.origin) c.args.self.now, omega arith, omega arith)

pub loop-byte-preserved : goal.loop-byte-preserved
loop-byte-preserved c =
    let k = c.loop-byte.invariant in
    elim c.if-byte-eq10.branch [
      | then-byte-eq10+in_ok-push_line w ↦
          let step = rw w.as_slice.ensures.value at w.in_ok-push_line.ensures in
          let steps = subst (Steps c.args.rule.now (origin_of c.args.origin) (k.0 ++ c.loop-byte.line.items ∷ []) c.args.self.now) (sym w.self-is) (steps_more c.args.rule.now (origin_of c.args.origin) k.0 (c.loop-byte.line.items ∷ []) c.args.self.now c.loop-byte.self w.push_line.new.self k.2 step) in (
            k.0 ++ c.loop-byte.line.items ∷ [],
            bytes_newline c.args.line.now.items c.args.bytes.now c.loop-byte.byte-index (get_or c.args.bytes.now c.loop-byte.byte-index 0) k.0 c.loop-byte.line.items c.if-byte-eq10.line.items c.loop-byte-test.true refl w.if-byte-eq10.true k.1 (ap (λ l. l.items) w.line-is ∙ w.clear.ensures.items),
            steps,
            omega (arith, k.3, step.line_count, ap (λ s. s.line_count) w.self-is),
            omega (arith, k.4, step.few_faults, ap (λ s. s.fault_count) w.self-is),
          )
      | else-byte-eq10+in_ok-push w ↦ (
        k.0,
        bytes_other c.args.line.now.items c.args.bytes.now c.loop-byte.byte-index (get_or c.args.bytes.now c.loop-byte.byte-index 0) k.0 c.loop-byte.line.items c.if-byte-eq10.line.items c.loop-byte-test.true refl (ne_eqb _ 10 w.if-byte-eq10.false) k.1 (ap (λ l. l.items) w.line-is ∙ w.in_ok-push.ensures.items),
        subst (Steps c.args.rule.now (origin_of c.args.origin) k.0 c.args.self.now) (sym w.self-is) k.2,
        omega (arith, k.3, ap (λ s. s.line_count) w.self-is),
        omega (arith, k.4, ap (λ s. s.fault_count) w.self-is),
      )
    ]
