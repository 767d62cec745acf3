use Rattle.std.proofs.Common.{◌≡◌, ◌∙◌, ◌∷◌, ◌-◌, add-one, ap, drop, drop-cons, get_or, length, suc, sym, take, arith}
use Rattle.std.proofs.lemmas.List.{take_rest}
use Rattle.pyver_requirements.specs.MarkerSteps.{end_steps, marker_steps, read_tokens, take_token}
use Rattle.pyver_requirements.specs.MarkerTokens.{lexemes}
use Rattle.pyver_requirements.specs.MarkerViews.{IsMarkerFault, token_of, open_groups_of}
use Rattle.std.specs.Prelude.{IfErr}
use Rattle.pep440_rs.proofs.Reading.Passed.{passed}
use Rattle.pyver_requirements.proofs.MarkerStepReadings.{at_last, blank_byte, lifted_stray, skipped_byte, token_stray, token_taken}
use Rattle.pyver_requirements.proofs.marker_steps.parse_steps.Goals as goal
use Rattle.pyver_requirements.proofs.marker_steps.parse_steps.Goals.{then-skipped-gt0, else-skipped-gt0+then-not-is_blank_byte+in_ok-push, else-skipped-gt0+else-not-is_blank_byte}

pub loop-at-init : goal.loop-at-init
unfolding marker_steps
loop-at-init c = ap (λ s. read_tokens s (lexemes 0 c.args.text.now)) c.new-groups.ensures

pub loop-at-preserved : goal.loop-at-preserved
loop-at-preserved c =
    let text = c.args.text.now in
    let at = c.loop-at.at in
    let front : drop at text ≡ get_or text at 0 ∷ drop (suc at) text = drop-cons text at 0 c.loop-at-test.true in
    let kept = rw front at c.loop-at.invariant in
    elim c.if-skipped-gt0.branch [
      | then-skipped-gt0 w ↦ rw (w.groups-is, w.skipped-is, add-one) (rw (skipped_byte c.loop-at.skipped (get_or text at 0) (drop (suc at) text) w.if-skipped-gt0.true) at kept)
      | else-skipped-gt0+then-not-is_blank_byte+in_ok-push w ↦
          let none : c.loop-at.skipped ≡ 0 = omega (arith, w.if-skipped-gt0.false) in
          rw (w.groups-is, w.skipped-is, add-one)
          (token_taken (open_groups_of c.loop-at.groups) (open_groups_of w.push.new.self) (take (length text - at) (drop at text)) (get_or text at 0) (drop (suc at) text)
          w.saturating_sub-skipped.result (token_of w.scan_token.result) (marker_steps text) (take_rest text at ∙ front) (sym w.if-not-is_blank_byte.true ∙ w.is_blank_byte.ensures) w.scan_token.ensures
          w.in_ok-push.ensures.groups (w.saturating_sub-skipped.ensures ∙ ap (λ x. (length (take (length text - at) (drop at text)) - 1) - length x) w.behind_token.ensures)
          (rw none at kept))
      | else-skipped-gt0+else-not-is_blank_byte w ↦
          let none : c.loop-at.skipped ≡ 0 = omega (arith, w.if-skipped-gt0.false) in
          rw (w.groups-is, w.skipped-is, add-one) (rw none (rw (none, blank_byte (get_or text at 0) (drop (suc at) text) (sym w.if-not-is_blank_byte.false ∙ w.is_blank_byte.ensures)) at kept))
    ]

pub returns-in_err-push-clause-refused : goal.returns-in_err-push-clause-refused
returns-in_err-push-clause-refused c =
    let text = c.args.text.now in
    let at = c.loop-at.at in
    let front : drop at text ≡ get_or text at 0 ∷ drop (suc at) text = drop-cons text at 0 c.loop-at-test.true in
    let none : c.loop-at.skipped ≡ 0 = omega (arith, c.if-skipped-gt0.false) in
    let kept = rw (none, front) at c.loop-at.invariant in
    let refused : IsMarkerFault (marker_steps text) c.in_err-push.field-0.0 =
    lifted_stray c.in_err-push.field-0.0 (take_token (open_groups_of c.loop-at.groups) (token_of c.scan_token.result) (length (take (length text - at) (drop at text)))) (marker_steps text) c.in_err-push.ensures.fault
    (λ f is. token_stray (open_groups_of c.loop-at.groups) f (take (length text - at) (drop at text)) (get_or text at 0) (drop (suc at) text) (token_of c.scan_token.result) (marker_steps text)
    (take_rest text at ∙ front) (sym c.if-not-is_blank_byte.true ∙ c.is_blank_byte.ensures) c.scan_token.ensures is kept) in
    passed (λ r. IfErr r (IsMarkerFault (marker_steps text))) c.from_residual.result c.in_err-push.field-0.0 c.from_residual.ensures.1 refused

pub returns-clause-found : goal.returns-clause-found
returns-clause-found c =
    let is : end_steps (open_groups_of c.loop-at.groups) ≡ marker_steps c.args.text.now = at_last (open_groups_of c.loop-at.groups) c.loop-at.skipped c.loop-at.at c.args.text.now _ c.loop-at-test.false c.loop-at.invariant in
    rw (sym is) c.end.ensures.steps

pub returns-clause-refused : goal.returns-clause-refused
returns-clause-refused c =
    let is : end_steps (open_groups_of c.loop-at.groups) ≡ marker_steps c.args.text.now = at_last (open_groups_of c.loop-at.groups) c.loop-at.skipped c.loop-at.at c.args.text.now _ c.loop-at-test.false c.loop-at.invariant in
    rw (sym is) c.end.ensures.fault
