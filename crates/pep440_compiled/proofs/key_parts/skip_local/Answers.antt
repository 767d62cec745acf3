use Rattle.std.proofs.Common.{◌∙◌, ◌∷◌, [], arith, append_assoc}
use Rattle.std.proofs.lemmas.List.Elements.{recursion_from_All}
use Rattle.std.specs.List.{flat_map}
use Rattle.pep440_compiled.proofs.Loops.{end_of_segments, next_segment, not_nil}
use Rattle.pep440_compiled.proofs.key_parts.skip_local.Goals as goal
use Rattle.pep440_keys.specs.SortKeys.{HasNoZero, segment_bytes}

pub returns-then-first-eq0-clause-found : goal.returns-then-first-eq0-clause-found
returns-then-first-eq0-clause-found c local rest all e =
    let left = c.loop-first.invariant.leads local rest (recursion_from_All HasNoZero local all) (e ∙ append_assoc (flat_map segment_bytes local) (0 ∷ []) rest) in
    (end_of_segments c.in-Some.first.now c.loop-first.left.now c.in-Some.later.now rest left.0 c.in-Some.ensures.cases.0 c.if-first-eq0.true left.2).1

pub returns-in_err-left-clause-found : goal.returns-in_err-left-clause-found
returns-in_err-left-clause-found c local rest all e =
    let left = c.loop-first.invariant.leads local rest (recursion_from_All HasNoZero local all) (e ∙ append_assoc (flat_map segment_bytes local) (0 ∷ []) rest) in
    let next = next_segment HasNoZero c.in-Some.first.now c.loop-first.left.now c.in-Some.later.now rest left.0 left.1 c.in-Some.ensures.cases.0 c.if-first-eq0.false left.2 in
    absurd (c.in_err-left.ensures.found next.0 _ next.2 next.5)

pub loop-first-preserved : goal.loop-first-preserved
loop-first-preserved c = record {
  leads = λ local rest all e.
      let left = c.loop-first.invariant.leads local rest all e in
      let next = next_segment HasNoZero c.in-Some.first.now c.loop-first.left.now c.in-Some.later.now rest left.0 left.1 c.in-Some.ensures.cases.0 c.if-first-eq0.false left.2 in
      (next.1, next.3, c.in_ok-left.ensures.found next.0 _ next.2 next.5);
  shorter = omega (arith, c.in-Some.ensures.cases.1, c.in_ok-left.ensures.shorter, c.loop-first.invariant.shorter);
}

pub returns-clause-found : goal.returns-clause-found
returns-clause-found c local rest all e =
    let left = c.loop-first.invariant.leads local rest (recursion_from_All HasNoZero local all) (e ∙ append_assoc (flat_map segment_bytes local) (0 ∷ []) rest) in
    not_nil segment_bytes c.loop-first.left.now rest left.0 c.in_default.ensures.cases left.2
