use Rattle.std.proofs.Common.{◌≡◌, ◌∙◌, ◌∷◌, ◌++◌, ◌-◌, [], ap, arith, drop, get_or, length, refl, rules, take}
use Rattle.std.proofs.lemmas.List.{append-nil, nil_from_length}
use Rattle.pep440_compiled.proofs.WrittenForm.{last_segment, segment_more, all_left, dot_after, first_left, last_written, left_after, whole_fits}
use Rattle.pep440_compiled.proofs.stack_form.push_segments.Goals as goal
use Rattle.pep440_version.proofs.Reading.NormalParts.{by_first}

pub returns-in_err-after-clause-fits : goal.returns-in_err-after-clause-fits
returns-in_err-after-clause-fits c = λ segments some fit again is fits.
    let small = whole_fits c.args.form.now.items segments fits in
    let left = c.loop-after.invariant.1 _ small (all_left c.args.text.now c.args.form.now.items segments some fit again is) in
    let first = first_left left small in
    absurd (c.in_err-after.ensures.fits first.first _ first.printed first.fits)

pub returns-clause-fits : goal.returns-clause-fits
returns-clause-fits c = λ segments some fit again is fits.
    let small = whole_fits c.args.form.now.items segments fits in
    let left = c.loop-after.invariant.1 _ small (all_left c.args.text.now c.args.form.now.items segments some fit again is) in
    let first = first_left left small in
    absurd (rw c.in_default.is at (c.in_ok-after.ensures.fits first.first _ first.printed first.fits))

pub returns-in-empty-clause-appended : goal.returns-in-empty-clause-appended
returns-in-empty-clause-appended c = λ _.
    let one = rw c.in-Some.is at c.in_ok-after.ensures.appended in
    let none : c.in-Some.after.now ≡ [] = nil_from_length c.in-Some.after.now (omega (arith, c.in-empty.len_below)) in
    last_segment c.args.text.now c.loop-after.rest.now c.args.form.now.items c.loop-after.form.items c.push_segment.new.form.items one.0 one.1
    c.loop-after.invariant.0 (one.3 ∙ ap (λ l. one.0 ++ l) none ∙ append-nil one.0) one.2 one.4

pub returns-in-empty-clause-fits : goal.returns-in-empty-clause-fits
returns-in-empty-clause-fits c = λ segments some fit again is fits.
    let small = whole_fits c.args.form.now.items segments fits in
    let left = c.loop-after.invariant.1 _ small (all_left c.args.text.now c.args.form.now.items segments some fit again is) in
    let first = first_left left small in
    let pushed = rw c.in-Some.is at (c.in_ok-after.ensures.fits first.first _ first.printed first.fits) in
    (refl, last_written (first.after _ _ pushed.0 pushed.1) (nil_from_length c.in-Some.after.now (omega (arith, c.in-empty.len_below))))

pub returns-in_default-after-clause-fits : goal.returns-in_default-after-clause-fits
returns-in_default-after-clause-fits c = λ segments some fit again is fits.
    let small = whole_fits c.args.form.now.items segments fits in
    let left = c.loop-after.invariant.1 _ small (all_left c.args.text.now c.args.form.now.items segments some fit again is) in
    let first = first_left left small in
    let pushed = rw c.in-Some.is at (c.in_ok-after.ensures.fits first.first _ first.printed first.fits) in
    let dot = dot_after (first.after _ _ pushed.0 pushed.1) (omega (arith, c.in_default-after.len_at_least)) in
    let other : get_or c.in-Some.after.now 0 0 ≡ 46 → ⊥ = search rules in
    absurd (other dot)

pub loop-after-preserved : goal.loop-after-preserved
loop-after-preserved c =
    let one = rw c.in-Some.is at c.in_ok-after.ensures.appended in
    let rest = c.in-Some.after.now in
    let later = take (length rest - 1) (drop 1 rest) in
    let dot : rest ≡ 46 ∷ later = by_first 46 rest (omega arith) (search rules) in (
      segment_more c.args.text.now c.loop-after.rest.now c.args.form.now.items c.loop-after.form.items c.push_segment.new.form.items one.0 later one.1
          c.loop-after.invariant.0 (one.3 ∙ ap (λ l. one.0 ++ l) dot) one.2 one.4,
      λ whole small start.
          let left = c.loop-after.invariant.1 whole small start in
          let first = first_left left small in
          let pushed = rw c.in-Some.is at (c.in_ok-after.ensures.fits first.first _ first.printed first.fits) in
          left_after (first.after _ _ pushed.0 pushed.1) dot,
    )
