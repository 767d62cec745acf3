use Rattle.std.proofs.Common.{◌≡◌, ◌∙◌, ◌++◌, [], ap, arith, get_or, refl, sym}
use Rattle.std.proofs.lemmas.List.{append-nil, nil_from_length}
use Rattle.std.specs.List.{flat_map}
use Rattle.pep440_compiled.proofs.WrittenForm.{after_plus, end_fits, local_fits, no_local}
use Rattle.pep440_compiled.proofs.stack_form.push_local.Goals as goal
use Rattle.pep440_compiled.proofs.stack_form.push_local.Goals.{in-empty, in-43+in_ok-push_segments-in-43+else-not-branch}
use Rattle.pep440_keys.specs.SortKeys.{segment_bytes}
use Rattle.pep440_version.proofs.Reading.NormalParts.{by_first}

pub returns-in_err-append-clause-fits : goal.returns-in_err-append-clause-fits
returns-in_err-append-clause-fits c = λ local fit again is fits.
    let text = c.args.text.now in
    let form = c.if-text-lt1.form.items in
    let old = c.args.form.now.items in
    let written : form ≡ old ++ flat_map segment_bytes local = elim c.if-text-lt1.branch [
      | in-empty w ↦
          let none : text ≡ [] = nil_from_length text (omega (arith, w.in-empty.len_below)) in
          ap (λ f. f.items) w.form-is ∙ sym (append-nil old) ∙ ap (λ l. old ++ l) (sym (no_local local (sym is ∙ none)))
      | in-43+in_ok-push_segments-in-43+else-not-branch w ↦
          let after = after_plus local (get_or text 0 0) _ (sym is ∙ by_first (get_or text 0 0) text (omega (arith, w.in-43.len_at_least)) refl) in
          ap (λ f. f.items) w.form-is ∙ (w.push_segments.ensures.fits local after.0 fit again after.1 (local_fits old local fits)).1
    ] in
    let never = c.in_err-append.ensures.fits 0 (end_fits form old local written fits) in
    cc never.0
