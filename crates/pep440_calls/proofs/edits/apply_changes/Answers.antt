use Rattle.std.proofs.Common.{◌≡◌, ◌∙◌, Err, ap, map, rules, sym}
use Rattle.std.proofs.lemmas.Result.{err_from_is_err_and}
use Rattle.pep440_version.specs.Changes.{apply_edits, edit}
use Rattle.pep440_calls.proofs.edits.apply_changes.Goals as goal

pub returns-in_err-changes : goal.returns-in_err-changes
returns-in_err-changes c text means =
    let p = err_from_is_err_and c.from_residual.result c.from_residual.ensures.1 in
    rw (p.1, p.2) (c.in_err-changes.ensures text c.args.version means)

pub returns-in-Ok : goal.returns-in-Ok
returns-in-Ok c text means =
    let made = sym c.in-Ok.ensures.ok ∙ ap (λ xs. apply_edits 1 c.args.version (map edit xs)) c.as_slice.ensures.value in
    (c.args.version, means, (map edit c.in_ok-changes.changes.items, c.in_ok-changes.ensures text c.args.version means, made))

pub returns : goal.returns
returns c text means =
    let why : apply_edits 1 c.args.version (map edit c.as_slice.result.now) ≡ Err c.in-Err.error = search rules in
    let failed = sym why ∙ ap (λ xs. apply_edits 1 c.args.version (map edit xs)) c.as_slice.ensures.value in
    (c.args.version, means, (map edit c.in_ok-changes.changes.items, c.in_ok-changes.ensures text c.args.version means, failed))
