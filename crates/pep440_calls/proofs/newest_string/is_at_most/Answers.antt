use Rattle.std.proofs.Common.{◌≡◌, ◌∙◌, ap, sym}
use Rattle.std.specs.Ordering.{is_ge}
use Rattle.pep440_calls.proofs.Forms.{as_compiled}
use Rattle.pep440_calls.proofs.newest_string.is_at_most.Goals as goal
use Rattle.pep440_version.specs.Key.{record_cmp}

pub returns-in-Ok : goal.returns-in-Ok
returns-in-Ok c ge p r best means =
    let formats = c.in-Ok.ensures.format in
    let whole = c.compare.ensures.found p r (as_compiled c.args.best.now p formats.0 best) (as_compiled c.args.bytes.now r formats.1 means) in
    let order : c.in-Ok.order ≡ record_cmp p r = cc (c.in-Ok.is, whole) in
    ap is_ge (sym order) ∙ sym c.is_ge.ensures ∙ ge
