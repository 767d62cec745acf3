use Rattle.std.proofs.Common.{◌∙◌, ◌||◌, ap, is_none}
use Rattle.pyver_markers.proofs.Texts.{Alone, met_beside}
use Rattle.pyver_markers.specs.Extents.{condition_of}
use Rattle.pyver_markers.specs.Boxes.{is_met, meets}
use Rattle.pyver_markers.proofs.text_condition.is_met_at.Goals as goal

pub returns : goal.returns
returns c =
    c.is_met.ensures ∙ ap (is_met c.args.condition.now.wanted) c.in_ok-value.ensures
    ∙ met_beside c.args.name.now c.args.text.now (condition_of c.args.condition.now) c.in-Some.operand c.in-Some.ensures.found
    ∙ ap (λ o. is_none o || meets (Alone c.args.name.now c.args.text.now) (condition_of c.args.condition.now)) c.in-Some.ensures.value
