use Rattle.std.proofs.Common.{◌∙◌, sym}
use Rattle.pep440_pick.specs.RequirementReading.{listed_extras}
use Rattle.pep440_pick.proofs.Extras.{closed_none, closed_some, extras_known, extras_unknown, prefix_lacks, no_bracket, unclosed}
use Rattle.pep440_pick.proofs.requirement_parts.split_extras.Goals as goal

pub returns-in_default : goal.returns-in_default
returns-in_default c = sym (no_bracket c.args.text.now (prefix_lacks 91 c.args.text.now c.in_default.ensures))

pub returns-then-are_extras : goal.returns-then-are_extras
returns-then-are_extras c =
    sym (closed_some c.args.text.now c.in-Some.open.now c.in_ok-inside.inside.now c.in_ok-inside.behind.now (listed_extras c.in_ok-inside.inside.now) c.in-Some.ensures c.in_ok-inside.ensures
    (extras_known c.in_ok-inside.inside.now (sym c.are_extras.ensures ∙ c.if-are_extras.true)))

pub returns-else-are_extras : goal.returns-else-are_extras
returns-else-are_extras c =
    sym (closed_none c.args.text.now c.in-Some.open.now c.in_ok-inside.inside.now c.in_ok-inside.behind.now c.in-Some.ensures c.in_ok-inside.ensures
    (extras_unknown c.in_ok-inside.inside.now (sym c.are_extras.ensures ∙ c.if-are_extras.false)))

pub returns-in_err-inside : goal.returns-in_err-inside
returns-in_err-inside c = rw c.from_residual.ensures (sym (unclosed c.args.text.now c.in-Some.open.now c.in-Some.ensures c.in_err-inside.ensures))
