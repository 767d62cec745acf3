use Rattle.std.proofs.Common.{◌-◌, ◌∙◌, ap, length, sym}
use Rattle.pep440_pick.specs.RequirementReading.{in_parenthesis, listed_extras}
use Rattle.pep440_pick.proofs.Whole.{behind_read}
use Rattle.pep440_pick.proofs.Parts.{ends_decide, found_named, no_extras_named, not_named, unclosed_named}
use Rattle.pep440_pick.proofs.requirement_parts.parse_after_name.Goals as goal

pub returns-then-not-has_name_ends-clause-value : goal.returns-then-not-has_name_ends-clause-value
returns-then-not-has_name_ends-clause-value c =
    rw c.with_position.ensures.kind (not_named c.args.name.now c.args.rest.now (ends_decide c.args.name.now c.as_bytes.result.now _ c.requires.name c.as_bytes.ensures.value (sym c.has_name_ends.ensures ∙ c.if-not-has_name_ends.true)))

pub returns-in-Some-strip_parentheses-clause-value : goal.returns-in-Some-strip_parentheses-clause-value
returns-in-Some-strip_parentheses-clause-value c =
    found_named c.args.name.now c.args.rest.now c.in-Some.behind.now c.trim_blanks.result.now c.in-Some-strip_parentheses.list.now (listed_extras c.in-Some.extras.now)
    (ends_decide c.args.name.now c.as_bytes.result.now _ c.requires.name c.as_bytes.ensures.value (sym c.has_name_ends.ensures ∙ c.if-not-has_name_ends.false)) (sym c.in-Some.ensures) c.trim_blanks.ensures c.in-Some-strip_parentheses.ensures

pub returns-in-Some-strip_parentheses-clause-list : goal.returns-in-Some-strip_parentheses-clause-list
returns-in-Some-strip_parentheses-clause-list c =
    let end = behind_read c.args.text.now c.args.rest.now c.in-Some.behind.now c.trim_ascii_start-list_part.result.now (listed_extras c.in-Some.extras.now) c.requires.rest c.in-Some.ensures c.trim_ascii_start-list_part.ensures.value in
    c.count_bytes_before-in-Some-strip_parentheses.ensures ∙ ap (λ t. length c.args.text.now - length t) (c.skip_parenthesis.ensures ∙ ap in_parenthesis end)

pub returns-in-None-clause-value : goal.returns-in-None-clause-value
returns-in-None-clause-value c =
    rw c.with_position-in-None.ensures.kind
    (unclosed_named c.args.name.now c.args.rest.now c.in-Some.behind.now c.trim_blanks.result.now (listed_extras c.in-Some.extras.now)
    (ends_decide c.args.name.now c.as_bytes.result.now _ c.requires.name c.as_bytes.ensures.value (sym c.has_name_ends.ensures ∙ c.if-not-has_name_ends.false)) (sym c.in-Some.ensures) c.trim_blanks.ensures c.in-None.ensures)

pub returns-in-None-clause-position : goal.returns-in-None-clause-position
returns-in-None-clause-position c =
    let end = behind_read c.args.text.now c.args.rest.now c.in-Some.behind.now c.trim_ascii_start-list_part.result.now (listed_extras c.in-Some.extras.now) c.requires.rest c.in-Some.ensures c.trim_ascii_start-list_part.ensures.value in
    rw c.with_position-in-None.ensures.kind (c.with_position-in-None.ensures.position ∙ c.count_bytes_before-in-None.ensures ∙ ap (λ t. length c.args.text.now - length t) end)

pub returns-in_default-clause-value : goal.returns-in_default-clause-value
returns-in_default-clause-value c =
    rw c.with_position-in_default.ensures.kind
    (no_extras_named c.args.name.now c.args.rest.now (ends_decide c.args.name.now c.as_bytes.result.now _ c.requires.name c.as_bytes.ensures.value (sym c.has_name_ends.ensures ∙ c.if-not-has_name_ends.false)) (sym c.in_default.ensures))
