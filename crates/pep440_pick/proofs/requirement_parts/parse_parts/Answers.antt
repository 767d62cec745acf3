use Rattle.std.proofs.Common.{◌∙◌, ap, subst, sym}
use Rattle.std.specs.List.{list_all}
use Rattle.pep440_version.proofs.Reading.Prefixes.{lead-all}
use Rattle.pep440_pick.specs.Names.{is_name_byte}
use Rattle.pep440_pick.specs.RequirementGrammar.{HasNoMarkerOrUrl}
use Rattle.pep440_pick.specs.RequirementReading.{prefix_after_name}
use Rattle.pep440_pick.specs.Requirements.{ParsesPrefix}
use Rattle.pep440_pick.proofs.Whole.{name_read, rest_read}
use Rattle.pep440_pick.proofs.Tells.{plain_read}
use Rattle.pep440_pick.proofs.requirement_parts.parse_parts.Goals as goal

pub parse_after_name-requires-clause-name : goal.parse_after_name-requires-clause-name
parse_after_name-requires-clause-name c = ap (list_all is_name_byte) c.split_name.ensures.name ∙ lead-all is_name_byte c.trim_ascii_start.result.now

pub parse_after_name-requires-clause-rest : goal.parse_after_name-requires-clause-rest
parse_after_name-requires-clause-rest c = rest_read c.args.text.now c.trim_ascii_start.result.now c.split_name.result.1.now _ c.trim_ascii_start.ensures.value c.split_name.ensures.rest c.trim_ascii_start-2.ensures.value

pub returns-clause-value : goal.returns-clause-value
returns-clause-value c =
    let text = c.args.text.now in
    let start = c.trim_ascii_start.result.now in
    let plain : HasNoMarkerOrUrl text = record { marker = sym c.has_byte.ensures ∙ c.if-has_byte.false; url = sym c.has_byte-2.ensures ∙ c.if-has_byte-2.false } in
    let name = name_read text start c.split_name.result.0.now c.trim_ascii_start.ensures.value c.split_name.ensures.name in
    let rest = rest_read text start c.split_name.result.1.now c.trim_ascii_start-2.result.now c.trim_ascii_start.ensures.value c.split_name.ensures.rest c.trim_ascii_start-2.ensures.value in
    subst (ParsesPrefix c.parse_after_name.result) ((λ i. prefix_after_name (name i) (rest i)) ∙ sym (plain_read text plain)) c.parse_after_name.ensures.value
