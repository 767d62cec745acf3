use Rattle.std.proofs.Common.{◌∙◌, ap, ◌++◌}
use Rattle.pep440_version.specs.Normal.{spelling}
use Rattle.pep440_version.proofs.Reading.NormalParts.{pre_part}
use Rattle.pep440_version.proofs.parse.normal_parts.parse_normal_pre.Goals as goal

pub returns-in-Some-parse_small_number : goal.returns-in-Some-parse_small_number
returns-in-Some-parse_small_number c =
    let n = c.in-Some-parse_small_number.ensures.number in
    pre_part c.args.text.now n.0 c.in-Some-parse_small_number.rest.now c.in-Some.class c.in-Some-parse_small_number.number c.in-Some-find_kind.kind c.in-Some-find_kind.ensures n.1 c.in-Some-parse_small_number.ensures.ended
    (c.in-Some.ensures.1 ∙ ap (λ t. spelling c.in-Some.class ++ t) n.3)
