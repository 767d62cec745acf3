use Rattle.std.proofs.Common.{◌∙◌, ap}
use Rattle.std.specs.Char.{is_ascii_whitespace}
use Rattle.pep440_version.specs.Reading.{past}
use Rattle.pep440_rs.proofs.Blanks.{start_trimmed}
use Rattle.pep440_pick.proofs.Extras.{prefix_has}
use Rattle.pep440_pick.proofs.requirement_parts.skip_parenthesis.Goals as goal

pub returns-in-Some : goal.returns-in-Some
returns-in-Some c =
    let has = prefix_has 40 c.args.text.now c.in-Some.open.now c.in-Some.ensures in
    rw has.0 (start_trimmed c.in-Some.open.now c.trim_ascii_start.result.now c.trim_ascii_start.ensures.value ∙ ap (past is_ascii_whitespace) has.1)
