use Rattle.std.proofs.Common.{◌∙◌, ap, refl, sym}
use Rattle.std.proofs.Output.{has_written_styled_append, has_written_styled_of_eq}
use Rattle.pep440_version.specs.Print.{print}
use Rattle.pep440_rs.specs.Operators.{is_star, operator_text}
use Rattle.pep440_rs.proofs.Reread.Prints.{unstarred}
use Rattle.pep440_rs.proofs.specifier.write_specifier.Goals as goal

pub returns-else-is_star : goal.returns-else-is_star
returns-else-is_star g c = λ flush ok.
    let operator = c.in_ok-write_str.ensures.styled flush refl in
    let version = c.in_ok-fmt.ensures.styled operator.flush refl in
    has_written_styled_of_eq _ _ _ _ _
    (unstarred c.args.specifier.now _ _ (c.as_str.ensures ∙ ap operator_text c.operator.ensures.value) (ap print c.version.ensures.value)
    (ap is_star (sym c.operator-2.ensures.value) ∙ sym c.is_star.ensures ∙ c.if-is_star.false))
    (has_written_styled_append _ _ _ _ _ _ operator version)
