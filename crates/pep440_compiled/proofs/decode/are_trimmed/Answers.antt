use Rattle.std.proofs.Common.{◌∙◌, ap, length, sym}
use Rattle.std.proofs.lemmas.Bool.{eq-eqb, eqb-true}
use Rattle.pep440_compiled.proofs.Rewritten.{whole_trimmed}
use Rattle.pep440_compiled.proofs.decode.are_trimmed.Goals as goal

pub returns : goal.returns
returns c = (
  λ e. whole_trimmed c.args.numbers.now (sym (ap length c.trim_trailing_zeros.ensures) ∙ eqb-true _ _ e),
  λ t. eq-eqb _ _ (ap length (c.trim_trailing_zeros.ensures ∙ t)),
)
