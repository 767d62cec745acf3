use Rattle.std.proofs.Common.{◌∙◌, ◌++◌, ◌∷◌, ap, sym}
use Rattle.pep440_compiled.proofs.Rewritten.{text_before}
use Rattle.pep440_compiled.proofs.decode.split_text.Goals as goal

pub returns-clause-exact : goal.returns-clause-exact
returns-clause-exact c =
    let split = c.in_ok-rest.ensures.exact in
    split.1 ∙ ap (λ l. l ++ 0 ∷ c.in_ok-rest.rest.now) (sym (text_before c.args.bytes.now split.0 c.in_ok-rest.rest.now split.1))
