use Rattle.std.proofs.Common.{◌≡◌, ◌∙◌, ◌++◌, ap, length, sym}
use Rattle.std.proofs.lemmas.List.{take-append-drop}
use Rattle.std.specs.Cmp.Lexicographic.{same_text}
use Rattle.pep440_compiled.proofs.matching.strip_base.Goals as goal

pub returns-then-eq : goal.returns-then-eq
returns-then-eq c =
    let same : c.in_ok-start.start.now ≡ c.args.base.now = same_text c.in_ok-start.start.now c.args.base.now (sym c.if-eq.true ∙ c.eq.ensures) in
    sym (take-append-drop (length c.args.base.now) c.args.bytes.now)
    ∙ (λ i. sym c.in_ok-start.ensures.cases.1 i ++ sym c.in_ok-start.ensures.cases.2 i)
    ∙ ap (λ l. l ++ c.in_ok-start.rest.now) same
