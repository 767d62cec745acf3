use Rattle.std.proofs.Common.{◌∙◌, get_or, refl, sym}
use Rattle.pep440_version.proofs.ChangeWords.Items.{more, no_text, stop}
use Rattle.pep440_version.specs.Changes.ChangeWords.{number_of}
use Rattle.pep440_version.proofs.change_word.parse_all_numbers.Goals as goal

pub returns-in_default : goal.returns-in_default
returns-in_default c =
    stop number_of (λ p. p.now) c.args.pieces.now c.loop-i.i (get_or c.args.pieces.now c.loop-i.i no_text) no_text c.loop-i.numbers.items
    c.loop-i-test.true refl (sym c.parse_number.ensures ∙ c.in_default.is) c.loop-i.invariant

pub loop-i-preserved : goal.loop-i-preserved
loop-i-preserved c =
    rw c.in_ok-push.ensures.items
    (more number_of (λ p. p.now) c.args.pieces.now c.loop-i.i (get_or c.args.pieces.now c.loop-i.i no_text) no_text c.loop-i.numbers.items c.in-Some.number
    c.loop-i-test.true refl (sym c.parse_number.ensures ∙ c.in-Some.is) c.loop-i.invariant)
