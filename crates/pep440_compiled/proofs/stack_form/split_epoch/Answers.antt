use Rattle.std.proofs.Common.{◌≡◌, ◌∙◌, ◌==◌, ◌∷◌, ◌++◌, [], ◌-◌, append_assoc, ap, arith, drop, get_or, inl, inr, length, refl, rules, sym, take}
use Rattle.std.specs.Fmt.{decimal}
use Rattle.pep440_compiled.proofs.PrintedParts.{by_epoch}
use Rattle.pep440_compiled.proofs.stack_form.split_epoch.Goals as goal
use Rattle.pep440_compiled.proofs.stack_form.split_epoch.Goals.{in_default-via-then-after-lt1, in_default-via-else-after-lt1+in_default-1}
use Rattle.pep440_version.proofs.Reading.NormalParts.{by_first}
use Rattle.pep440_version.proofs.RoundTrip.PrintIsRead.{decimal_number}
use Rattle.pep440_version.specs.Grammar.{starts}

pub returns-in_default-clause-epoch : goal.returns-in_default-clause-epoch
returns-in_default-clause-epoch c = let number = c.in_ok-number.ensures.number in ([], number.0, inl (refl, refl), number.1, number.2)

pub returns-clause-epoch : goal.returns-clause-epoch
returns-clause-epoch c =
    let number = c.in_ok-number.ensures.number in
    let first = c.in_ok-first.ensures.number in
    let after = c.in_ok-number.after.now in
    let mark : after ≡ 33 ∷ take (length after - 1) (drop 1 after) = by_first 33 after (omega arith) (search rules) in
    (number.0 ++ 33 ∷ [], first.0, inr (number.0, number.1, refl), first.1, number.2 ∙ ap (λ l. number.0 ++ l) (mark ∙ ap (λ l. 33 ∷ l) first.2) ∙ sym (append_assoc number.0 (33 ∷ []) _))

pub returns-in_err-number-clause-printed : goal.returns-in_err-number-clause-printed
returns-in_err-number-clause-printed c = λ epoch first rest fits fit ended no_bang e. elim (by_epoch c.args.text.now (decimal first ++ rest) epoch e) [
  | inl h ↦ absurd (c.in_err-number.ensures.found (decimal first) rest first (decimal_number first fit) ended h.1)
  | inr h ↦ absurd (c.in_err-number.ensures.found (decimal epoch) (33 ∷ (decimal first ++ rest)) epoch (decimal_number epoch fits) refl h)
]

pub returns-in_default-clause-printed : goal.returns-in_default-clause-printed
returns-in_default-clause-printed c = λ epoch first rest fits fit ended no_bang e. elim (by_epoch c.args.text.now (decimal first ++ rest) epoch e) [
  | inl h ↦
      let is = c.in_ok-number.ensures.found (decimal first) rest first (decimal_number first fit) ended h.1 in
      (sym h.0, is.0, is.1)
  | inr h ↦
      let is = c.in_ok-number.ensures.found (decimal epoch) (33 ∷ (decimal first ++ rest)) epoch (decimal_number epoch fits) refl h in
      let long = ap length is.1 in
      let mark = ap (λ t. get_or t 0 0) is.1 in
      elim c.in_default.branch [
        | in_default-via-then-after-lt1 w ↦ absurd (search (rules, long, mark))
        | in_default-via-else-after-lt1+in_default-1 w ↦ absurd (search (rules, mark))
      ]
]

pub returns-in_err-first-clause-printed : goal.returns-in_err-first-clause-printed
returns-in_err-first-clause-printed c = λ epoch first rest fits fit ended no_bang e.
    let after = c.in_ok-number.after.now in
    let mark : after ≡ 33 ∷ take (length after - 1) (drop 1 after) = by_first 33 after (omega arith) (search rules) in
    elim (by_epoch c.args.text.now (decimal first ++ rest) epoch e) [
      | inl h ↦
          let is = c.in_ok-number.ensures.found (decimal first) rest first (decimal_number first fit) ended h.1 in
          cc (sym no_bang ∙ ap (starts (λ b. b == 33)) (sym is.1 ∙ mark))
      | inr h ↦
          let is = c.in_ok-number.ensures.found (decimal epoch) (33 ∷ (decimal first ++ rest)) epoch (decimal_number epoch fits) refl h in
          absurd (c.in_err-first.ensures.found (decimal first) rest first (decimal_number first fit) ended (ap (drop 1) (sym mark ∙ is.1)))
    ]

pub returns-clause-printed : goal.returns-clause-printed
returns-clause-printed c = λ epoch first rest fits fit ended no_bang e.
    let after = c.in_ok-number.after.now in
    let mark : after ≡ 33 ∷ take (length after - 1) (drop 1 after) = by_first 33 after (omega arith) (search rules) in
    elim (by_epoch c.args.text.now (decimal first ++ rest) epoch e) [
      | inl h ↦
          let is = c.in_ok-number.ensures.found (decimal first) rest first (decimal_number first fit) ended h.1 in
          cc (sym no_bang ∙ ap (starts (λ b. b == 33)) (sym is.1 ∙ mark))
      | inr h ↦
          let is = c.in_ok-number.ensures.found (decimal epoch) (33 ∷ (decimal first ++ rest)) epoch (decimal_number epoch fits) refl h in
          let one = c.in_ok-first.ensures.found (decimal first) rest first (decimal_number first fit) ended (ap (drop 1) (sym mark ∙ is.1)) in
          (is.0, one.0, one.1)
    ]
