use Rattle.std.proofs.Common.{◌++◌, ◌∙◌, ap, arith, get_or, inl, inr, length, nat_eq, refl, rules, sym}
use Rattle.std.specs.List.{starts_with}
use Rattle.pep440_compiled.proofs.Fronts.{starts}
use Rattle.std.specs.Prelude.{codes}
use Rattle.pep440_compiled.proofs.PrintedParts.{other_kind, same_kind}
use Rattle.pep440_compiled.proofs.stack_form.split_kind.Goals as goal
use Rattle.pep440_version.proofs.Reading.NormalParts.{by_first}
use Rattle.pep440_version.specs.declared.prerelease.PrereleaseKind.TheVariants.{Alpha, Beta, Rc}

pub returns-in-Some-strip_word-clause-kind : goal.returns-in-Some-strip_word-clause-kind
returns-in-Some-strip_word-clause-kind c = (codes "alpha", inl (refl, refl), c.in-Some-strip_word.ensures)

pub returns-in-Some-strip_word-2-clause-kind : goal.returns-in-Some-strip_word-2-clause-kind
returns-in-Some-strip_word-2-clause-kind c = (codes "beta", inr (inr (inl (refl, refl))), c.in-Some-strip_word-2.ensures)

pub returns-in-Some-clause-kind : goal.returns-in-Some-clause-kind
returns-in-Some-clause-kind c = (codes "rc", inr (inr (inr (inr (inl (refl, refl))))), c.in-Some.ensures)

pub returns-in-Some-strip_word-3-clause-kind : goal.returns-in-Some-strip_word-3-clause-kind
returns-in-Some-strip_word-3-clause-kind c = (codes "preview", inr (inr (inr (inr (inr (inr (inl (refl, refl))))))), c.in-Some-strip_word-3.ensures)

pub returns-in-Some-strip_word-4-clause-kind : goal.returns-in-Some-strip_word-4-clause-kind
returns-in-Some-strip_word-4-clause-kind c = (codes "pre", inr (inr (inr (inr (inr (inr (inr (inl (refl, refl)))))))), c.in-Some-strip_word-4.ensures)

pub returns-in-97-clause-kind : goal.returns-in-97-clause-kind
returns-in-97-clause-kind c = (codes "a", inr (inl (refl, refl)), by_first 97 c.args.text.now (omega (arith, c.in-97.len_at_least)) (search rules))

pub returns-in-98-clause-kind : goal.returns-in-98-clause-kind
returns-in-98-clause-kind c = (codes "b", inr (inr (inr (inl (refl, refl)))), by_first 98 c.args.text.now (omega (arith, c.in-98.len_at_least)) (search rules))

pub returns-in-99-clause-kind : goal.returns-in-99-clause-kind
returns-in-99-clause-kind c = (codes "c", inr (inr (inr (inr (inr (inl (refl, refl)))))), by_first 99 c.args.text.now (omega (arith, c.in-99.len_at_least)) (search rules))

pub returns-in-Some-strip_word-clause-printed : goal.returns-in-Some-strip_word-clause-printed
returns-in-Some-strip_word-clause-printed c = λ kind digits digit e. absurd (other_kind c.args.text.now c.in-Some-strip_word.rest.now (inl c.in-Some-strip_word.ensures) kind digits digit e)

pub returns-in-Some-strip_word-2-clause-printed : goal.returns-in-Some-strip_word-2-clause-printed
returns-in-Some-strip_word-2-clause-printed c = λ kind digits digit e. absurd (other_kind c.args.text.now c.in-Some-strip_word-2.rest.now (inr (inl c.in-Some-strip_word-2.ensures)) kind digits digit e)

pub returns-in-Some-clause-printed : goal.returns-in-Some-clause-printed
returns-in-Some-clause-printed c = λ kind digits digit e. same_kind c.args.text.now c.in-Some.rest.now Rc kind c.in-Some.ensures digits digit e

pub returns-in-Some-strip_word-3-clause-printed : goal.returns-in-Some-strip_word-3-clause-printed
returns-in-Some-strip_word-3-clause-printed c = λ kind digits digit e. absurd (other_kind c.args.text.now (codes "view" ++ c.in-Some-strip_word-3.rest.now) (inr (inr (inl c.in-Some-strip_word-3.ensures))) kind digits digit e)

pub returns-in-Some-strip_word-4-clause-printed : goal.returns-in-Some-strip_word-4-clause-printed
returns-in-Some-strip_word-4-clause-printed c = λ kind digits digit e. absurd (other_kind c.args.text.now c.in-Some-strip_word-4.rest.now (inr (inr (inl c.in-Some-strip_word-4.ensures))) kind digits digit e)

pub returns-in-97-clause-printed : goal.returns-in-97-clause-printed
returns-in-97-clause-printed c = λ kind digits digit e. same_kind c.args.text.now _ Alpha kind (by_first 97 c.args.text.now (omega (arith, c.in-97.len_at_least)) (search rules)) digits digit e

pub returns-in-98-clause-printed : goal.returns-in-98-clause-printed
returns-in-98-clause-printed c = λ kind digits digit e. same_kind c.args.text.now _ Beta kind (by_first 98 c.args.text.now (omega (arith, c.in-98.len_at_least)) (search rules)) digits digit e

pub returns-in-99-clause-printed : goal.returns-in-99-clause-printed
returns-in-99-clause-printed c = λ kind digits digit e.
    absurd (other_kind c.args.text.now _ (inr (inr (inr (by_first 99 c.args.text.now (omega (arith, c.in-99.len_at_least)) (search rules))))) kind digits digit e)

pub returns-in_default-text-clause-printed : goal.returns-in_default-text-clause-printed
returns-in_default-text-clause-printed c Alpha digits digit e = absurd (search (rules, ap length e, ap (λ t. get_or t 0 0) e))
returns-in_default-text-clause-printed c Beta digits digit e = absurd (search (rules, ap length e, ap (λ t. get_or t 0 0) e))
returns-in_default-text-clause-printed c Rc digits digit e =
    cc (sym (starts (codes "rc") digits) ∙ ap (λ t. starts_with nat_eq t (codes "rc")) (sym e) ∙ c.in_default.ensures)
