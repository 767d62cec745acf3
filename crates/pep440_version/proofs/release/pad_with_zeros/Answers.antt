use Rattle.std.proofs.Common.{◌≡◌, ◌≤◌, ℕ, List, [], ◌∷◌, arith, get_or, length, refl, sym, take}
use Rattle.std.proofs.lemmas.List.{get_or_past}
use Rattle.pep440_version.proofs.release.pad_with_zeros.Goals as goal

-- four numbers that are those of the list, and zeros after them
filled : (ns : List ℕ) (a b c d : ℕ) → length ns ≤ 4 → a ≡ get_or ns 0 0 → b ≡ get_or ns 1 0 → c ≡ get_or ns 2 0 → d ≡ get_or ns 3 0 → take (length ns) (a ∷ (b ∷ (c ∷ (d ∷ [])))) ≡ ns
filled [] a b c d few p q r s = refl
filled (x ∷ []) a b c d few p q r s = λ i. p i ∷ []
filled (x ∷ (y ∷ [])) a b c d few p q r s = λ i. p i ∷ (q i ∷ [])
filled (x ∷ (y ∷ (z ∷ []))) a b c d few p q r s = λ i. p i ∷ (q i ∷ (r i ∷ []))
filled (x ∷ (y ∷ (z ∷ (w ∷ [])))) a b c d few p q r s = λ i. p i ∷ (q i ∷ (r i ∷ (s i ∷ [])))
filled (x ∷ (y ∷ (z ∷ (w ∷ (v ∷ rest))))) a b c d few p q r s = absurd (omega arith)

pub returns-in-len1-clause-prefix : goal.returns-in-len1-clause-prefix
returns-in-len1-clause-prefix c = filled c.args.numbers.now _ 0 0 0 c.requires refl (sym (get_or_past c.args.numbers.now 1 0 (omega arith))) (sym (get_or_past c.args.numbers.now 2 0 (omega arith))) (sym (get_or_past c.args.numbers.now 3 0 (omega arith)))

pub returns-in-len1-clause-first : goal.returns-in-len1-clause-first
returns-in-len1-clause-first c = refl

pub returns-in-len1-clause-second : goal.returns-in-len1-clause-second
returns-in-len1-clause-second c = sym (get_or_past c.args.numbers.now 1 0 (omega arith))

pub returns-in-len1-clause-third : goal.returns-in-len1-clause-third
returns-in-len1-clause-third c = sym (get_or_past c.args.numbers.now 2 0 (omega arith))

pub returns-in-len1-clause-fourth : goal.returns-in-len1-clause-fourth
returns-in-len1-clause-fourth c = sym (get_or_past c.args.numbers.now 3 0 (omega arith))

pub returns-in-len2-clause-prefix : goal.returns-in-len2-clause-prefix
returns-in-len2-clause-prefix c = filled c.args.numbers.now _ _ 0 0 c.requires refl refl (sym (get_or_past c.args.numbers.now 2 0 (omega arith))) (sym (get_or_past c.args.numbers.now 3 0 (omega arith)))

pub returns-in-len2-clause-first : goal.returns-in-len2-clause-first
returns-in-len2-clause-first c = refl

pub returns-in-len2-clause-second : goal.returns-in-len2-clause-second
returns-in-len2-clause-second c = refl

pub returns-in-len2-clause-third : goal.returns-in-len2-clause-third
returns-in-len2-clause-third c = sym (get_or_past c.args.numbers.now 2 0 (omega arith))

pub returns-in-len2-clause-fourth : goal.returns-in-len2-clause-fourth
returns-in-len2-clause-fourth c = sym (get_or_past c.args.numbers.now 3 0 (omega arith))

pub returns-in-len3-clause-prefix : goal.returns-in-len3-clause-prefix
returns-in-len3-clause-prefix c = filled c.args.numbers.now _ _ _ 0 c.requires refl refl refl (sym (get_or_past c.args.numbers.now 3 0 (omega arith)))

pub returns-in-len3-clause-first : goal.returns-in-len3-clause-first
returns-in-len3-clause-first c = refl

pub returns-in-len3-clause-second : goal.returns-in-len3-clause-second
returns-in-len3-clause-second c = refl

pub returns-in-len3-clause-third : goal.returns-in-len3-clause-third
returns-in-len3-clause-third c = refl

pub returns-in-len3-clause-fourth : goal.returns-in-len3-clause-fourth
returns-in-len3-clause-fourth c = sym (get_or_past c.args.numbers.now 3 0 (omega arith))

pub returns-in-len4-up-clause-prefix : goal.returns-in-len4-up-clause-prefix
returns-in-len4-up-clause-prefix c = filled c.args.numbers.now _ _ _ _ c.requires refl refl refl refl

pub returns-in-len4-up-clause-first : goal.returns-in-len4-up-clause-first
returns-in-len4-up-clause-first c = refl

pub returns-in-len4-up-clause-second : goal.returns-in-len4-up-clause-second
returns-in-len4-up-clause-second c = refl

pub returns-in-len4-up-clause-third : goal.returns-in-len4-up-clause-third
returns-in-len4-up-clause-third c = refl

pub returns-in-len4-up-clause-fourth : goal.returns-in-len4-up-clause-fourth
returns-in-len4-up-clause-fourth c = refl
