-- The numbers that the release has are compared with the first of the prefix, and zeros with those beyond it.
use Rattle.std.proofs.Common.{◌≡◌, ◌∙◌, ◌<◌, ◌≤◌, ◌==◌, ◌&&◌, ◌++◌, ℕ, Bool, true, false, List, [], ◌∷◌, length, nat_eq, refl, sym, ap, rules, tests, arith}
use Rattle.std.proofs.Math.ListN.{take}
use Rattle.std.proofs.lemmas.Bool.Decides.{nat_tests}
use Rattle.std.proofs.lemmas.Iterator.{YieldsList-from_slice}
use Rattle.std.proofs.lemmas.Iterator.Search.{all_from_yields_List}
use Rattle.std.specs.Cmp.Lexicographic.{pointwise}
use Rattle.std.specs.List.{list_all}
use Rattle.pep440_rs.specs.Matching.{begins_with}
use Rattle.pep440_rs.proofs.specifier.contains.begins_with.Goals as goal

flip : (a b : ℕ) → (a == b) ≡ (b == a)
flip a b = grind (arith, nat_tests)

regrouped : (a b c : Bool) → a && (b && c) ≡ (a && b) && c
regrouped true b c = refl
regrouped false b c = refl

abbrev are_zeros : List ℕ → Bool
are_zeros rest = list_all (λ n. n == 0) rest

zeros : (rest : List ℕ) → begins_with [] rest ≡ are_zeros rest
zeros [] = refl
zeros (p ∷ rest) = λ i. flip 0 p i && zeros rest i

beyond : (numbers rest : List ℕ) → (0 < length rest → 0 ≡ length numbers) → begins_with numbers rest ≡ are_zeros rest
beyond numbers [] ends = refl
beyond [] (p ∷ rest) ends = zeros (p ∷ rest)
beyond (n ∷ numbers) (p ∷ rest) ends = let none = ends (omega arith) in absurd (omega arith)

begins : (numbers prefix rest : List ℕ) → length prefix ≤ length numbers → (0 < length rest → length prefix ≡ length numbers)
    → begins_with numbers (prefix ++ rest) ≡ pointwise nat_eq prefix (take (length prefix) numbers) && are_zeros rest
begins numbers [] rest inside ends = beyond numbers rest ends
begins [] (x ∷ prefix) rest inside ends = absurd (omega arith)
begins (n ∷ numbers) (x ∷ prefix) rest inside ends =
    (λ i. flip n x i && begins numbers prefix rest (omega arith) (λ more. let all = ends more in omega arith) i)
    ∙ regrouped (x == n) (pointwise nat_eq prefix (take (length prefix) numbers)) (are_zeros rest)

pub returns-then-starts_with : goal.returns-then-starts_with
returns-then-starts_with c =
    let all = all_from_yields_List (λ n. n == 0) _ _ c.all.result c.all.ensures.ran (YieldsList-from_slice c.split_at.result.1.now cc) (λ x b q k. search (rules, tests)) in
    let parts = begins c.args.numbers.now c.split_at.result.0.now c.split_at.result.1.now (omega arith) (λ more. omega arith) in
    all ∙ sym (ap (begins_with c.args.numbers.now) c.split_at.ensures.by_index.0 ∙ parts ∙ ap (λ b. b && are_zeros c.split_at.result.1.now) (sym c.starts_with.ensures.value ∙ c.if-starts_with.true))

pub returns-else-starts_with : goal.returns-else-starts_with
returns-else-starts_with c =
    let parts = begins c.args.numbers.now c.split_at.result.0.now c.split_at.result.1.now (omega arith) (λ more. omega arith) in
    c.if-starts_with.false ∙ sym (ap (begins_with c.args.numbers.now) c.split_at.ensures.by_index.0 ∙ parts ∙ ap (λ b. b && are_zeros c.split_at.result.1.now) (sym c.starts_with.ensures.value ∙ c.if-starts_with.false))
