-- The releases above one.
use Rattle.std.proofs.Common.{◌≡◌, ◌<◌, ◌≤◌, ◌+◌, ◌-◌, ◌∙◌, ℕ, zero, suc, List, [], ◌∷◌, ◌++◌, append_assoc, length, get_or, drop, take, refl, sym, ap, arith, Option, Some, None, option_map}
use Rattle.std.proofs.lemmas.List.{take_more}
use Rattle.std.specs.Option.{option_map_or}
use Rattle.pep440_rs.specs.Bounds.{next_number}
use Rattle.pep440_sets.specs.NextVersions.{raised_release}
use Rattle.pep440_sets.specs.Witnesses.{release_above}

-- one number more
one_more : (k i : ℕ) (release : List ℕ) → release_above (suc k) (drop i release) ≡ get_or release i 0 ∷ release_above k (drop (i + 1) release)
one_more k zero [] = refl
one_more k zero (n ∷ rest) = refl
one_more k (suc i) [] = let at : suc i + 1 ≡ suc (i + 1) = omega arith in ap (λ m. 0 ∷ release_above k (drop m [])) (sym at)
one_more k (suc i) (n ∷ rest) = let at : suc i + 1 ≡ suc (i + 1) = omega arith in one_more k i rest ∙ ap (λ m. get_or rest i 0 ∷ release_above k (drop m (n ∷ rest))) (sym at)

pub pushed : (depth i : ℕ) (release done : List ℕ) → i < depth → (done ++ get_or release i 0 ∷ []) ++ release_above (depth - (i + 1)) (drop (i + 1) release) ≡ done ++ release_above (depth - i) (drop i release)
pushed depth i release done below =
    let left : depth - i ≡ suc (depth - (i + 1)) = omega arith in
    append_assoc done (get_or release i 0 ∷ []) (release_above (depth - (i + 1)) (drop (i + 1) release))
    ∙ ap (λ l. done ++ l) (sym (ap (λ k. release_above k (drop i release)) left ∙ one_more (depth - (i + 1)) i release))

single : (o : Option ℕ) → option_map (λ m. m ∷ []) o ≡ option_map_or (λ m. Some (m ∷ [])) o None
single None = refl
single (Some m) = refl

after_front : (x : ℕ) (front : List ℕ) (after : Option (List ℕ)) (o : Option ℕ) (other : Option (List ℕ)) →
    option_map_or (λ rest. Some (x ∷ rest)) (option_map_or (λ m. Some (front ++ m ∷ [])) o after) other
    ≡ option_map_or (λ m. Some (x ∷ front ++ m ∷ [])) o (option_map_or (λ rest. Some (x ∷ rest)) after other)
after_front x front after None other = refl
after_front x front after (Some m) other = refl

-- the last number is raised, or the numbers before it decide
after_last : (front : List ℕ) (n : ℕ) → raised_release (front ++ n ∷ []) ≡ option_map_or (λ m. Some (front ++ m ∷ [])) (next_number n) (raised_release front)
after_last [] n = single (next_number n)
after_last (x ∷ front) n =
    ap (λ after. option_map_or (λ rest. Some (x ∷ rest)) after (option_map (λ m. m ∷ []) (next_number x))) (after_last front n)
    ∙ after_front x front (raised_release front) (next_number n) (option_map (λ m. m ∷ []) (next_number x))

after_at : (release : List ℕ) (n : ℕ) → 0 < n → n ≤ length release → raised_release (take n release) ≡ option_map_or (λ m. Some (take (n - 1) release ++ m ∷ [])) (next_number (get_or release (n - 1) 0)) (raised_release (take (n - 1) release))
after_at release n some inside =
    let at : (n - 1) + 1 ≡ n = omega arith in
    let below : n - 1 < length release = omega arith in
    ap (λ m. raised_release (take m release)) (sym at) ∙ ap raised_release (take_more release (n - 1) 0 below) ∙ after_last (take (n - 1) release) (get_or release (n - 1) 0)

-- the last of so many numbers is raised
pub raised_at : (release : List ℕ) (n next : ℕ) → 0 < n → n ≤ length release → raised_release release ≡ raised_release (take n release) → next_number (get_or release (n - 1) 0) ≡ Some next →
    Some (take (n - 1) release ++ next ∷ []) ≡ raised_release release
raised_at release n next some inside same is =
    sym (same ∙ after_at release n some inside ∙ ap (λ o. option_map_or (λ m. Some (take (n - 1) release ++ m ∷ [])) o (raised_release (take (n - 1) release))) is)

-- it is the greatest number
pub greatest_at : (release : List ℕ) (n : ℕ) → 0 < n → n ≤ length release → raised_release release ≡ raised_release (take n release) → next_number (get_or release (n - 1) 0) ≡ None →
    raised_release release ≡ raised_release (take (n - 1) release)
greatest_at release n some inside same is =
    same ∙ after_at release n some inside ∙ ap (λ o. option_map_or (λ m. Some (take (n - 1) release ++ m ∷ [])) o (raised_release (take (n - 1) release))) is
