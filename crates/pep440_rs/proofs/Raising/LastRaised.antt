-- The last number of a release, by its place: raised, and left off.
use Rattle.std.proofs.Common.{◌≡◌, ℕ, zero, suc, ◌+◌, ◌-◌, ◌<◌, List, [], ◌∷◌, ◌++◌, length, take, get_or, Option, Some, None, option_map, refl, sym, ap, ◌∙◌, arith}
use Rattle.pep440_rs.specs.Bounds.{raise_last, next_number}
use Rattle.pep440_rs.specs.Matching.{without_last}

twice : {A B C : Type 0} (f : A → B) (g : B → C) (o : Option A) → option_map g (option_map f o) ≡ option_map (λ x. g (f x)) o
twice f g None = refl
twice f g (Some x) = refl

raised_last : (xs : List ℕ) (at : ℕ) → at + 1 ≡ length xs → raise_last xs ≡ option_map (λ n. take at xs ++ n ∷ []) (next_number (get_or xs at 0))
raised_last [] at e = absurd (omega arith)
raised_last (x ∷ []) zero e = refl
raised_last (x ∷ []) (suc at) e = absurd (omega arith)
raised_last (x ∷ y ∷ ys) zero e = absurd (omega arith)
raised_last (x ∷ y ∷ ys) (suc at) e =
    ap (option_map (λ rest. x ∷ rest)) (raised_last (y ∷ ys) at (omega arith)) ∙ twice _ _ (next_number (get_or (y ∷ ys) at 0))

pub without_last_take : (xs : List ℕ) (at : ℕ) → at + 1 ≡ length xs → without_last xs ≡ take at xs
without_last_take [] at e = absurd (omega arith)
without_last_take (x ∷ []) zero e = refl
without_last_take (x ∷ []) (suc at) e = absurd (omega arith)
without_last_take (x ∷ y ∷ ys) zero e = absurd (omega arith)
without_last_take (x ∷ y ∷ ys) (suc at) e = ap (λ l. x ∷ l) (without_last_take (y ∷ ys) at (omega arith))

-- the front and the last number raised are the release raised
pub raised_some : (xs prefix : List ℕ) (next : ℕ) → 0 < length xs → next_number (get_or xs (length xs - 1) 0) ≡ Some next → prefix ≡ take (length xs - 1) xs → raise_last xs ≡ Some (prefix ++ next ∷ [])
raised_some xs prefix next h n f = raised_last xs (length xs - 1) (omega arith) ∙ ap (option_map (λ n. take (length xs - 1) xs ++ n ∷ [])) n ∙ ap (λ l. Some (l ++ next ∷ [])) (sym f)

pub raised_none : (xs : List ℕ) → 0 < length xs → next_number (get_or xs (length xs - 1) 0) ≡ None → raise_last xs ≡ None
raised_none xs h n = raised_last xs (length xs - 1) (omega arith) ∙ ap (option_map (λ n. take (length xs - 1) xs ++ n ∷ [])) n
