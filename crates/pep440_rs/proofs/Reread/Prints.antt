-- Prints in parts.
use Rattle.std.proofs.Common.{◌≡◌, ◌≤◌, ◌-◌, ℕ, List, [], ◌∷◌, ◌++◌, false, refl, ap, ◌∙◌, length, take, drop, get_or, codes, arith, ◌+◌, suc, zero, add-one, replicate, sym, Option, Some, None, option_map}
use Rattle.std.proofs.lemmas.List.{append-nil, take_all}
use Rattle.std.specs.List.{flat_map}
use Rattle.std.specs.Prelude.{IfSome}
use Rattle.pep440_version.specs.Print.{print}
use Rattle.pep440_rs.specs.Operators.{is_star, operator_text}
use Rattle.pep440_rs.specs.Specifiers.{Spec, print_spec}
use Rattle.pep440_rs.specs.Lists.{print_list}

pub unstarred : (s : Spec) (o v : List ℕ) → o ≡ operator_text s.operator → v ≡ print s.version → is_star s.operator ≡ false → o ++ v ≡ print_spec s
unstarred s o v eo ev e = rw (eo, ev, e, append-nil (print s.version)) refl

list_prefix_text : (xs : List Spec) (d : Spec) → 1 ≤ length xs
    → print_spec (get_or xs 0 d) ++ flat_map (λ s. codes ", " ++ print_spec s) (take (length xs - 1) (drop 1 xs)) ≡ print_list xs
list_prefix_text [] d some = absurd (omega arith)
list_prefix_text (x ∷ xs) d some =
    let count : length (x ∷ xs) - 1 ≡ length xs = omega arith in
    rw (count, take_all (length xs) xs (omega arith)) refl

-- the first member and, after commas, the others
pub list_prefix : (xs : List Spec) (x : Spec) → x ≡ get_or xs 0 x → 1 ≤ length xs
    → print_spec x ++ flat_map (λ s. codes ", " ++ print_spec s) (take (length xs - 1) (drop 1 xs)) ≡ print_list xs
list_prefix xs x is some = ap (λ y. print_spec y ++ flat_map (λ s. codes ", " ++ print_spec s) (take (length xs - 1) (drop 1 xs))) is ∙ list_prefix_text xs x some

replicate_suc : (n x : ℕ) → replicate n x ++ x ∷ [] ≡ replicate (suc n) x
replicate_suc zero x = refl
replicate_suc (suc n) x = ap (λ l. x ∷ l) (replicate_suc n x)

pub replicate_more : (n x : ℕ) → replicate n x ++ x ∷ [] ≡ replicate (n + 1) x
replicate_more n x = replicate_suc n x ∙ ap (λ k. replicate k x) (sym (add-one n))

-- what holds of a text holds of the text that is made of it
pub mapped : {A B : Type 0} (o : Option A) (g : A → B) (P : A → Type 0) (Q : B → Type 0) → ((a : A) → P a → Q (g a)) → IfSome o P → IfSome (option_map g o) Q
mapped None g P Q all h = tt
mapped (Some a) g P Q all h = all a h
