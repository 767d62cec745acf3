-- Names in their normal form, byte by byte, and clones of them.
use Rattle.std.proofs.Common.{◌≡◌, ◌+◌, ◌∙◌, ℕ, suc, List, [], ◌∷◌, Bool, true, false, cond, refl, sym, ap, arith, inl, inr, map}
use Rattle.std.proofs.lemmas.Bool.{cases_Bool}
use Rattle.std.specs.Char.{to_ascii_lowercase}
use Rattle.std.specs.List.{prefix_len, AllZip}
use Rattle.pep440_version.specs.Grammar.{is_separator}
use Rattle.pep440_version.specs.Reading.{past}
use Rattle.pep440_pick.specs.Names.{normal}

past_one : (c : ℕ) (rest : List ℕ) → is_separator c ≡ true → past is_separator (c ∷ rest) ≡ past is_separator rest
past_one c rest e =
    let step : 1 + prefix_len is_separator rest ≡ suc (prefix_len is_separator rest) = omega arith in
    rw (e, step) refl

past_none : (c : ℕ) (rest : List ℕ) → is_separator c ≡ false → past is_separator (c ∷ rest) ≡ c ∷ rest
past_none c rest e = rw e refl

run_goes_on : (b c : ℕ) (rest : List ℕ) → is_separator b ≡ true → is_separator c ≡ true → normal (b ∷ c ∷ rest) ≡ normal (c ∷ rest)
run_goes_on b c rest e f =
    ap (λ (x : Bool). cond x (cond (is_separator c) (normal (c ∷ rest)) (45 ∷ normal (c ∷ rest))) (to_ascii_lowercase b ∷ normal (c ∷ rest))) e
    ∙ ap (λ (x : Bool). cond x (normal (c ∷ rest)) (45 ∷ normal (c ∷ rest))) f

run_stops : (b c : ℕ) (rest : List ℕ) → is_separator b ≡ true → is_separator c ≡ false → normal (b ∷ c ∷ rest) ≡ 45 ∷ normal (c ∷ rest)
run_stops b c rest e f =
    ap (λ (x : Bool). cond x (cond (is_separator c) (normal (c ∷ rest)) (45 ∷ normal (c ∷ rest))) (to_ascii_lowercase b ∷ normal (c ∷ rest))) e
    ∙ ap (λ (x : Bool). cond x (normal (c ∷ rest)) (45 ∷ normal (c ∷ rest))) f

-- a run of separators is one `-`
pub run_is_one : (b : ℕ) (rest : List ℕ) → is_separator b ≡ true → normal (b ∷ rest) ≡ 45 ∷ normal (past is_separator rest)
run_is_one b [] e = rw e refl
run_is_one b (c ∷ rest) e = elim (cases_Bool (is_separator c)) [
  | inl f ↦ run_goes_on b c rest e f ∙ run_is_one c rest f ∙ ap (λ t. 45 ∷ normal t) (sym (past_one c rest f))
  | inr f ↦ run_stops b c rest e f ∙ ap (λ t. 45 ∷ normal t) (sym (past_none c rest f))
]

-- ---- a clone says the same

pub same_views : {X : Type 0} (view : X → List ℕ) (xs ys : List X) → AllZip (λ x y. view y ≡ view x) xs ys → map view ys ≡ map view xs
same_views view [] [] h = refl
same_views view [] (y ∷ ys) h = elim h [ ]
same_views view (x ∷ xs) [] h = elim h [ ]
same_views view (x ∷ xs) (y ∷ ys) h = λ i. h.0 i ∷ same_views view xs ys h.1 i
