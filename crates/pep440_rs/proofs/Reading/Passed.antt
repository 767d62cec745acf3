-- What an error was that a call passed on, or that was made another.
use Rattle.std.proofs.Common.{◌≡◌, Result, Ok, Err, refl, sym, ap, subst, ◌∙◌}
use Rattle.std.specs.Prelude.{IsErrAnd, MatchResult}

-- an error passed on
pub passed : {T E : Type 0} (Q : Result T E → Type 0) (result : Result T E) (e : E) → IsErrAnd result (λ x. x ≡ e) → Q (Err e) → Q result
passed Q (Ok x) e none h = absurd none
passed Q (Err x) e same h = subst (λ y. Q (Err y)) (sym same) h

-- what was read, where its error was made another
module _ {T E D : Type 0} (read : Result T E) (made : Result T D) (Post : E → D → Type 0) (is : MatchResult read (λ y. made ≡ Ok y) (λ e. IsErrAnd made (Post e))) where
  pub mapped_value : (x : T) → made ≡ Ok x → read ≡ Ok x
  mapped_value x at = go read is
    where
      inside : (y : T) → (let r : Result T D = Ok y in r) ≡ Ok x → y ≡ x
      inside y h = cc h

      go : (r : Result T E) → MatchResult r (λ y. made ≡ Ok y) (λ e. IsErrAnd made (Post e)) → r ≡ Ok x
      go (Ok y) h = ap Ok (inside y (sym h ∙ at))
      go (Err e) h = absurd (subst (λ m. IsErrAnd m (Post e)) at h)

  pub mapped_error : (d : D) → made ≡ Err d → (e : E) × (read ≡ Err e) × Post e d
  mapped_error d at = go read is refl
    where
      apart : (y : T) → (let r : Result T D = Ok y in r) ≡ Err d → ⊥
      apart y h = cc h

      go : (r : Result T E) → MatchResult r (λ y. made ≡ Ok y) (λ e. IsErrAnd made (Post e)) → read ≡ r → (e : E) × (read ≡ Err e) × Post e d
      go (Ok y) h is_r = absurd (apart y (sym h ∙ at))
      go (Err e) h is_r = (e, is_r, subst (λ m. IsErrAnd m (Post e)) at h)
