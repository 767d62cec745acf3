-- What many writes straight to a formatter wrote.
use Rattle.std.proofs.Common.{◌≡◌, ◌∙◌, ◌++◌, ℕ, List, [], ◌∷◌, Bool, true, false, Option, Some, None, Result, Ok, Err, refl, sym, subst, if◌then◌else◌}
use Rattle.std.proofs.Output.{has_written_styled_append, has_written_styled_nil, has_written_styled_of_eq}
use Rattle.std.specs.Fmt.{DisplaysStyledOnOk, HasWrittenStyled, IsFlush, WritesText, ◌++?◌}
use Rattle.std.specs.List.{FoldsTo, concat}
use Rattle.std.specs.Result.{OnOk}
use Rattle.std.specs.declared.fmt.Error.{Error}
use Rattle.std.specs.declared.fmt.Formatter.{Formatter}

module _ {W D N : Type 0} (took : W → List ℕ → W → Type 0) (form : D → Formatter W) (name : D → N) where
  -- one write of a writer that holds the formatter and goes by a name
  abbrev Straight : D → List ℕ → D → Type 0
  Straight s bs t = (IsFlush (form s) → HasWrittenStyled took (form s) bs (form t)) × (name t ≡ name s)

  wrote_straight : (d : D) (parts : List (List ℕ)) (e : D) → FoldsTo Straight d parts e → IsFlush (form d) → HasWrittenStyled took (form d) (concat parts) (form e) × (name e ≡ name d)
  wrote_straight d [] e h flush = subst (λ x. HasWrittenStyled took (form d) [] (form x) × (name x ≡ name d)) h (has_written_styled_nil took (form d) flush, refl)
  wrote_straight d (bs ∷ parts) e (j, step, rest) flush =
      let first = step.0 flush in
      let later = wrote_straight j parts e rest first.flush in
      (has_written_styled_append took (form d) bs (form j) (concat parts) (form e) first later.0, later.1 ∙ step.1)

  -- the formatter g that the writer at last held has the text that was written
  pub told_straight : (d e : D) (r : Result (Unit {0}) Error) (o : Option (List ℕ)) → OnOk r (WritesText Straight d o e) → (wanted : Option (List ℕ)) → o ≡ wanted → (g : Formatter W) → (name d ≡ name e → g ≡ form e) →
      DisplaysStyledOnOk took (form d) r wanted g
  told_straight d e r o h wanted is g back = subst (λ w. DisplaysStyledOnOk took (form d) r w g) is (go r o h)
    where
      go : (r : Result (Unit {0}) Error) (o : Option (List ℕ)) → OnOk r (WritesText Straight d o e) → DisplaysStyledOnOk took (form d) r o g
      go r None h = tt
      go (Err x) (Some bs) h = λ flush ok. cc ok
      go (Ok x) (Some bs) h = λ flush ok.
          let all = wrote_straight d h.parts e h.calls flush in
          subst (λ k. HasWrittenStyled took (form d) bs k) (sym (back (sym all.1))) (has_written_styled_of_eq took (form d) (concat h.parts) bs (form e) h.whole all.0)

-- a text that may be unknown, between two that are known
pub between : (known : Bool) (a t b : List ℕ) → Some a ++? ((if known then Some t else None) ++? Some b) ≡ (if known then Some (a ++ (t ++ b)) else None)
between true a t b = refl
between false a t b = refl
