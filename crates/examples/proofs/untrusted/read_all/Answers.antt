use Rattle.std.proofs.Common.{Bor, ◌≡◌, ◌+◌, ◌<◌, ℕ, List, [], ◌∷◌, ◌++◌, length, take, get_or, sym, subst}
use Rattle.std.proofs.lemmas.List.{take_more}
use Rattle.std.specs.List.{AllZip}
use Rattle.examples.specs.Versions.{IsVerdict}
use Rattle.examples.proofs.untrusted.read_all.Goals as goal

push : {A B : Type 0} (R : A → B → Type 0) (xs : List A) (ys : List B) (x : A) (y : B) → AllZip R xs ys → R x y → AllZip R (xs ++ x ∷ []) (ys ++ y ∷ [])
push R [] [] x y all one = (one, tt)
push R [] (b ∷ ys) x y all one = absurd all
push R (a ∷ xs) [] x y all one = absurd all
push R (a ∷ xs) (b ∷ ys) x y all one = (all.0, push R xs ys x y all.1 one)

-- one item more, on both sides
more : {A B : Type 0} (R : A → B → Type 0) (xs : List A) (ys new : List B) (i : ℕ) (d : A) (y : B) → i < length xs → new ≡ ys ++ y ∷ [] → AllZip R (take i xs) ys → R (get_or xs i d) y
    → AllZip R (take (i + 1) xs) new
more {A} {B} R xs ys new i d y inside is all one =
    subst (λ (front : List A). AllZip R front new) (sym (take_more xs i d inside))
    (subst (AllZip R (take i xs ++ get_or xs i d ∷ [])) (sym is) (push R (take i xs) ys (get_or xs i d) y all one))

pub loop-text-preserved : goal.loop-text-preserved
loop-text-preserved c =
    more (λ (text : Bor (List ℕ)). IsVerdict text.now) c.args.texts.now c.loop-text.verdicts.items c.push.new.self.items c.loop-text.text-index (record { ref_ptr = (0, 0); now = [] }) c.in_ok-read.field-0
    c.loop-text-test.true c.in_ok-push.ensures.items c.loop-text.invariant c.in_ok-read.ensures
