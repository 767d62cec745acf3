-- Each list has a sorted one of the same elements in which ties keep their order.
use Rattle.std.proofs.Common.{◌≡◌, ◌<◌, ◌+◌, ◌∙◌, zero, suc, List, [], ◌∷◌, Bool, true, false, not, ◌&&◌, cond, length, get_or, refl, ap, subst, arith}
use Rattle.std.proofs.lemmas.List.Sorted.{IsPermutation-refl, IsPermutation-cons, IsPermutation-middle, IsPermutation-trans}
use Rattle.std.specs.Cmp.{IsStrictWeakOrder}
use Rattle.std.specs.List.{filter}
use Rattle.std.specs.List.Sorted.{IsPermutation, IsSortedBy, IsStableBy, ties}

module _ {X : Type 0} (lt : X → X → Bool) where
  -- x before the first element that is not below it
  put : X → List X → List X
  put x [] = x ∷ []
  put x (y ∷ ys) = cond (lt y x) (y ∷ put x ys) (x ∷ y ∷ ys)

  pub sorted : List X → List X
  sorted [] = []
  sorted (x ∷ xs) = put x (sorted xs)

  put_same_by : (b : Bool) (x y : X) (ys zs : List X) → IsPermutation (x ∷ ys) zs → IsPermutation (x ∷ y ∷ ys) (cond b (y ∷ zs) (x ∷ y ∷ ys))
  put_same_by true x y ys zs h = IsPermutation-trans _ _ _ (IsPermutation-middle (x ∷ []) y ys) (IsPermutation-cons y (x ∷ ys) zs h)
  put_same_by false x y ys zs h = IsPermutation-refl (x ∷ y ∷ ys)

  put_same : (x : X) (ys : List X) → IsPermutation (x ∷ ys) (put x ys)
  unfolding put
  put_same x [] = IsPermutation-refl (x ∷ [])
  put_same x (y ∷ ys) = put_same_by (lt y x) x y ys (put x ys) (put_same x ys)

  pub sorted_same : (xs : List X) → IsPermutation xs (sorted xs)
  unfolding sorted
  sorted_same [] = IsPermutation-refl []
  sorted_same (x ∷ xs) = IsPermutation-trans _ _ _ (IsPermutation-cons x xs (sorted xs) (sorted_same xs)) (put_same x (sorted xs))

  module _ (weak : IsStrictWeakOrder lt) where
    -- ---- ascending

    -- the first of the list, if there is one, is not below x
    abbrev Above : X → List X → Type 0
    Above x ys = (d : X) → 0 < length ys → lt (get_or ys 0 d) x ≡ false

    up_cons : (x : X) (ys : List X) → Above x ys → IsSortedBy lt ys → IsSortedBy lt (x ∷ ys)
    up_cons x ys first up zero d low high = first d (omega (arith, high))
    up_cons x ys first up (suc k) d low high =
        let at : suc (k + 1) ≡ suc k + 1 = omega arith in
        subst (λ n. lt (get_or (x ∷ ys) n d) (get_or ys k d) ≡ false) at (up k d (omega arith) (omega (arith, high)))

    first_up : (y : X) (ys : List X) → IsSortedBy lt (y ∷ ys) → Above y ys
    first_up y ys up d some = up 0 d (omega arith) (omega (arith, some))

    later_up : (y : X) (ys : List X) → IsSortedBy lt (y ∷ ys) → IsSortedBy lt ys
    later_up y ys up k d low high =
        let at : suc k + 1 ≡ suc (k + 1) = omega arith in
        subst (λ n. lt (get_or (y ∷ ys) n d) (get_or ys k d) ≡ false) at (up (suc k) d (omega arith) (omega (arith, high)))

    put_first : (x y : X) (ys : List X) → lt x y ≡ false → Above y ys → Above y (put x ys)
    unfolding put
    put_first x y [] h first = λ d some. h
    put_first x y (z ∷ ys) h first = go (lt z x)
      where
        go : (b : Bool) (d : X) → 0 < length (cond b (z ∷ put x ys) (x ∷ z ∷ ys)) → lt (get_or (cond b (z ∷ put x ys) (x ∷ z ∷ ys)) 0 d) y ≡ false
        go true d some = first d (omega arith)
        go false d some = h

    put_up_by : (b : Bool) (x y : X) (ys zs : List X) → lt y x ≡ b → (lt x y ≡ false → Above y zs) → IsSortedBy lt zs → IsSortedBy lt (y ∷ ys) → IsSortedBy lt (cond b (y ∷ zs) (x ∷ y ∷ ys))
    put_up_by true x y ys zs e first later up = up_cons y zs (first (weak.one_way y x e)) later
    put_up_by false x y ys zs e first later up = up_cons x (y ∷ ys) (λ d some. e) up

    put_up : (x : X) (ys : List X) → IsSortedBy lt ys → IsSortedBy lt (put x ys)
    unfolding put
    put_up x [] up = up_cons x [] (λ d some. absurd (omega (arith, some))) up
    put_up x (y ∷ ys) up = put_up_by (lt y x) x y ys (put x ys) refl (λ h. put_first x y ys h (first_up y ys up)) (put_up x ys (later_up y ys up)) up

    pub sorted_up : (xs : List X) → IsSortedBy lt (sorted xs)
    unfolding sorted
    sorted_up [] = λ k d low high. absurd (omega (arith, high))
    sorted_up (x ∷ xs) = put_up x (sorted xs) (sorted_up xs)

    -- ---- ties keep their order

    -- what ties with z is not below what does
    tied : (z y x : X) → ties lt z y ≡ true → ties lt z x ≡ true → lt y x ≡ false
    tied z y x h g = weak.chain y z x (second (lt z y) (lt y z) h) (first (lt z x) (lt x z) g)
      where
        second : (a b : Bool) → not a && not b ≡ true → b ≡ false
        second true b h = cc h
        second false true h = cc h
        second false false h = refl

        first : (a b : Bool) → not a && not b ≡ true → a ≡ false
        first true b h = cc h
        first false b h = refl

    -- two neighbours of which at most one is kept may change places
    change : (p q : Bool) (x y : X) (rest : List X) → (p ≡ true → q ≡ true → ⊥) → cond q (y ∷ cond p (x ∷ rest) rest) (cond p (x ∷ rest) rest) ≡ cond p (x ∷ cond q (y ∷ rest) rest) (cond q (y ∷ rest) rest)
    change true true x y rest never = absurd (never refl refl)
    change true false x y rest never = refl
    change false true x y rest never = refl
    change false false x y rest never = refl

    put_stable_by : (b : Bool) (z x y : X) (ys zs : List X) → lt y x ≡ b → filter (ties lt z) zs ≡ filter (ties lt z) (x ∷ ys) →
        filter (ties lt z) (cond b (y ∷ zs) (x ∷ y ∷ ys)) ≡ filter (ties lt z) (x ∷ y ∷ ys)
    put_stable_by true z x y ys zs e h =
        ap (λ l. cond (ties lt z y) (y ∷ l) l) h
        ∙ change (ties lt z x) (ties lt z y) x y (filter (ties lt z) ys) (λ p q. let no = tied z y x q p in cc (e, no))
    put_stable_by false z x y ys zs e h = refl

    put_stable : (z x : X) (ys : List X) → filter (ties lt z) (put x ys) ≡ filter (ties lt z) (x ∷ ys)
    unfolding put
    put_stable z x [] = refl
    put_stable z x (y ∷ ys) = put_stable_by (lt y x) z x y ys (put x ys) refl (put_stable z x ys)

    pub sorted_stable : (xs : List X) → IsStableBy lt xs (sorted xs)
    unfolding sorted
    sorted_stable [] z = refl
    sorted_stable (x ∷ xs) z = put_stable z x (sorted xs) ∙ ap (λ l. cond (ties lt z x) (x ∷ l) l) (sorted_stable xs z)
