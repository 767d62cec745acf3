-- Members have exactly one arrangement.
use Rattle.std.proofs.Common.{◌≡◌, ◌<◌, ◌+◌, ◌∙◌, ℕ, suc, List, [], ◌∷◌, Bool, true, false, cond, length, get_or, refl, sym, ap, subst, arith, inl, inr}
use Rattle.std.proofs.lemmas.Bool.{cases_Bool}
use Rattle.std.proofs.lemmas.List.Sorted.{IsPermutation-refl, ranks_by, sorted_far}
use Rattle.std.specs.Cmp.{IsStrictWeakOrder}
use Rattle.std.specs.List.{filter}
use Rattle.std.specs.List.Sorted.{IsSortedBy, ties}
use Rattle.std.specs.Ordering.{is_lt, on}
use Rattle.pep440_version.specs.Key.{record_cmp}
use Rattle.pep440_version.specs.Key.KeyLaws.{record_total}
use Rattle.pep440_version.specs.Record.{Record}
use Rattle.pep440_rs.specs.Arrangement.{Arranges, ArrangesBy, IsArranged, version_cmp}
use Rattle.pep440_rs.specs.Specifiers.{Spec}
use Rattle.pep440_rs.proofs.Arranging.Sorting.{sorted, sorted_same, sorted_stable, sorted_up}

module _ {X : Type 0} (lt : X → X → Bool) (weak : IsStrictWeakOrder lt) where
  not_below_itself : (x : X) → lt x x ≡ false
  not_below_itself x = elim (cases_Bool (lt x x)) [
    | inl e ↦ weak.one_way x x e
    | inr e ↦ e
  ]

  ties_itself : (x : X) → ties lt x x ≡ true
  ties_itself x = rw (not_below_itself x) refl

  -- what is below the least ties with nothing
  ties_nothing : (x y z : X) → lt x y ≡ true → lt z y ≡ false → ties lt x z ≡ false
  ties_nothing x y z below least = elim (cases_Bool (lt x z)) [
    | inl e ↦ rw e refl
    | inr e ↦ let far = weak.chain x z y e least in cc (below, far)
  ]

  filter_none : (p : X → Bool) (zs : List X) → ((k : ℕ) (d : X) → k < length zs → p (get_or zs k d) ≡ false) → filter p zs ≡ []
  filter_none p [] none = refl
  filter_none p (z ∷ zs) none = rw (none 0 z (omega arith)) (filter_none p zs (λ k d lt. none (suc k) d (omega (arith, lt))))

  later_sorted : (x : X) (xs : List X) → IsSortedBy lt (x ∷ xs) → IsSortedBy lt xs
  later_sorted x xs up k d low high =
      let at : suc k + 1 ≡ suc (k + 1) = omega arith in
      subst (λ n. lt (get_or (x ∷ xs) n d) (get_or xs k d) ≡ false) at (up (suc k) d (omega arith) (omega (arith, high)))

  -- the first of a list is not below that of another whose ties it shares
  not_below : (x y : X) (xs ys : List X) → IsSortedBy lt (y ∷ ys) → filter (ties lt x) (x ∷ xs) ≡ filter (ties lt x) (y ∷ ys) → lt x y ≡ false
  not_below x y xs ys up same = elim (cases_Bool (lt x y)) [
    | inl e ↦
        let none = filter_none (ties lt x) (y ∷ ys) (λ k d high. ties_nothing x y (get_or (y ∷ ys) k d) e (sorted_far lt weak (y ∷ ys) up 0 k d (omega arith) high)) in
        let some = rw (ties_itself x) at same in
        cc (some, none)
    | inr e ↦ e
  ]

  same_tail : (b : Bool) (x y : X) (f g : List X) → x ≡ y → cond b (x ∷ f) f ≡ cond b (y ∷ g) g → f ≡ g
  same_tail true x y f g e h = cc
  same_tail false x y f g e h = h

  pub same_by_ties : (xs ys : List X) → IsSortedBy lt xs → IsSortedBy lt ys → ((z : X) → filter (ties lt z) xs ≡ filter (ties lt z) ys) → xs ≡ ys
  same_by_ties [] [] up down same = refl
  same_by_ties [] (y ∷ ys) up down same = let h = rw (ties_itself y) at (same y) in cc h
  same_by_ties (x ∷ xs) [] up down same = let h = rw (ties_itself x) at (same x) in cc h
  same_by_ties (x ∷ xs) (y ∷ ys) up down same =
      let xy : lt x y ≡ false = not_below x y xs ys down (same x) in
      let yx : lt y x ≡ false = not_below y x ys xs up (sym (same y)) in
      let tie : ties lt x y ≡ true = rw (xy, yx) refl in
      let heads = rw (ties_itself x, tie) at (same x) in
      let head : x ≡ y = cc heads in
      let tails : (z : X) → filter (ties lt z) xs ≡ filter (ties lt z) ys =
      λ z. same_tail (ties lt z x) x y (filter (ties lt z) xs) (filter (ties lt z) ys) head (same z ∙ ap (λ w. cond (ties lt z w) (y ∷ filter (ties lt z) ys) (filter (ties lt z) ys)) (sym head)) in
      let rest = same_by_ties xs ys (later_sorted x xs up) (later_sorted y ys down) tails in
      λ i. head i ∷ rest i

-- whatever is ordered by its version
pub one_arrangement_by : {X : Type 0} (version : X → Record) (given a b : List X) → ArrangesBy (on version record_cmp) given a → ArrangesBy (on version record_cmp) given b → a ≡ b
one_arrangement_by {X} version given a b h g =
    same_by_ties (λ (x y : X). is_lt (record_cmp (version x) (version y))) (ranks_by record_total version) a b h.rises g.rises (λ z. h.stable z ∙ sym (g.stable z))

pub one_arrangement : (members a b : List Spec) → Arranges members a → Arranges members b → a ≡ b
one_arrangement members a b h g = one_arrangement_by (λ (s : Spec). s.version) members a b h g

pub arranged_again : (list : List Spec) → IsArranged list → Arranges list list
arranged_again list up = record { same = IsPermutation-refl list; rises = up; stable = λ x. refl }

-- one arrangement there is
pub some_arrangement : (members : List Spec) → (l : List Spec) × Arranges members l
some_arrangement members =
    let below : Spec → Spec → Bool = λ x y. is_lt (version_cmp x y) in
    let weak = ranks_by record_total (λ (s : Spec). s.version) in
    (sorted below members, record { same = sorted_same below members; rises = sorted_up below weak members; stable = sorted_stable below weak members })
