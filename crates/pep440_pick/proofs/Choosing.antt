-- The greatest of the items so far, and one item more; and that there is one greatest.
use Rattle.std.proofs.Common.{◌≡◌, ◌<◌, ◌∙◌, ℕ, List, [], ◌∷◌, ◌++◌, true, false, length, Option, Some, None, refl, sym, ap, subst, arith, append_assoc}
use Rattle.std.proofs.lemmas.List.{length-append}
use Rattle.std.proofs.lemmas.List.Elements.{All-append, All-cons, All-head, All-nil, All-push, All-tail, All-weaker}
use Rattle.std.specs.Cmp.{IsTotalOrder}
use Rattle.std.specs.List.{All}
use Rattle.std.specs.Ordering.{is_le, is_lt, ordering_reverse}
use Rattle.std.specs.Prelude.{IsTrue}
use Rattle.std.specs.declared.cmp.Ordering.{Ordering}
use Rattle.std.specs.declared.cmp.Ordering.TheVariants.{Less, Equal, Greater}
use Rattle.pep440_pick.specs.Newest.{Greatest, IsGreatest, is_above}

is_less : (r : Ordering) → is_lt r ≡ true → r ≡ Less
is_less Less e = refl
is_less Equal e = cc e
is_less Greater e = cc e

flipped : (r : Ordering) → is_lt r ≡ false → is_le (ordering_reverse r) ≡ true
flipped Less e = cc e
flipped Equal e = refl
flipped Greater e = refl

turned : (r : Ordering) → is_lt r ≡ true → is_le (ordering_reverse r) ≡ true → ⊥
turned Less e h = cc h
turned Equal e h = cc e
turned Greater e h = cc e

weak : (r : Ordering) → is_lt r ≡ true → is_le r ≡ true
weak Less e = refl
weak Equal e = refl
weak Greater e = cc e

tails : {A : Type 0} (a b : A) (xs ys : List A) → a ∷ xs ≡ b ∷ ys → xs ≡ ys
tails a b xs ys e = cc e

inside_of : {A : Type 0} (before : List A) (x : A) (after : List A) (P : A → Type 0) → All P (before ++ (x ∷ after)) → P x
inside_of [] x after P h = All-head P x after h
inside_of (y ∷ before) x after P h = inside_of before x after P (All-tail P y (before ++ (x ∷ after)) h)

-- an item has at most one value
module _ {A K : Type 0} (Has : A → K → Type 0) (only : (a : A) (j k : K) → Has a j → Has a k → j ≡ k) (order : K → K → Ordering) (total : IsTotalOrder order) where
  less_after : (x y z : K) → is_le (order x y) ≡ true → is_lt (order y z) ≡ true → is_lt (order x z) ≡ true
  less_after x y z le lt = go (order x y) refl le
    where
      go : (r : Ordering) → order x y ≡ r → is_le r ≡ true → is_lt (order x z) ≡ true
      go Less e h = ap is_lt (total.trans x y z e (is_less (order y z) lt))
      go Equal e h = ap is_lt (total.congr x y z e) ∙ lt
      go Greater e h = cc h

  apart : (v w : K) → is_lt (order v w) ≡ true → is_le (order w v) ≡ true → ⊥
  apart v w lt le = turned (order v w) lt (ap is_le (sym (total.antisymm w v)) ∙ le)

  abbrev IsBelow : K → A → Type 0
  IsBelow v a = (k : K) → Has a k → IsTrue (is_lt (order k v))

  abbrev IsUpTo : K → A → Type 0
  IsUpTo v a = (k : K) → Has a k → IsTrue (is_le (order k v))

  all_below : (seen : List A) (v : K) (greatest : Option (ℕ × K)) → Greatest Has order seen greatest → is_above order greatest v ≡ true → All (IsBelow v) seen
  all_below seen v None none above = All-weaker (λ a. (k : K) → ¬ (Has a k)) (IsBelow v) (λ a out k has. absurd (out k has)) seen none
  all_below seen v (Some (position, w)) n above =
      subst (All (IsBelow v)) (sym n.split)
      (All-append (IsBelow v) n.before (n.item ∷ n.after)
      (All-weaker (IsBelow w) (IsBelow v) (λ a below k has. less_after k w v (weak (order k w) (below k has)) above) n.before n.above)
      (All-cons (IsBelow v) n.item n.after (λ k has. subst (λ x. is_lt (order x v) ≡ true) (only n.item w k n.has has) above)
      (All-weaker (IsUpTo w) (IsBelow v) (λ a upto k has. less_after k w v (upto k has) above) n.after n.greatest)))

  -- an item whose value is above the greatest so far
  pub found_more : (seen : List A) (a : A) (v : K) (greatest : Option (ℕ × K)) → Greatest Has order seen greatest → Has a v → is_above order greatest v ≡ true → IsGreatest Has order (seen ++ a ∷ []) (length seen) v
  found_more seen a v greatest g has above = record {
    before = seen;
    item = a;
    after = [];
    split = refl;
    at = refl;
    has = has;
    above = all_below seen v greatest g above;
    greatest = All-nil (IsUpTo v);
  }

  -- one that has no value, or one that is not above it
  pub kept_more : (seen : List A) (a : A) (greatest : Option (ℕ × K)) → Greatest Has order seen greatest → ((k : K) → Has a k → is_above order greatest k ≡ false) → Greatest Has order (seen ++ a ∷ []) greatest
  kept_more seen a None none out = All-push (λ a. (k : K) → ¬ (Has a k)) seen a none (λ k has. cc (out k has))
  kept_more seen a (Some (position, w)) n out = record {
    before = n.before;
    item = n.item;
    after = n.after ++ a ∷ [];
    split = ap (λ (l : List A). l ++ a ∷ []) n.split ∙ append_assoc n.before (n.item ∷ n.after) (a ∷ []);
    at = n.at;
    has = n.has;
    above = n.above;
    greatest = All-push (IsUpTo w) n.after a n.greatest (λ k has. ap is_le (total.antisymm k w) ∙ flipped (order w k) (out k has));
  }

  pub inside : (items : List A) (position : ℕ) (v : K) → IsGreatest Has order items position v → position < length items
  inside items position v n = let long = ap length n.split ∙ length-append n.before (n.item ∷ n.after) in let at = n.at in omega (arith, long, at)

  -- ---- there is one

  not_none : (items : List A) (position : ℕ) (v : K) → IsGreatest Has order items position v → Greatest Has order items None → ⊥
  not_none items position v n none = inside_of n.before n.item n.after (λ a. (k : K) → ¬ (Has a k)) (subst (All (λ a. (k : K) → ¬ (Has a k))) n.split none) v n.has

  one_of : (before there : List A) (x y : A) (after behind : List A) (v w : K) → before ++ (x ∷ after) ≡ there ++ (y ∷ behind) → Has x v → Has y w
      → All (IsBelow v) before → All (IsUpTo v) after → All (IsBelow w) there → All (IsUpTo w) behind → (length before ≡ length there) × (v ≡ w)
  one_of [] [] x y after behind v w e has holds above greatest below upto = let same : x ≡ y = cc e in (refl, only y v w (subst (λ a. Has a v) same has) holds)
  one_of [] (z ∷ there) x y after behind v w e has holds above greatest below upto =
      let first : x ≡ z = cc e in
      let rest = tails x z after (there ++ (y ∷ behind)) e in
      absurd (apart v w (All-head (IsBelow w) z there below v (subst (λ a. Has a v) first has)) (inside_of there y behind (IsUpTo v) (subst (All (IsUpTo v)) rest greatest) w holds))
  one_of (z ∷ before) [] x y after behind v w e has holds above greatest below upto =
      let first : z ≡ y = cc e in
      let rest = tails z y (before ++ (x ∷ after)) behind e in
      absurd (apart w v (All-head (IsBelow v) z before above w (subst (λ a. Has a w) (sym first) holds)) (inside_of before x after (IsUpTo w) (subst (All (IsUpTo w)) (sym rest) upto) v has))
  one_of (z ∷ before) (u ∷ there) x y after behind v w e has holds above greatest below upto =
      let one = one_of before there x y after behind v w (tails z u (before ++ (x ∷ after)) (there ++ (y ∷ behind)) e) has holds (All-tail (IsBelow v) z before above) greatest (All-tail (IsBelow w) u there below) upto in
      (omega (arith, one.0), one.1)

  pub one_greatest : (items : List A) (a b : Option (ℕ × K)) → Greatest Has order items a → Greatest Has order items b → a ≡ b
  one_greatest items None None h k = refl
  one_greatest items None (Some (j, w)) h k = absurd (not_none items j w k h)
  one_greatest items (Some (i, v)) None h k = absurd (not_none items i v h k)
  one_greatest items (Some (i, v)) (Some (j, w)) h k =
      let one = one_of h.before k.before h.item k.item h.after k.after v w (sym h.split ∙ k.split) h.has k.has h.above h.greatest k.above k.greatest in
      let same : i ≡ j = sym h.at ∙ one.0 ∙ k.at in
      λ n. Some (same n, one.1 n)
