-- Lists of elements that are seen through a function, step by step, and their groups by names.
use Rattle.std.proofs.Common.{arith, Bool, List, None, Option, Some, [], ap, bytes_eq, cond, drop, eqb-true, false, get_or, if◌then◌else◌, length, map, refl, sym, take, true, ℕ, ◌++◌, ◌+◌, ◌<◌, ◌==◌, ◌||◌, ◌∙◌, ◌∷◌, ◌≡◌, IfOk, Result}
use Rattle.std.proofs.lemmas.Bool.{true≢false}
use Rattle.std.proofs.lemmas.List.{append-nil, drop_more, map-append, take_more, append_assoc}
use Rattle.std.proofs.lemmas.List.Elements.{filter-append}
use Rattle.std.proofs.lemmas.Slice.Eq.{bytes_eq-Decides}
use Rattle.std.specs.List.{filter, list_any, flat_map}
use Rattle.std.proofs.lemmas.Result.{IfOk-weaker}
use Rattle.std.specs.Global.{Vec}

-- a list without elements
pub is_nil : {X : Type 0} (xs : List X) → (length xs == 0) ≡ true → xs ≡ []
is_nil [] e = refl
is_nil (x ∷ xs) e = let none : length (x ∷ xs) ≡ 0 = eqb-true (length (x ∷ xs)) 0 e in absurd (omega (arith, none))

-- the rest of a list at an element
pub rest_at : {X : Type 0} (xs : List X) (i : ℕ) (x : X) → i < length xs → x ≡ get_or xs i x → drop i xs ≡ x ∷ drop (i + 1) xs
rest_at xs i x inside is = drop_more xs i x inside ∙ ap (λ y. y ∷ drop (i + 1) xs) (sym is)

-- one is so of what is seen of some
pub any_viewed : {X Y : Type 0} (p : Y → Bool) (view : X → Y) (xs : List X) → list_any p (map view xs) ≡ list_any (λ x. p (view x)) xs
any_viewed p view [] = refl
any_viewed p view (x ∷ xs) = ap (λ b. p (view x) || b) (any_viewed p view xs)

-- two strings are the same in either order
swap_by : (m n : List ℕ) (b c : Bool) → bytes_eq m n ≡ b → bytes_eq n m ≡ c → b ≡ c
swap_by m n true true e f = refl
swap_by m n true false e f = absurd (true≢false (sym ((bytes_eq-Decides n m).1 (sym ((bytes_eq-Decides m n).0 e))) ∙ f))
swap_by m n false true e f = absurd (true≢false (sym ((bytes_eq-Decides m n).1 (sym ((bytes_eq-Decides n m).0 f))) ∙ e))
swap_by m n false false e f = refl

pub swap : (m n : List ℕ) → bytes_eq m n ≡ bytes_eq n m
swap m n = swap_by m n (bytes_eq m n) (bytes_eq n m) refl refl

-- something is added to the group of its name, which is taken out and put back
module _ {X D : Type 0} (f : Option X → List D) (name q : List ℕ) (x : D) (old taken new : List ℕ → Option X) (group : Option X) (value : X) where
  added_by : (b : Bool) → bytes_eq name q ≡ b → group ≡ old name → f (Some value) ≡ f group ++ x ∷ [] → taken q ≡ cond (bytes_eq name q) None (old q)
      → new q ≡ cond (bytes_eq name q) (Some value) (taken q) → f (new q) ≡ f (old q) ++ (if bytes_eq q name then x ∷ [] else [])
  added_by true e is more out back =
      let same : name ≡ q = (bytes_eq-Decides name q).0 e in
      ap f (back ∙ ap (λ b. cond b (Some value) (taken q)) e) ∙ more ∙ ap (λ g. f g ++ x ∷ []) (is ∙ ap old same) ∙ ap (λ b. f (old q) ++ (if b then x ∷ [] else [])) (sym (swap q name ∙ e))
  added_by false e is more out back =
      ap f (back ∙ ap (λ b. cond b (Some value) (taken q)) e ∙ out ∙ ap (λ b. cond b None (old q)) e) ∙ sym (append-nil (f (old q)))
      ∙ ap (λ b. f (old q) ++ (if b then x ∷ [] else [])) (sym (swap q name ∙ e))

  pub added : group ≡ old name → f (Some value) ≡ f group ++ x ∷ [] → taken q ≡ cond (bytes_eq name q) None (old q) → new q ≡ cond (bytes_eq name q) (Some value) (taken q)
      → f (new q) ≡ f (old q) ++ (if bytes_eq q name then x ∷ [] else [])
  added is more out back = added_by (bytes_eq name q) refl is more out back

-- one more in a group, of those that pass the test
pub chosen_more : {L D : Type 0} (view : L → D) (has : D → Bool) (xs : List L) (i : ℕ) (x : L) (old new : List D) → i < length xs → x ≡ get_or xs i x → new ≡ old ++ (if has (view x) then view x ∷ [] else [])
    → old ≡ filter has (map view (take i xs)) → new ≡ filter has (map view (take (i + 1) xs))
chosen_more view has xs i x old new inside is changed was =
    let before = map view (take i xs) in
    let taken : map view (take (i + 1) xs) ≡ before ++ view x ∷ [] = ap (map view) (take_more xs i x inside ∙ ap (λ y. take i xs ++ y ∷ []) (sym is)) ∙ map-append view (take i xs) (x ∷ []) in
    changed ∙ ap (λ o. o ++ (if has (view x) then view x ∷ [] else [])) was ∙ sym (filter-append has before (view x ∷ [])) ∙ ap (filter has) (sym taken)

-- one more in a group, by its name
pub grouped_more : {L D : Type 0} (view : L → D) (name_of : D → List ℕ) (q : List ℕ) (xs : List L) (i : ℕ) (x : L) (old new : List D) → i < length xs → x ≡ get_or xs i x
    → new ≡ old ++ (if bytes_eq q (name_of (view x)) then view x ∷ [] else []) → old ≡ filter (λ a. bytes_eq q (name_of a)) (map view (take i xs))
    → new ≡ filter (λ a. bytes_eq q (name_of a)) (map view (take (i + 1) xs))
grouped_more view name_of q xs i x old new inside is changed was = chosen_more view (λ a. bytes_eq q (name_of a)) xs i x old new inside is changed was

-- what is made of one element more
pub one_more : {X A B : Type 0} (view : X → A) (f : A → List B) (xs : List X) (i : ℕ) (x : X) (old new total : List B) → i < length xs → x ≡ get_or xs i x → new ≡ old ++ f (view x)
    → old ++ flat_map f (map view (drop i xs)) ≡ total → new ++ flat_map f (map view (drop (i + 1) xs)) ≡ total
one_more view f xs i x old new total inside is more so =
    ap (λ n. n ++ flat_map f (map view (drop (i + 1) xs))) more ∙ append_assoc old (f (view x)) (flat_map f (map view (drop (i + 1) xs)))
    ∙ ap (λ r. old ++ flat_map f (map view r)) (sym (rest_at xs i x inside is)) ∙ so

-- one blank more
pub blanks_more : (xs : List ℕ) (i : ℕ) (old new total : List ℕ) → i < length xs → new ≡ old ++ 32 ∷ [] → old ++ map (λ _. 32) (drop i xs) ≡ total → new ++ map (λ _. 32) (drop (i + 1) xs) ≡ total
blanks_more xs i old new total inside more so =
    ap (λ n. n ++ map (λ _. 32) (drop (i + 1) xs)) more ∙ append_assoc old (32 ∷ []) (map (λ _. 32) (drop (i + 1) xs)) ∙ ap (λ r. old ++ map (λ _. 32) r) (sym (drop_more xs i 0 inside)) ∙ so

-- ---- parts that are written one after another

regroup : (o a b c d e f : List ℕ) → (((((o ++ a) ++ b) ++ c) ++ d) ++ e) ++ f ≡ o ++ (a ++ (b ++ (c ++ (d ++ (e ++ f)))))
regroup o a b c d e f = simp append_assoc

pub six_parts : (o a b c d e f n1 n2 n3 n4 n5 n6 : List ℕ) → n1 ≡ o ++ a → n2 ≡ n1 ++ b → n3 ≡ n2 ++ c → n4 ≡ n3 ++ d → n5 ≡ n4 ++ e → n6 ≡ n5 ++ f → n6 ≡ o ++ (a ++ (b ++ (c ++ (d ++ (e ++ f)))))
six_parts o a b c d e f n1 n2 n3 n4 n5 n6 e1 e2 e3 e4 e5 e6 = let whole : n6 ≡ (((((o ++ a) ++ b) ++ c) ++ d) ++ e) ++ f = cc in whole ∙ regroup o a b c d e f

pub three_parts : (o a b c n1 n2 n3 : List ℕ) → o ≡ [] → n1 ≡ o ++ a → n2 ≡ n1 ++ b → n3 ≡ n2 ++ c → n3 ≡ a ++ (b ++ c)
three_parts o a b c n1 n2 n3 e0 e1 e2 e3 = e3 ∙ (λ j. (e2 ∙ (λ i. (e1 ∙ (λ k. e0 k ++ a)) i ++ b)) j ++ c) ∙ append_assoc a b c

-- one part more, before the others
pub part_more : (a x y b c : List ℕ) → b ≡ a ++ x → c ≡ b ++ y → c ≡ a ++ (x ++ y)
part_more a x y b c first rest = rest ∙ ap (λ l. l ++ y) first ∙ append_assoc a x y

-- ---- what is seen of elements

kept_seen : {X Y : Type 0} (p : X → Bool) (view : Y → X) (b : Bool) (y : Y) (ys : List Y) → map view (filter (λ z. p (view z)) ys) ≡ filter p (map view ys) → map view (if b then y ∷ filter (λ z. p (view z)) ys else filter (λ z. p (view z)) ys) ≡ (if b then view y ∷ filter p (map view ys) else filter p (map view ys))
kept_seen p view true y ys so = ap (λ l. view y ∷ l) so
kept_seen p view false y ys so = so

filter_seen : {X Y : Type 0} (p : X → Bool) (view : Y → X) (ys : List Y) → map view (filter (λ y. p (view y)) ys) ≡ filter p (map view ys)
filter_seen p view [] = refl
filter_seen p view (y ∷ ys) = kept_seen p view (p (view y)) y ys (filter_seen p view ys)

pub filter_viewed : {X Y E : Type 0} (p : X → Bool) (view : Y → X) (ys : List Y) (r : Result (Vec Y) E) → IfOk r (λ kept. kept.items ≡ filter (λ y. p (view y)) ys) → IfOk r (λ kept. map view kept.items ≡ filter p (map view ys))
filter_viewed p view ys r h = IfOk-weaker r (λ kept. kept.items ≡ filter (λ y. p (view y)) ys) (λ kept. map view kept.items ≡ filter p (map view ys)) (λ kept is. ap (map view) is ∙ filter_seen p view ys) h
