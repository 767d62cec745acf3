-- Steps of loops over the names, the strings and the inclusions of a project.
use Rattle.std.proofs.Common.{List, [], refl, ℕ, ◌∷◌, ◌≡◌, map, Bool, false, true, ◌||◌, ap, String, length, suc, Some, arith, zero, ◌+◌, is_some, Option, sym, ◌∙◌, cond, get_or, take, ◌++◌, ◌-◌, ◌<◌, bytes_eq, count_by, nat_eq, not, None, if◌then◌else◌, nat_lt, Bor, Vec, ◌&&◌, ◌≤◌, drop}
use Rattle.std.proofs.lemmas.Bool.{true≢false, and_parts, or_left, or_right}
use Rattle.std.proofs.lemmas.List.{map-append, take_more, drop_all, drop_more}
use Rattle.std.proofs.lemmas.List.Elements.{All-head, All-tail, All-contains, All-contains_itself, All-weaker}
use Rattle.std.proofs.lemmas.List.Folds.{list_any-append}
use Rattle.std.proofs.lemmas.List.Sums.{sum_by-append}
use Rattle.std.proofs.lemmas.Slice.Eq.{bytes_eq-Decides}
use Rattle.std.specs.Global.{Vec as ByteVec}
use Rattle.std.specs.List.{AllZip, list_any, flat_map, filter, All, Contains}
use Rattle.std.specs.Option.{option_copied, option_map_or}
use Rattle.std.specs.declared.alloc.Global.{Global}
use Rattle.toml.specs.Data.{Data}
use Rattle.toml.specs.View.{items_of, members_view}
use Rattle.toml.specs.declared.value.Value.{Value}
use Rattle.pyver_projects.specs.ProjectStrings.{items_list, members_list, Inclusion, includes_by, includes, includes_within, is_repeated}
use Rattle.pyver_requirements.proofs.Grouped.{swap, rest_at}

-- copies of strings of bytes are the same strings
pub same_bytes : (xs ys : List ℕ) → AllZip (λ x y. y ≡ x) xs ys → ys ≡ xs
same_bytes [] [] h = refl
same_bytes [] (y ∷ ys) h = absurd h
same_bytes (x ∷ xs) [] h = absurd h
same_bytes (x ∷ xs) (y ∷ ys) (r, h) = λ j. r j ∷ same_bytes xs ys h j

pub same_names : (R : ByteVec ℕ → ByteVec ℕ → Type 0) → ((v w : ByteVec ℕ) → R v w → w.items ≡ v.items) → (xs ys : List (ByteVec ℕ)) → AllZip R xs ys → map (λ (v : ByteVec ℕ). v.items) ys ≡ map (λ (v : ByteVec ℕ). v.items) xs
same_names R f [] [] h = refl
same_names R f [] (y ∷ ys) h = absurd h
same_names R f (x ∷ xs) [] h = absurd h
same_names R f (x ∷ xs) (y ∷ ys) (r, h) = λ j. f x y r j ∷ same_names R f xs ys h j

-- a name is among one name
pub or_none : (b : Bool) → b ≡ (b || false)
or_none true = refl
or_none false = refl

-- a list that was made items is the same
pub items_list_of : (ds : List Data) → items_list (items_of ds) ≡ ds
items_list_of [] = refl
items_list_of (d ∷ ds) = ap (λ rest. d ∷ rest) (items_list_of ds)

-- the members of a map are as many
pub members_length : (es : List (String Global × Value)) → length (members_list (members_view es)) ≡ length es
members_length [] = refl
members_length (e ∷ es) = ap suc (members_length es)

-- ---- names that are known, or repeated, and packages that are found by their names

known_again : (n : ℕ) → Some (is_some (is_repeated n)) ≡ is_repeated (n + 1)
known_again zero = refl
known_again (suc n) = grind arith

counted_by : (b : Bool) (n m : ℕ) (old named : Option Bool) → (b ≡ true → m ≡ n) → old ≡ is_repeated n → named ≡ is_repeated m → cond b (Some (is_some named)) old ≡ is_repeated (n + cond b 1 0)
counted_by true n m old named same is known = ap (λ (o : Option Bool). Some (is_some o)) (known ∙ ap is_repeated (same refl)) ∙ known_again n
counted_by false n m old named same is known = is ∙ ap is_repeated (sym (omega arith))

-- one name more
pub counted_more : {L : Type 0} (view : L → List ℕ) (xs : List L) (i : ℕ) (x : L) (q : List ℕ) (old new named : Option Bool) → i < length xs → x ≡ get_or xs i x
    → old ≡ is_repeated (count_by (bytes_eq q) (map view (take i xs))) → named ≡ is_repeated (count_by (bytes_eq (view x)) (map view (take i xs)))
    → new ≡ cond (bytes_eq (view x) q) (Some (is_some named)) old → new ≡ is_repeated (count_by (bytes_eq q) (map view (take (i + 1) xs)))
counted_more view xs i x q old new named inside is was known changed =
    let before = map view (take i xs) in
    let taken : map view (take (i + 1) xs) ≡ before ++ view x ∷ [] = ap (map view) (take_more xs i x inside ∙ ap (λ y. take i xs ++ y ∷ []) (sym is)) ∙ map-append view (take i xs) (x ∷ []) in
    let count : count_by (bytes_eq q) (map view (take (i + 1) xs)) ≡ count_by (bytes_eq q) before + cond (bytes_eq (view x) q) 1 0 =
    ap (count_by (bytes_eq q)) taken ∙ sum_by-append (λ y. cond (bytes_eq q y) 1 0) before (view x ∷ []) ∙ ap (λ n. count_by (bytes_eq q) before + n) (omega arith) ∙ ap (λ b. count_by (bytes_eq q) before + cond b 1 0) (swap q (view x)) in
    changed ∙ counted_by (bytes_eq (view x) q) (count_by (bytes_eq q) before) (count_by (bytes_eq (view x)) before) old named
    (λ e. ap (λ (n : List ℕ). count_by (bytes_eq n) before) ((bytes_eq-Decides (view x) q).0 e)) was known ∙ ap is_repeated (sym count)

some_counted : (n : ℕ) → is_some (is_repeated n) ≡ not (nat_eq n 0)
some_counted zero = refl
some_counted (suc n) = grind arith

any_by : (b : Bool) (n : ℕ) (any : Bool) → not (nat_eq n 0) ≡ any → not (nat_eq ((0 + cond b 1 0) + n) 0) ≡ (b || any)
any_by true n any e = grind arith
any_by false n any e = let same : 0 + n ≡ n = omega arith in ap (λ m. not (nat_eq m 0)) same ∙ e

any_counted : (p : List ℕ → Bool) (xs : List (List ℕ)) → not (nat_eq (count_by p xs) 0) ≡ list_any p xs
any_counted p [] = refl
any_counted p (x ∷ xs) = ap (λ n. not (nat_eq n 0)) (sum_by-append (λ y. cond (p y) 1 0) (x ∷ []) xs) ∙ any_by (p x) (count_by p xs) (list_any p xs) (any_counted p xs)

-- a name that is kept is one of them
pub is_one : (p : List ℕ → Bool) (xs : List (List ℕ)) (kept : Option Bool) → kept ≡ is_repeated (count_by p xs) → is_some kept ≡ list_any p xs
is_one p xs kept is = ap is_some is ∙ some_counted (count_by p xs) ∙ any_counted p xs

some_kept : (n : ℕ) → is_repeated (suc n) ≡ Some (nat_lt 1 (suc n))
some_kept n = let apart : nat_eq (suc n) 0 ≡ false = grind arith in ap (λ b. if b then None else Some (nat_lt 1 (suc n))) apart

-- what is kept of a name says whether it is repeated
pub is_twice : (n : ℕ) (b : Bool) → is_repeated n ≡ Some b → b ≡ nat_lt 1 n
is_twice zero b e = cc e
is_twice (suc n) b e = let same : Some b ≡ Some (nat_lt 1 (suc n)) = sym e ∙ some_kept n in cc same

pub is_not_twice : (n : ℕ) → is_repeated n ≡ None → false ≡ nat_lt 1 n
is_not_twice zero e = refl
is_not_twice (suc n) e = let same : None ≡ Some (nat_lt 1 (suc n)) = sym e ∙ some_kept n in cc same

module _ {X A : Type 0} (p : X → Bool) (f : X → List A) where
  kept : (b : Bool) (x : X) (rest : List X) → flat_map f (cond b (x ∷ rest) rest) ≡ (if b then f x else []) ++ flat_map f rest
  kept true x rest = refl
  kept false x rest = refl

  -- what is made of those that pass the test, where nothing is made of others
  pub flat_map-filter : (xs : List X) → flat_map f (filter p xs) ≡ flat_map (λ x. if p x then f x else []) xs
  flat_map-filter [] = refl
  flat_map-filter (x ∷ xs) = kept (p x) x (filter p xs) ∙ ap (λ rest. (if p x then f x else []) ++ rest) (flat_map-filter xs)

-- a list behind a reference, or none
pub copied : {L A : Type 0} (o : Option (Bor (Vec L A))) → option_map_or (λ g. g.now.items) o [] ≡ option_map_or (λ g. g.items) (option_copied o) []
copied None = refl
copied (Some g) = refl

-- ---- truth values

pub or_false : (a : Bool) → (a || false) ≡ a
or_false true = refl
or_false false = refl

pub or_assoc : (a b c : Bool) → ((a || b) || c) ≡ (a || (b || c))
or_assoc true b c = refl
or_assoc false b c = refl

spread : (a b c : Bool) → (a && (b || c)) ≡ ((a && b) || (a && c))
spread true b c = refl
spread false b c = refl

regroup : (a b c d : Bool) → ((a || b) || (c || d)) ≡ ((a || c) || (b || d))
regroup true b c d = refl
regroup false true true d = refl
regroup false true false d = refl
regroup false false true d = refl
regroup false false false d = refl

-- one of two holds
by_or : (P : Type 0) (a b : Bool) → (a || b) ≡ true → (a ≡ true → P) → (b ≡ true → P) → P
by_or P true b e first second = first refl
by_or P false b e first second = second e

-- both hold, or neither
both_or : (a b : Bool) → (a ≡ true → b ≡ true) → (b ≡ true → a ≡ true) → a ≡ b
both_or true b f g = sym (f refl)
both_or false true f g = g refl
both_or false false f g = refl

-- ---- inclusions

any_two : {X : Type 0} (p q : X → Bool) (xs : List X) → list_any (λ x. p x || q x) xs ≡ (list_any p xs || list_any q xs)
any_two p q [] = refl
any_two p q (x ∷ xs) = (λ j. (p x || q x) || any_two p q xs j) ∙ regroup (p x) (q x) (list_any p xs) (list_any q xs)

any_same : {X : Type 0} (p q : X → Bool) → ((x : X) → p x ≡ q x) → (xs : List X) → list_any p xs ≡ list_any q xs
any_same p q same [] = refl
any_same p q same (x ∷ xs) = λ j. same x j || any_same p q same xs j

kept_by : (b : Bool) (q : List ℕ) (i : Inclusion) (is : List Inclusion) → list_any (λ (k : Inclusion). bytes_eq q k.included) (cond b (i ∷ is) is) ≡ ((bytes_eq q i.included && b) || list_any (λ (k : Inclusion). bytes_eq q k.included) is)
kept_by true q i is = ap (λ c. c || list_any (λ (k : Inclusion). bytes_eq q k.included) is) (and_true (bytes_eq q i.included))
  where
    and_true : (a : Bool) → a ≡ (a && true)
    and_true true = refl
    and_true false = refl
kept_by false q i is = ap (λ c. c || list_any (λ (k : Inclusion). bytes_eq q k.included) is) (and_false (bytes_eq q i.included))
  where
    and_false : (a : Bool) → false ≡ (a && false)
    and_false true = refl
    and_false false = refl

-- of the inclusions of a group
pub of_group : (q group : List ℕ) (is : List Inclusion) → list_any (λ (i : Inclusion). bytes_eq q i.included) (filter (λ (i : Inclusion). bytes_eq group i.group) is) ≡ list_any (λ (i : Inclusion). bytes_eq q i.included && bytes_eq group i.group) is
of_group q group [] = refl
of_group q group (i ∷ is) = kept_by (bytes_eq group i.group) q i (filter (λ (k : Inclusion). bytes_eq group k.group) is) ∙ ap (λ c. (bytes_eq q i.included && bytes_eq group i.group) || c) (of_group q group is)

-- of those of a group and of others
pub of_more : (q group : List ℕ) (others : List ℕ → Bool) (is : List Inclusion)
    → list_any (includes_by (λ n. bytes_eq n group || others n) q) is ≡ (list_any (λ (i : Inclusion). bytes_eq q i.included && bytes_eq group i.group) is || list_any (includes_by others q) is)
of_more q group others is =
    any_same (includes_by (λ n. bytes_eq n group || others n) q) (λ (i : Inclusion). (bytes_eq q i.included && bytes_eq group i.group) || includes_by others q i)
    (λ i. spread (bytes_eq q i.included) (bytes_eq i.group group) (others i.group) ∙ ap (λ b. (bytes_eq q i.included && b) || (bytes_eq q i.included && others i.group)) (swap i.group group)) is
    ∙ any_two (λ (i : Inclusion). bytes_eq q i.included && bytes_eq group i.group) (includes_by others q) is

pub of_none : (q : List ℕ) (is : List Inclusion) → list_any (includes_by (λ n. false) q) is ≡ false
of_none q [] = refl
of_none q (i ∷ is) = (λ j. none (bytes_eq q i.included) j || of_none q is j)
  where
    none : (a : Bool) → (a && false) ≡ false
    none true = refl
    none false = refl

-- ---- steps

module _ (is : List Inclusion) where
  -- what the groups of `front` include is known
  abbrev pub IsTaken : (List ℕ → Bool) → (List ℕ → Bool) → Type 0
  IsTaken known front = All (λ (i : Inclusion). known i.group ≡ true → (front i.group ≡ false) → known i.included ≡ true) is

  some_is : (has : List ℕ → Bool) (q : List ℕ) (i : Inclusion) (here : List Inclusion) → Contains here i → (bytes_eq q i.included && has i.group) ≡ true → list_any (includes_by has q) here ≡ true
  some_is has q i [] (k, inside, at) e = absurd (omega (arith, inside))
  some_is has q i (x ∷ here) (zero, inside, at) e = or_left (includes_by has q x) (list_any (includes_by has q) here) (ap (includes_by has q) at ∙ e)
  some_is has q i (x ∷ here) (suc k, inside, at) e = or_right (includes_by has q x) (list_any (includes_by has q) here) (some_is has q i here (k, omega (arith, inside), at) e)

  -- what is included by known groups is included by those in front, or known
  into : (known front : List ℕ → Bool) (q : List ℕ) (here : List Inclusion) → All (λ (i : Inclusion). known i.group ≡ true → (front i.group ≡ false) → known i.included ≡ true) here → list_any (includes_by known q) here ≡ true
      → (known q || list_any (includes_by front q) here) ≡ true
  into known front q [] taken e = absurd (true≢false (sym e))
  into known front q (i ∷ here) taken e =
      by_or ((known q || list_any (includes_by front q) (i ∷ here)) ≡ true) (includes_by known q i) (list_any (includes_by known q) here) e
      (λ hit. here_by (front i.group) refl hit)
      (λ later. wider (known q) (includes_by front q i) (list_any (includes_by front q) here) (into known front q here (All-tail (λ (k : Inclusion). known k.group ≡ true → (front k.group ≡ false) → known k.included ≡ true) i here taken) later))
    where
      wider : (a b c : Bool) → (a || c) ≡ true → (a || (b || c)) ≡ true
      wider true b c h = refl
      wider false b c h = or_right b c h

      here_by : (f : Bool) → front i.group ≡ f → includes_by known q i ≡ true → (known q || list_any (includes_by front q) (i ∷ here)) ≡ true
      here_by true f hit =
          or_right (known q) (list_any (includes_by front q) (i ∷ here))
          (or_left (includes_by front q i) (list_any (includes_by front q) here) ((λ j. (and_parts (bytes_eq q i.included) (known i.group) hit).0 j && f j)))
      here_by false f hit =
          or_left (known q) (list_any (includes_by front q) (i ∷ here))
          (ap known ((bytes_eq-Decides q i.included).0 ((and_parts (bytes_eq q i.included) (known i.group) hit).0))
          ∙ All-head (λ (k : Inclusion). known k.group ≡ true → (front k.group ≡ false) → known k.included ≡ true) i here taken ((and_parts (bytes_eq q i.included) (known i.group) hit).1) f)

  -- what is included by those in front is included by known groups
  from : (known front : List ℕ → Bool) → ((q : List ℕ) → front q ≡ true → known q ≡ true) → (q : List ℕ) (here : List Inclusion) → list_any (includes_by front q) here ≡ true → list_any (includes_by known q) here ≡ true
  from known front part q [] e = e
  from known front part q (i ∷ here) e =
      by_or (list_any (includes_by known q) (i ∷ here) ≡ true) (includes_by front q i) (list_any (includes_by front q) here) e
      (λ hit. or_left (includes_by known q i) (list_any (includes_by known q) here) (both (bytes_eq q i.included) (front i.group) (known i.group) (part i.group) hit))
      (λ later. or_right (includes_by known q i) (list_any (includes_by known q) here) (from known front part q here later))
    where
      both : (a b c : Bool) → (b ≡ true → c ≡ true) → (a && b) ≡ true → (a && c) ≡ true
      both true b c so h = so h
      both false b c so h = h

  module _ (group : List ℕ) where
    -- what is known after so many steps, of which these were new in the last
    pub record IsWalked (n : ℕ) (known front : List ℕ → Bool) : Type 0 where
      pub reached : (q : List ℕ) → known q ≡ includes_within is group n q
      pub taken : IsTaken known front
      pub part : (q : List ℕ) → front q ≡ true → known q ≡ true

    pub one_step : (n : ℕ) (known front new next : List ℕ → Bool) → IsWalked n known front → ((q : List ℕ) → new q ≡ (known q || list_any (includes_by front q) is)) → ((q : List ℕ) → new q ≡ (known q || next q))
        → IsWalked (suc n) new next
    one_step n known front new next w step found = record {
      reached = λ q. step q ∙ both_or (known q || list_any (includes_by front q) is) (known q || list_any (includes_by known q) is)
          (λ e. by_or ((known q || list_any (includes_by known q) is) ≡ true) (known q) (list_any (includes_by front q) is) e
          (or_left (known q) (list_any (includes_by known q) is)) (λ f. or_right (known q) (list_any (includes_by known q) is) (from known front w.part q is f)))
          (λ e. by_or ((known q || list_any (includes_by front q) is) ≡ true) (known q) (list_any (includes_by known q) is) e
          (or_left (known q) (list_any (includes_by front q) is)) (into known front q is w.taken))
          ∙ ap (λ (has : List ℕ → Bool). has q || list_any (includes_by has q) is) (λ j r. w.reached r j);
      taken = All-weaker (Contains is) (λ (i : Inclusion). new i.group ≡ true → (next i.group ≡ false) → new i.included ≡ true)
          (λ i within is_new not_next. is_taken i within (front i.group) refl (sym (or_false (known i.group)) ∙ ap (λ b. known i.group || b) (sym not_next) ∙ sym (found i.group) ∙ is_new))
          is (All-contains_itself is);
      part = λ q e. found q ∙ or_right (known q) (next q) e;
    }
      where
        is_taken : (i : Inclusion) → Contains is i → (f : Bool) → front i.group ≡ f → known i.group ≡ true → new i.included ≡ true
        is_taken i within true f k = step i.included ∙ or_right (known i.included) (list_any (includes_by front i.included) is) (some_is front i.included i is within (λ j. (bytes_eq-Decides i.included i.included).1 refl j && f j))
        is_taken i within false f k = step i.included ∙ or_left (known i.included) (list_any (includes_by front i.included) is)
            (All-contains (λ (x : Inclusion). known x.group ≡ true → (front x.group ≡ false) → known x.included ≡ true) is i w.taken within k f)

    -- nothing is in front: more steps find nothing
    stays : (n d : ℕ) (known : List ℕ → Bool) → IsWalked n known (λ q. false) → (q : List ℕ) → includes_within is group (d + n) q ≡ known q
    stays n zero known w q = let none : 0 + n ≡ n = omega arith in ap (λ (m : ℕ). includes_within is group m q) none ∙ sym (w.reached q)
    stays n (suc d) known w q =
        let more : suc d + n ≡ suc (d + n) = omega arith in
        let same : includes_within is group (d + n) ≡ known = λ j r. stays n d known w r j in
        ap (λ (m : ℕ). includes_within is group m q) more ∙ ap (λ (has : List ℕ → Bool). has q || list_any (includes_by has q) is) same
        ∙ both_or (known q || list_any (includes_by known q) is) (known q)
        (λ e. by_or (known q ≡ true) (known q) (list_any (includes_by known q) is) e (λ k. k)
        (λ any. sym (or_false (known q)) ∙ ap (λ b. known q || b) (sym (of_none q is)) ∙ into known (λ m. false) q is w.taken any))
        (or_left (known q) (list_any (includes_by known q) is))

    pub all_reached : (n : ℕ) (known : List ℕ → Bool) → IsWalked n known (λ q. false) → n ≤ length is → (q : List ℕ) → known q ≡ includes is group q
    all_reached n known w inside q =
        let more : length is ≡ (length is - n) + n = omega (arith, inside) in
        sym (stays n (length is - n) known w q) ∙ ap (λ (m : ℕ). includes_within is group m q) (sym more)

    -- at the start there is the group alone
    pub at_start : (known front : List ℕ → Bool) → ((q : List ℕ) → known q ≡ bytes_eq q group) → ((q : List ℕ) → known q ≡ front q) → IsWalked 0 known front
    at_start known front one same = record {
      reached = one;
      taken = All-weaker (Contains is) (λ (i : Inclusion). known i.group ≡ true → (front i.group ≡ false) → known i.included ≡ true) (λ i within k f. absurd (true≢false (sym k ∙ same i.group ∙ f))) is (All-contains_itself is);
      part = λ q e. same q ∙ e;
    }

-- ---- names that are added

by_key : {X : Type 0} (b : Bool) (x : X) (old : Option X) → is_some (cond b (Some x) old) ≡ (is_some old || b)
by_key true x None = refl
by_key true x (Some y) = refl
by_key false x old = sym (or_false (is_some old))

-- a name that is new
pub new_name : {X : Type 0} (q name : List ℕ) (x : X) (old new : Option X) → new ≡ cond (bytes_eq name q) (Some x) old → is_some new ≡ (is_some old || bytes_eq q name)
new_name q name x old new changed = ap is_some changed ∙ by_key (bytes_eq name q) x old ∙ ap (λ b. is_some old || b) (swap name q)

-- and is found
pub found_more : {L : Type 0} (view : L → List ℕ) (q : List ℕ) (x : L) (found : List L) (before old new : Bool) → new ≡ (old || bytes_eq q (view x)) → old ≡ (before || list_any (bytes_eq q) (map view found))
    → new ≡ (before || list_any (bytes_eq q) (map view (found ++ x ∷ [])))
found_more view q x found before old new is was =
    let any : list_any (bytes_eq q) (map view (found ++ x ∷ [])) ≡ (list_any (bytes_eq q) (map view found) || bytes_eq q (view x)) =
    ap (list_any (bytes_eq q)) (map-append view found (x ∷ [])) ∙ list_any-append (bytes_eq q) (map view found) (view x ∷ []) ∙ ap (λ b. list_any (bytes_eq q) (map view found) || b) (or_false (bytes_eq q (view x))) in
    is ∙ ap (λ b. b || bytes_eq q (view x)) was ∙ or_assoc before (list_any (bytes_eq q) (map view found)) (bytes_eq q (view x)) ∙ ap (λ b. before || b) (sym any)

-- ---- steps of loops

-- one inclusion more
pub push_step : {L X : Type 0} (p : X → Bool) (view : L → X) (xs : List L) (k : ℕ) (x : L) (old new total : Bool) → k < length xs → x ≡ get_or xs k x → new ≡ (old || p (view x)) → (old || list_any p (map view (drop k xs))) ≡ total
    → (new || list_any p (map view (drop (k + 1) xs))) ≡ total
push_step p view xs k x old new total inside is more so =
    ap (λ b. b || list_any p (map view (drop (k + 1) xs))) more ∙ or_assoc old (p (view x)) (list_any p (map view (drop (k + 1) xs)))
    ∙ ap (λ ys. old || list_any p (map view ys)) (sym (rest_at xs k x inside is)) ∙ so

module _ {L : Type 0} (is : List Inclusion) (view : L → List ℕ) (q : List ℕ) (xs : List L) (k : ℕ) where
  -- what these groups include themselves
  abbrev pub of_these : List L → Bool
  of_these ys = list_any (includes_by (λ n. list_any (bytes_eq n) (map view ys)) q) is

  -- one group more
  pub level_step : (d : L) (old new total : Bool) → k < length xs → new ≡ (old || list_any (λ (i : Inclusion). bytes_eq q i.included && bytes_eq (view (get_or xs k d)) i.group) is)
      → (old || of_these (drop k xs)) ≡ total → (new || of_these (drop (k + 1) xs)) ≡ total
  level_step d old new total inside more so =
      let rest = drop (k + 1) xs in
      ap (λ b. b || of_these rest) more ∙ or_assoc old (list_any (λ (i : Inclusion). bytes_eq q i.included && bytes_eq (view (get_or xs k d)) i.group) is) (of_these rest)
      ∙ ap (λ b. old || b) (sym (of_more q (view (get_or xs k d)) (λ n. list_any (bytes_eq n) (map view rest)) is)) ∙ ap (λ ys. old || of_these ys) (sym (drop_more xs k d inside)) ∙ so

  -- no group more
  pub level_end : (last total : Bool) → length xs ≤ k → (last || of_these (drop k xs)) ≡ total → last ≡ total
  level_end last total end so = sym (or_false last) ∙ ap (λ b. last || b) (sym (of_none q is)) ∙ ap (λ ys. last || of_these ys) (sym (drop_all k xs end)) ∙ so

-- what is seen of two lists that were joined
pub joined_views : {X Y : Type 0} (view : X → Y) (old more new : List X) → new ≡ old ++ more → map view new ≡ map view old ++ map view more
joined_views view old more new is = ap (map view) is ∙ map-append view old more
