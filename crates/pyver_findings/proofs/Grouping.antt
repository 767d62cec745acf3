-- Lines that are grouped by name, and by marker beside those without one, and the groups that are taken one after another; and of lines that have no version in
-- common some are reported together.
use Rattle.std.proofs.Common.{Bool, List, None, Option, Some, [], ap, bytes_eq, cond, false, get_or, if◌then◌else◌, inl, inr, is_none, length, map, refl, sym, take, true, ℕ, ◌++◌, ◌+◌, ◌<◌, ◌||◌, ◌∙◌, ◌∷◌, ◌≡◌, ◌⊎◌, arith, subst, suc, zero}
use Rattle.std.proofs.lemmas.Bool.{true≢false}
use Rattle.std.proofs.lemmas.List.{append-nil, map-append, take_more}
use Rattle.std.proofs.lemmas.List.Elements.{All-append, All-cons, All-filter, All-head, All-nil, All-same, All-tail, All-contains_itself}
use Rattle.std.proofs.lemmas.List.Folds.{list_any-append}
use Rattle.std.proofs.lemmas.Slice.Eq.{bytes_eq-Decides}
use Rattle.std.specs.List.{All, filter, list_any, Any, Contains}
use Rattle.pyver_findings.specs.Demands.{Demand, IsSound}
use Rattle.pyver_findings.specs.Conflicts.{has_marker, has_same_marker, have_none, same_marker, unmarked, conflict_kind, of_all, has_same_name, smallest}
use Rattle.pyver_findings.specs.MarkedConflicts.{counts_with, under_any}
use Rattle.std.specs.Option.{option_map_or}
use Rattle.pyver_findings.proofs.SmallestLists.{Allows, left_all, more_none, right_all, all_smallest, smallest_none}
use Rattle.pyver_findings.specs.FileLines.{Conflicting, FileLine, Finding}
use Rattle.pyver_findings.specs.FindingLaws.{IsAmong}

-- a group that is taken is sound where all lines are
pub sound_taken : (b : Bool) (p : Demand → Bool) (lines group : List Demand) → All IsSound lines → group ≡ (if b then [] else filter p lines) → All IsSound group
sound_taken true p lines group sound is = All-same IsSound group [] is (All-nil IsSound)
sound_taken false p lines group sound is = All-same IsSound group (filter p lines) is (All-filter p IsSound lines sound)

module _ {X : Type 0} (f : Option X → List Demand) (none : f None ≡ []) where
  taken_by : (b any : Bool) (all : List Demand) (old new : Option X) → new ≡ cond b None old → f old ≡ (if any then [] else all) → f new ≡ (if any || (b || false) then [] else all)
  taken_by true true all old new is was = ap f is ∙ none
  taken_by true false all old new is was = ap f is ∙ none
  taken_by false true all old new is was = ap f is ∙ was
  taken_by false false all old new is was = ap f is ∙ was

  -- one group less, of those that pass the test
  pub taken_more : {L : Type 0} (view : L → Demand) (has : Demand → Bool) (xs : List L) (i : ℕ) (x : L) (all : List Demand) (old new : Option X) → i < length xs → x ≡ get_or xs i x → new ≡ cond (has (view x)) None old
      → f old ≡ (if list_any has (map view (take i xs)) then [] else all) → f new ≡ (if list_any has (map view (take (i + 1) xs)) then [] else all)
  taken_more view has xs i x all old new inside is changed was =
      let before = map view (take i xs) in
      let taken : map view (take (i + 1) xs) ≡ before ++ view x ∷ [] = ap (map view) (take_more xs i x inside ∙ ap (λ y. take i xs ++ y ∷ []) (sym is)) ∙ map-append view (take i xs) (x ∷ []) in
      let any : list_any has (map view (take (i + 1) xs)) ≡ list_any has before || (has (view x) || false) = ap (list_any has) taken ∙ list_any-append has before (view x ∷ []) in
      taken_by (has (view x)) (list_any has before) all old new changed was ∙ ap (λ b. if b then [] else all) (sym any)

-- ---- what holds of the elements that pass a test

module _ {X : Type 0} (P : X → Type 0) where
  -- it holds of the element where this passes the test
  abbrev HoldsWhere : (X → Bool) → X → Type 0
  HoldsWhere p x = p x ≡ true → P x

  kept_by : (b : Bool) (x : X) (rest : List X) → (b ≡ true → P x) → All P rest → All P (cond b (x ∷ rest) rest)
  kept_by true x rest f k = All-cons P x rest (f refl) k
  kept_by false x rest f k = k

  passed : (p : X → Bool) (xs : List X) → All (HoldsWhere p) xs → All P (filter p xs)
  passed p [] k = All-nil P
  passed p (x ∷ xs) k = kept_by (p x) x (filter p xs) (All-head (HoldsWhere p) x xs k) (passed p xs (All-tail (HoldsWhere p) x xs k))

  first_by : (b : Bool) (x : X) (rest : List X) → All P (cond b (x ∷ rest) rest) → b ≡ true → P x
  first_by true x rest k e = All-head P x rest k
  first_by false x rest k e = absurd (true≢false (sym e))

  rest_by : (b : Bool) (x : X) (rest : List X) → All P (cond b (x ∷ rest) rest) → All P rest
  rest_by true x rest k = All-tail P x rest k
  rest_by false x rest k = k

  where_passed : (p : X → Bool) (xs : List X) → All P (filter p xs) → All (HoldsWhere p) xs
  where_passed p [] k = All-nil (HoldsWhere p)
  where_passed p (x ∷ xs) k = All-cons (HoldsWhere p) x xs (first_by (p x) x (filter p xs) k) (where_passed p xs (rest_by (p x) x (filter p xs) k))

  -- fewer pass the test
  pub fewer : (p q : X → Bool) → ((x : X) → p x ≡ true → q x ≡ true) → (xs : List X) → All P (filter q xs) → All P (filter p xs)
  fewer p q less xs k = passed p xs (go xs (where_passed q xs k))
    where
      go : (xs : List X) → All (HoldsWhere q) xs → All (HoldsWhere p) xs
      go [] k = All-nil (HoldsWhere p)
      go (x ∷ xs) k = All-cons (HoldsWhere p) x xs (λ e. All-head (HoldsWhere q) x xs k (less x e)) (go xs (All-tail (HoldsWhere q) x xs k))

  -- what passes one test passes one of two others
  pub either : (p q r : X → Bool) → ((x : X) → r x ≡ true → (p x ≡ true) ⊎ (q x ≡ true)) → (xs : List X) → All P (filter p xs) → All P (filter q xs) → All P (filter r xs)
  either p q r split xs k m = passed r xs (go xs (where_passed p xs k) (where_passed q xs m))
    where
      go : (xs : List X) → All (HoldsWhere p) xs → All (HoldsWhere q) xs → All (HoldsWhere r) xs
      go [] k m = All-nil (HoldsWhere r)
      go (x ∷ xs) k m =
          All-cons (HoldsWhere r) x xs (λ e. elim (split x e) [ inl i ↦ All-head (HoldsWhere p) x xs k i | inr i ↦ All-head (HoldsWhere q) x xs m i ])
          (go xs (All-tail (HoldsWhere p) x xs k) (All-tail (HoldsWhere q) x xs m))

-- ---- lines without a marker, and lines with one

or_false : (b : Bool) → (b || false) ≡ true → b ≡ true
or_false true e = refl
or_false false e = e

pub marker_yes : (m n : Option (List ℕ)) → same_marker m n ≡ true → m ≡ n
marker_yes None None e = refl
marker_yes None (Some b) e = absurd (true≢false (sym e))
marker_yes (Some a) None e = absurd (true≢false (sym e))
marker_yes (Some a) (Some b) e = ap Some ((bytes_eq-Decides a b).0 e)

marker_self : (m : Option (List ℕ)) → same_marker m m ≡ true
marker_self None = refl
marker_self (Some a) = (bytes_eq-Decides a a).1 refl

pub marker_alike : (m n : Option (List ℕ)) → m ≡ n → same_marker m n ≡ true
marker_alike m n e = subst (λ k. same_marker m k ≡ true) e (marker_self m)

module _ (m : List ℕ) (a : Demand) (is : a.marker ≡ Some m) where
  split_by : (n : Option (List ℕ)) → (is_none n || (same_marker n (Some m) || false)) ≡ true → (is_none n ≡ true) ⊎ (same_marker (Some m) n ≡ true)
  split_by None e = inl refl
  split_by (Some k) e = inr (marker_alike (Some m) (Some k) (sym (marker_yes (Some k) (Some m) (or_false (bytes_eq k m) e))))

  split_marker : (x : Demand) → counts_with (a ∷ []) x ≡ true → (is_none x.marker ≡ true) ⊎ (has_marker m x ≡ true)
  split_marker x e = split_by x.marker (ap (λ n. is_none x.marker || (same_marker x.marker n || false)) (sym is) ∙ e)

  none_counts : (x : Demand) → is_none x.marker ≡ true → counts_with (a ∷ []) x ≡ true
  none_counts x e = ap (λ b. b || (same_marker x.marker a.marker || false)) e

  counts_by : (n k : Bool) → k ≡ true → (n || (k || false)) ≡ true
  counts_by true k e = refl
  counts_by false k e = ap (λ b. b || false) e

  marker_counts : (x : Demand) → has_marker m x ≡ true → counts_with (a ∷ []) x ≡ true
  marker_counts x e = counts_by (is_none x.marker) (same_marker x.marker a.marker) (marker_alike x.marker a.marker (sym (marker_yes (Some m) x.marker e) ∙ sym is))

same_by : (b c : Bool) → (b ≡ true → c ≡ true) → (c ≡ true → b ≡ true) → b ≡ c
same_by true c into back = sym (into refl)
same_by false true into back = back refl
same_by false false into back = refl

-- in whatever order, they have the same versions in common
under_marker : (m : List ℕ) (a : Demand) → a.marker ≡ Some m → (lines : List Demand) → All IsSound lines → have_none (unmarked lines ++ filter (has_marker m) lines) ≡ have_none (under_any (a ∷ []) lines)
under_marker m a is lines sound =
    let bare = λ (x : Demand). is_none x.marker in
    let always = unmarked lines in
    let own = filter (has_marker m) lines in
    let all = under_any (a ∷ []) lines in
    let all_sound = All-filter (counts_with (a ∷ [])) IsSound lines sound in
    let apart_sound = All-append IsSound always own (All-filter bare IsSound lines sound) (All-filter (has_marker m) IsSound lines sound) in
    same_by (have_none (always ++ own)) (have_none all)
    (more_none (always ++ own) all apart_sound all_sound
    (λ v k. All-append (Allows v) always own (fewer (Allows v) bare (counts_with (a ∷ [])) (none_counts m a is) lines k) (fewer (Allows v) (has_marker m) (counts_with (a ∷ [])) (marker_counts m a is) lines k)))
    (more_none all (always ++ own) all_sound apart_sound
    (λ v k. either (Allows v) bare (has_marker m) (counts_with (a ∷ [])) (split_marker m a is) lines (left_all (Allows v) always own k) (right_all (Allows v) always own k)))

bare_by : (n : Option (List ℕ)) → (is_none n || (same_marker n None || false)) ≡ is_none n
bare_by None = refl
bare_by (Some k) = refl

-- tests that say the same choose the same
pub same_filter : (p q : Demand → Bool) → ((x : Demand) → p x ≡ q x) → (xs : List Demand) → filter p xs ≡ filter q xs
same_filter p q same [] = refl
same_filter p q same (x ∷ xs) = (λ j. if same x j then x ∷ same_filter p q same xs j else same_filter p q same xs j)

-- under no marker only lines without one count
pub under_unmarked : (a : Demand) → a.marker ≡ None → (lines : List Demand) → under_any (a ∷ []) lines ≡ unmarked lines
under_unmarked a is lines =
    same_filter (counts_with (a ∷ [])) (λ (x : Demand). is_none x.marker) (λ x. ap (λ n. is_none x.marker || (same_marker x.marker n || false)) is ∙ bare_by x.marker) lines

-- ---- what a line's group has, which is empty once it was taken

module _ (a : Demand) (b : Bool) (lines always before : List Demand) (groups : List ℕ → List Demand) (sound : All IsSound lines) (is : always ≡ unmarked lines) (some : have_none always ≡ false)
    (taken : (q : List ℕ) → groups q ≡ (if list_any (has_marker q) before then [] else filter (has_marker q) lines)) where
  -- whether they have no version in common with those without a marker: later they have one, and at the first mention by all lines under the marker
  abbrev IsExcluded : Bool → Type 0
  IsExcluded any = (any ≡ true → b ≡ false) × (any ≡ false → b ≡ have_none (under_any (a ∷ []) lines))

  by_marker : (n : Option (List ℕ)) (any : Bool) → a.marker ≡ n → list_any (λ (x : Demand). same_marker n x.marker) before ≡ any → b ≡ have_none (always ++ option_map_or groups n []) → IsExcluded any
  by_marker None any m h e =
      let none = e ∙ ap have_none (append-nil always) ∙ some in
      ((λ _. none), (λ _. none ∙ sym some ∙ ap have_none (is ∙ sym (under_unmarked a m lines))))
  by_marker (Some m) true k h e =
      let group : groups m ≡ [] = taken m ∙ ap (λ any. if any then [] else filter (has_marker m) lines) h in
      ((λ _. e ∙ ap (λ g. have_none (always ++ g)) group ∙ ap have_none (append-nil always) ∙ some), (λ f. absurd (true≢false f)))
  by_marker (Some m) false k h e =
      let group : groups m ≡ filter (has_marker m) lines = taken m ∙ ap (λ any. if any then [] else filter (has_marker m) lines) h in (
        (λ f. absurd (true≢false (sym f))),
        (λ _. e ∙ ap (λ g. have_none (always ++ g)) group ∙ ap (λ l. have_none (l ++ filter (has_marker m) lines)) is ∙ under_marker m a k lines sound),
      )

  pub at_line : b ≡ have_none (always ++ option_map_or groups a.marker []) → IsExcluded (list_any (has_same_marker a) before)
  at_line e = by_marker a.marker (list_any (has_same_marker a) before) refl refl e

-- ---- some finding

-- it holds of some finding
abbrev pub Some_is : (Finding → Type 0) → List Finding → Type 0
Some_is P [] = ⊥
Some_is P (f ∷ fs) = P f ⊎ Some_is P fs

pub in_left : (P : Finding → Type 0) (fs gs : List Finding) → Some_is P fs → Some_is P (fs ++ gs)
in_left P [] gs h = absurd h
in_left P (f ∷ fs) gs (inl p) = inl p
in_left P (f ∷ fs) gs (inr h) = inr (in_left P fs gs h)

pub in_right : (P : Finding → Type 0) (fs gs : List Finding) → Some_is P gs → Some_is P (fs ++ gs)
in_right P [] gs h = h
in_right P (f ∷ fs) gs h = inr (in_right P fs gs h)

pub any_is : (P : Finding → Type 0) (fs : List Finding) → Some_is P fs → Any P fs
any_is P [] h = absurd h
any_is P (f ∷ fs) (inl p) = (0, f, omega arith, refl, p)
any_is P (f ∷ fs) (inr h) = let r = any_is P fs h in (suc r.0, r.1, omega (arith, r.2), r.3, r.4)

-- ---- what is reported of some lines names no others

-- lines with nothing in common are not none
pub some_lines : (some : List Demand) → have_none some ≡ true → map (λ (a : Demand). a.line) some ≡ [] → ⊥
some_lines [] empty e = true≢false (sym empty)
some_lines (a ∷ some) empty e =
    let none : length (a.line ∷ map (λ (b : Demand). b.line) some) ≡ 0 = ap length e in
    absurd (omega (arith, none))

module _ (lines : List FileLine) where
  -- the line is one of these
  abbrev pub IsOne : Demand → Type 0
  IsOne a = Contains lines a.line

  mapped : (some : List Demand) → All IsOne some → All (Contains lines) (map (λ (a : Demand). a.line) some)
  mapped [] k = All-nil (Contains lines)
  mapped (a ∷ some) k = All-cons (Contains lines) a.line (map (λ (b : Demand). b.line) some) (All-head IsOne a some k) (mapped some (All-tail IsOne a some k))

  unmapped : (some : List Demand) → All (Contains lines) (map (λ (a : Demand). a.line) some) → All IsOne some
  unmapped [] k = All-nil IsOne
  unmapped (a ∷ some) k = All-cons IsOne a some (All-head (Contains lines) a.line (map (λ (b : Demand). b.line) some) k) (unmapped some (All-tail (Contains lines) a.line (map (λ (b : Demand). b.line) some) k))

  -- of lines with nothing in common some are reported
  pub all_found : (some : List Demand) → All IsOne some → have_none some ≡ true → Some_is (IsAmong lines) (of_all None some)
  all_found some k empty =
      subst (λ e. Some_is (IsAmong lines) (if e then Conflicting (conflict_kind (smallest some)) (map (λ (a : Demand). a.line) (smallest some)) None ∷ [] else [])) (sym empty)
      (inl (some_lines (smallest some) (smallest_none some empty), mapped (smallest some) (all_smallest IsOne some k)))

-- ---- first mentions

false_is : (b : Bool) → (b ≡ true → ⊥) → b ≡ false
false_is true never = absurd (never refl)
false_is false never = refl

left_false : (a b : Bool) → (a || b) ≡ false → a ≡ false
left_false true b e = absurd (true≢false e)
left_false false b e = refl

right_false : (a b : Bool) → (a || b) ≡ false → b ≡ false
right_false true b e = absurd (true≢false e)
right_false false b e = e

module _ {K : Type 0} (key : Demand → K) where
  -- some line has this key
  abbrev pub HasKey : K → List Demand → Type 0
  HasKey k [] = ⊥
  HasKey k (x ∷ rest) = (key x ≡ k) ⊎ HasKey k rest

  pub contains_key : (a : Demand) (lines : List Demand) (k : ℕ) → k < length lines → get_or lines k a ≡ a → HasKey (key a) lines
  contains_key a [] k inside is = absurd (omega arith)
  contains_key a (x ∷ lines) zero inside is = inl (ap key is)
  contains_key a (x ∷ lines) (suc k) inside is = inr (contains_key a lines k (omega arith) is)

  module _ (same : Demand → Demand → Bool) (keyed : (a b : Demand) → same a b ≡ true → key a ≡ key b) (alike : (a b : Demand) → key a ≡ key b → same a b ≡ true) where
    pub none_before : (a x : Demand) → key x ≡ key a → (before : List Demand) → list_any (same a) before ≡ false → list_any (same x) before ≡ false
    none_before a x k [] none = refl
    none_before a x k (y ∷ before) none =
        let here = left_false (same a y) (list_any (same a) before) none in
        let apart : same x y ≡ false = false_is (same x y) (λ t. true≢false (sym (alike a y (sym k ∙ keyed x y t)) ∙ here)) in
        let others : list_any (same x) before ≡ false = none_before a x k before (right_false (same a y) (list_any (same a) before) none) in
        (λ j. apart j || others j)

-- ---- names and markers

pub name_yes : (a b : Demand) → has_same_name a b ≡ true → a.name ≡ b.name
name_yes a b e = (bytes_eq-Decides a.name b.name).0 e

pub name_alike : (a b : Demand) → a.name ≡ b.name → has_same_name a b ≡ true
name_alike a b e = (bytes_eq-Decides a.name b.name).1 e

-- ---- all together

-- lines are some of themselves
pub ones_of : (some : List Demand) → All (IsOne (map (λ (a : Demand). a.line) some)) some
ones_of some = unmapped (map (λ (a : Demand). a.line) some) some (All-contains_itself (map (λ (a : Demand). a.line) some))
