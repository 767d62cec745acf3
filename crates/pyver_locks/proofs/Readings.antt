-- The last section of a path, the ending of a name, and values of markers in the known environments.
use Rattle.std.proofs.Common.{List, [], ap, false, if◌then◌else◌, refl, ℕ, ◌∷◌, ◌≡◌, Bool, true, ◌++◌, ◌+◌, ◌||◌, ◌==◌, ◌∙◌, arith, ◌-◌, None, Option, Some, length, take, ◌≤◌, Bor, drop, sym, nat_eq, option_map, cond, IfOk, Result, subst, Err, ◌&&◌, get_or, ◌<◌}
use Rattle.std.proofs.lemmas.Bool.Decides.{Decides-eqb}
use Rattle.std.proofs.lemmas.List.{take-append-drop, drop_more}
use Rattle.std.proofs.lemmas.Slice.Eq.{ends_is}
use Rattle.std.proofs.lemmas.Str.Pattern.{NoCharPasses-char, drop_at_char, ends_text}
use Rattle.std.specs.List.{ends_with, AllZip, find, list_all}
use Rattle.std.specs.Option.{MatchOption}
use Rattle.std.specs.Str.{NoCharPasses}
use Rattle.std.specs.Str.Pattern.{RFindsChar, FindsTextSuffix, StripsSuffix}
use Rattle.pep440_pick.proofs.Joined.{has_none}
use Rattle.pyver_locks.specs.LockedFiles.{has_slash, last_section, without_ending}
use Rattle.std.specs.Prelude.{bytes_eq, codes}
use Rattle.std.specs.declared.alloc.AllocError.{AllocError}
use Rattle.pyver_locks.specs.KnownEnvironments.{with_names, read_value}
use Rattle.pyver_markers.proofs.Readings.{last_is_value}
use Rattle.pyver_markers.specs.Extents.{setting_of, environment_of}
use Rattle.pyver_markers.specs.Environments.{Assignment, Text, assigned, Setting, Names, Environment}
use Rattle.pyver_markers.specs.MarkerValues.{value}
use Rattle.pyver_markers.specs.declared.environment.Variable.{Variable}
use Rattle.pyver_requirements.proofs.MarkerStepReadings.{steps_are_read}
use Rattle.pyver_requirements.specs.MarkerGrammar.{Marker, DenotesMarker}
use Rattle.pyver_requirements.specs.MarkerSteps.{Step, marker_steps, steps, Misfit}

-- ---- the last section of a path

plain_section : (path : List ℕ) → has_slash path ≡ false → last_section path ≡ path
plain_section [] none = refl
plain_section (b ∷ rest) none = ap (λ c. if c then last_section rest else b ∷ rest) none

slash_within : (front section : List ℕ) → has_slash (front ++ (47 ∷ section)) ≡ true
slash_within [] section = refl
slash_within (b ∷ front) section = by (b == 47) (slash_within front section)
  where
    by : (c : Bool) → has_slash (front ++ (47 ∷ section)) ≡ true → (c || has_slash (front ++ (47 ∷ section))) ≡ true
    by true k = refl
    by false k = k

after_slash : (front section : List ℕ) → has_slash section ≡ false → last_section (front ++ (47 ∷ section)) ≡ section
after_slash [] section none = plain_section section none
after_slash (b ∷ front) section none = ap (λ c. if c then last_section (front ++ (47 ∷ section)) else b ∷ (front ++ (47 ∷ section))) (slash_within (b ∷ front) section) ∙ after_slash front section none

no_slash : (path : List ℕ) → NoCharPasses (λ d. d == 47) path → has_slash path ≡ false
no_slash path none = has_none 47 path (λ i. NoCharPasses-char 47 path i none (omega arith))

-- the clause of `rsplit_once` at `/`
abbrev pub IsLastSplit : List ℕ → Option (Bor (List ℕ) × Bor (List ℕ)) → Type 0
IsLastSplit path r = MatchOption r (RFindsChar 47 path None) (λ x. (i : ℕ) × (j : ℕ) × RFindsChar 47 path (Some (i, j)) × (x.0.now ≡ take i path) × (x.1.now ≡ drop j path) × (i ≤ j) × (length x.0.now ≡ i) × (length x.1.now + j ≡ length path))

pub no_section : (path : List ℕ) (r : Option (Bor (List ℕ) × Bor (List ℕ))) → IsLastSplit path r → r ≡ None → path ≡ last_section path
no_section path None h e = sym (plain_section path (no_slash path h))
no_section path (Some x) h e = cc e

pub section_is : (path : List ℕ) (r : Option (Bor (List ℕ) × Bor (List ℕ))) → IsLastSplit path r → (x : Bor (List ℕ) × Bor (List ℕ)) → r ≡ Some x → x.1.now ≡ last_section path
section_is path None h x e = cc e
section_is path (Some y) h x e =
    let same : y.1.now ≡ x.1.now = cc e in
    let whole : path ≡ take h.0 path ++ (47 ∷ drop h.1 path) = sym (take-append-drop h.0 path) ∙ ap (λ l. take h.0 path ++ l) (drop_at_char 47 path h.0 h.1 h.2.1 (omega arith)) in
    sym same ∙ h.4 ∙ sym (ap last_section whole ∙ after_slash (take h.0 path) (drop h.1 path) (no_slash (drop h.1 path) h.2.0))

-- ---- an ending

pub ending_is : (ending text : List ℕ) (r : Option (Bor (List ℕ))) → MatchOption r (FindsTextSuffix ending text None) (λ x. StripsSuffix (FindsTextSuffix ending) text x.now) → option_map (λ t. t.now) r ≡ without_ending ending text
ending_is ending text None h = ap (λ b. if b then Some (take (length text - length ending) text) else None) (ends_text false ending text h)
ending_is ending text (Some x) h =
    let ends : true ≡ ends_with nat_eq text ending = sym ((ends_is Decides-eqb text ending _ refl).1 _ h.1.1) in
    let front : x.now ≡ take (length text - length ending) text = h.2 ∙ ap (λ n. take (length text - n) text) h.1.0 in
    ap (λ t. Some t) front ∙ ap (λ b. if b then Some (take (length text - length ending) text) else None) ends

-- ---- variables

-- the variable is assigned so
abbrev pub IsAssigned : Variable → Assignment → Type 0
IsAssigned v a = (v.name.now ≡ a.name) × (setting_of v.setting ≡ Text a.text)

first_so : (b : Bool) (v : Variable) (a : Assignment) (later : Option Variable) (others : Option Assignment) → setting_of v.setting ≡ Text a.text
    → option_map (λ (w : Variable). setting_of w.setting) later ≡ option_map (λ (w : Assignment). Text w.text) others
    → option_map (λ (w : Variable). setting_of w.setting) (cond b (Some v) later) ≡ option_map (λ (w : Assignment). Text w.text) (cond b (Some a) others)
first_so true v a later others is rest = ap (λ s. Some s) is
first_so false v a later others is rest = rest

each_so : (vs : List Variable) (all : List Assignment) (name : List ℕ) → AllZip IsAssigned vs all → environment_of vs name ≡ assigned all name
each_so [] [] name h = refl
each_so [] (a ∷ all) name h = absurd h
each_so (v ∷ vs) [] name h = absurd h
each_so (v ∷ vs) (a ∷ all) name h =
    first_so (bytes_eq v.name.now name) v a (find (λ (w : Variable). bytes_eq w.name.now name) vs) (find (λ (w : Assignment). bytes_eq w.name name) all) h.0.1 (each_so vs all name h.1)
    ∙ ap (λ n. option_map (λ (w : Assignment). Text w.text) (cond (bytes_eq n name) (Some a) (find (λ (w : Assignment). bytes_eq w.name name) all))) h.0.0

found_or : (b : Bool) (v : Variable) (s : Setting) (later : Option Variable) (others : Option Setting) → setting_of v.setting ≡ s
    → option_map (λ (w : Variable). setting_of w.setting) later ≡ others → option_map (λ (w : Variable). setting_of w.setting) (cond b (Some v) later) ≡ cond b (Some s) others
found_or true v s later others is rest = ap (λ t. Some t) is
found_or false v s later others is rest = rest

-- the variable is these names
abbrev pub AreNames : List ℕ → List (List ℕ) → Variable → Type 0
AreNames name names v = (v.name.now ≡ name) × (setting_of v.setting ≡ Names names)

module _ (extras groups : List (List ℕ)) (x g : Variable) (are : AreNames (codes "extras") extras x) (those : AreNames (codes "dependency_groups") groups g) where
  names_so : (vs : List Variable) (all : List Assignment) (name : List ℕ) → AllZip IsAssigned vs all → environment_of (x ∷ (g ∷ vs)) name ≡ with_names extras groups (assigned all) name
  names_so vs all name h =
      found_or (bytes_eq x.name.now name) x (Names extras) (find (λ (w : Variable). bytes_eq w.name.now name) (g ∷ vs)) (cond (bytes_eq g.name.now name) (Some (Names groups)) (assigned all name)) are.1
      (found_or (bytes_eq g.name.now name) g (Names groups) (find (λ (w : Variable). bytes_eq w.name.now name) vs) (assigned all name) those.1 (each_so vs all name h))
      ∙ (λ i. cond (bytes_eq (are.0 i) name) (Some (Names extras)) (cond (bytes_eq (those.0 i) name) (Some (Names groups)) (assigned all name)))

  -- what is evaluated with variables is what is in the environment that they are assigned in
  pub evaluated_so : (r : Result (Option Bool) AllocError) (m : Marker) (vs : List Variable) (all : List Assignment) → IfOk r (λ v. v ≡ value (environment_of (x ∷ (g ∷ vs))) m) → AllZip IsAssigned vs all
      → IfOk r (λ v. v ≡ value (with_names extras groups (assigned all)) m)
  evaluated_so r m vs all evaluated h = subst (λ (e : Environment). IfOk r (λ v. v ≡ value e m)) (λ i. λ name. names_so vs all name h i) evaluated

-- ---- markers

pub read_value_so : (e : Environment) (text : List ℕ) (all : List Step) (r : Result (Option Bool) AllocError) → ((m : Marker) × DenotesMarker text m × (all ≡ steps m)) → ((m : Marker) → all ≡ steps m → IfOk r (λ v. v ≡ value e m))
    → IfOk r (λ v. v ≡ read_value e (marker_steps text))
read_value_so e text all r (m, denoted, is) evaluated =
    subst (λ w. IfOk r (λ v. v ≡ w)) (sym (last_is_value e m (steps m) refl) ∙ ap (read_value e) (sym (steps_are_read text m denoted))) (evaluated m is)

pub no_value : (e : Environment) (f : Misfit) (found : Result (List Step) Misfit) → found ≡ Err f → None ≡ read_value e found
no_value e f found is = ap (read_value e) (sym is)

-- the element at a place fails, or holds, and all before it hold
module _ {X : Type 0} (f : X → Bool) (xs : List X) (i : ℕ) (d : X) (b : Bool) (inside : i < length xs) (is : b ≡ f (get_or xs i d)) (so : list_all f xs ≡ list_all f (drop i xs)) where
  pub all_fail : b ≡ false → false ≡ list_all f xs
  all_fail fails_here = sym (so ∙ ap (list_all f) (drop_more xs i d inside) ∙ ap (λ a. a && list_all f (drop (i + 1) xs)) (sym is ∙ fails_here))

  pub all_hold : b ≡ true → list_all f xs ≡ list_all f (drop (i + 1) xs)
  all_hold holds_here = so ∙ ap (list_all f) (drop_more xs i d inside) ∙ ap (λ a. a && list_all f (drop (i + 1) xs)) (sym is ∙ holds_here)
