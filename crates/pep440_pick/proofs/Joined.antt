-- The members of several lists in one, and strings that are split at a byte.
use Rattle.std.proofs.Common.{◌≡◌, ◌∙◌, ◌&&◌, ◌||◌, ℕ, List, [], ◌∷◌, ◌++◌, Bool, true, false, not, length, Option, Some, None, Result, Ok, Err, refl, sym, ap, inl, inr, Bor, ◌≢◌, ◌<◌, ◌==◌, suc, get_or, drop, option_map, arith, eqb-true, if◌then◌else◌}
use Rattle.std.proofs.lemmas.Bool.{cases_Bool}
use Rattle.std.proofs.lemmas.List.Folds.{list_all-append, list_all_at, list_any-append, list_any-from_Any, Any-from_list_any}
use Rattle.std.proofs.lemmas.List.Sorted.{length_permutation, list_any-IsPermutation}
use Rattle.std.proofs.lemmas.List.{nil_from_length}
use Rattle.std.specs.List.{Any, flat_map, list_all, list_any}
use Rattle.std.specs.List.Sorted.{IsPermutation}
use Rattle.std.specs.Option.{option_map_or, MatchOption}
use Rattle.std.specs.Prelude.{IfOk, IsErrOf, is_none}
use Rattle.pep440_ranges.specs.RangeSegments.{contains}
use Rattle.pep440_rs.specs.Agreement.{HoldsInEach}
use Rattle.pep440_rs.specs.Bounds.{Segments, full, list_range, range_of}
use Rattle.pep440_rs.specs.RaisedNumbers.{ReportsMax}
use Rattle.pep440_rs.specs.Specifiers.{Spec}
use Rattle.pep440_rs.specs.declared.range.error.RangeError.{RangeError}
use Rattle.pep440_rs.specs.declared.range.error.RangeError.TheVariants.{NumberAtMax, OutOfMemory}
use Rattle.pep440_rs.proofs.Agreement.ListRanges.{holds_in_each, refused_by_a_member}
use Rattle.pep440_version.specs.Key.{record_cmp}
use Rattle.pep440_version.specs.Record.{Record}
use Rattle.pep440_pick.specs.Allowed.{HoldsAllowed, lists_of}
use Rattle.pep440_pick.specs.RequirementGrammar.{Needed, has_byte}
use Rattle.std.proofs.lemmas.Bool.Decides.{nat_tests}
use Rattle.pep440_pick.specs.Names.{is_name_byte}
use Rattle.pep440_rs.specs.Blanks.{opens}
use Rattle.pep440_pick.specs.RequirementReading.{split_at_byte, without_end}

abbrev pub joined : List (List Spec) → List Spec
joined lists = flat_map (λ (list : List Spec). list) lists

-- ---- tests of each member

not_any : (p : Spec → Bool) (xs : List Spec) → list_all p xs ≡ not (list_any (λ x. not (p x)) xs)
not_any p [] = refl
not_any p (x ∷ xs) = go (p x) (not_any p xs)
  where
    go : (b : Bool) → list_all p xs ≡ not (list_any (λ y. not (p y)) xs) → (b && list_all p xs) ≡ not (not b || list_any (λ y. not (p y)) xs)
    go true h = h
    go false h = refl

all_alike : (p : Spec → Bool) (xs ys : List Spec) → IsPermutation xs ys → list_all p ys ≡ list_all p xs
all_alike p xs ys h = not_any p ys ∙ ap not (sym (list_any-IsPermutation (λ x. not (p x)) xs ys h)) ∙ sym (not_any p xs)

all_joined : (p : Spec → Bool) (lists : List (List Spec)) → list_all p (joined lists) ≡ list_all (λ list. list_all p list) lists
all_joined p [] = refl
all_joined p (list ∷ lists) = list_all-append p list (joined lists) ∙ ap (λ b. list_all p list && b) (all_joined p lists)

any_joined : (p : Spec → Bool) (lists : List (List Spec)) → list_any p (joined lists) ≡ list_any (λ list. list_any p list) lists
any_joined p [] = refl
any_joined p (list ∷ lists) = list_any-append p list (joined lists) ∙ ap (λ b. list_any p list || b) (any_joined p lists)

-- ---- a version in the range of a list is one in the range of each member

abbrev is_held : Option Segments → Record → Bool
is_held range v = option_map_or (λ r. contains record_cmp r v) range false

abbrev in_range : Record → Spec → Bool
in_range v m = is_held (range_of m.operator m.version) v

fails_somewhere : (v : Record) (list : List Spec) → Any (λ (m : Spec). range_of m.operator m.version ≡ None) list → list_all (in_range v) list ≡ false
fails_somewhere v list (k, m, inside, is, none) =
    list_all_at (in_range v) list k m inside (ap (in_range v) is ∙ ap (λ o. is_held o v) none)

in_list : (v : Record) (list : List Spec) → option_map_or (λ r. contains record_cmp r v) (list_range range_of list) false ≡ list_all (in_range v) list
in_list v list = go (list_range range_of list) refl
  where
    go : (o : Option Segments) → list_range range_of list ≡ o → option_map_or (λ r. contains record_cmp r v) (list_range range_of list) false ≡ list_all (in_range v) list
    go (Some range) e = ap (λ (o : Option Segments). option_map_or (λ r. contains record_cmp r v) o false) e ∙ holds_in_each range_of list range e v
    go None e = ap (λ (o : Option Segments). option_map_or (λ r. contains record_cmp r v) o false) e ∙ sym (fails_somewhere v list ((refused_by_a_member range_of list).0 e))

in_lists : (v : Record) (lists : List (List Spec)) → list_all (λ list. list_all (in_range v) list) lists ≡ list_all (λ list. option_map_or (λ r. contains record_cmp r v) (list_range range_of list) false) lists
in_lists v [] = refl
in_lists v (list ∷ lists) = λ i. sym (in_list v list) i && in_lists v lists i

-- ---- a list is refused where a member is

abbrev is_out : Spec → Bool
is_out m = is_none (range_of m.operator m.version)

out_none : (o : Option Segments) → is_none o ≡ true → o ≡ None
out_none None e = refl
out_none (Some range) e = cc e

some_none : (range : Segments) (o : Option Segments) → o ≡ Some range → o ≡ None → ⊥
some_none range o e h = cc

out_in : (list : List Spec) → is_none (list_range range_of list) ≡ list_any is_out list
out_in list = go (list_range range_of list) refl
  where
    go : (o : Option Segments) → list_range range_of list ≡ o → is_none (list_range range_of list) ≡ list_any is_out list
    go None e =
        let (k, m, inside, is, none) = (refused_by_a_member range_of list).0 e in
        ap is_none e ∙ sym (list_any-from_Any is_out list (k, m, inside, is, ap is_none none))
    go (Some range) e = elim (cases_Bool (list_any is_out list)) [
      | inl t ↦
          let (k, m, inside, is, out) = Any-from_list_any is_out list t in
          absurd (some_none range (list_range range_of list) e ((refused_by_a_member range_of list).1 (k, m, inside, is, out_none (range_of m.operator m.version) out)))
      | inr f ↦ ap is_none e ∙ sym f
    ]

abbrev some_refused : List (List Spec) → Bool
some_refused lists = list_any (λ list. is_none (list_range range_of list)) lists

out_of_lists : (lists : List (List Spec)) → list_any (λ list. list_any is_out list) lists ≡ some_refused lists
out_of_lists [] = refl
out_of_lists (list ∷ lists) = λ i. sym (out_in list) i || out_of_lists lists i

-- ---- the range of the members arranged

pub holds_allowed : (lists : List (List Spec)) (members list : List Spec) (range : Segments) → members ≡ joined lists → IsPermutation members list → HoldsInEach range_of list range → HoldsAllowed lists range
holds_allowed lists members list range made same holds = λ v.
    holds v ∙ all_alike (in_range v) members list same ∙ ap (list_all (in_range v)) made ∙ all_joined (in_range v) lists ∙ in_lists v lists

refused_alike : (lists : List (List Spec)) (members list : List Spec) → members ≡ joined lists → IsPermutation members list → is_none (list_range range_of list) ≡ some_refused lists
refused_alike lists members list made same =
    out_in list ∙ sym (list_any-IsPermutation is_out members list same) ∙ ap (list_any is_out) made ∙ any_joined is_out lists ∙ out_of_lists lists

pub refused_allowed : (lists : List (List Spec)) (members list : List Spec) (result : Result Segments RangeError) → members ≡ joined lists → IsPermutation members list
    → IfOk result (λ r. list_range range_of list ≡ Some r) → (IsErrOf result NumberAtMax → list_range range_of list ≡ None) → ReportsMax (some_refused lists) result
refused_allowed lists members list (Ok range) made same is none = sym (refused_alike lists members list made same) ∙ ap is_none is
refused_allowed lists members list (Err NumberAtMax) made same is none = sym (refused_alike lists members list made same) ∙ ap is_none (none refl)
refused_allowed lists members list (Err OutOfMemory) made same is none = tt

pub all_allowed : (lists : List (List Spec)) (members list : List Spec) (range : Segments) → members ≡ joined lists → IsPermutation members list → list_range range_of list ≡ Some range → lists ≡ [] → range ≡ full
all_allowed lists members list range made same is none =
    let empty : members ≡ [] = made ∙ ap joined none in
    let long = length_permutation members list same ∙ ap length empty in
    let nothing : list ≡ [] = nil_from_length list long in
    inside range full (sym is ∙ ap (list_range range_of) nothing)
  where
    inside : (a b : Segments) → Some a ≡ Some b → a ≡ b
    inside a b e = cc

-- ---- the requirements one after another

-- the members so far, and those of the requirements that are left, are all
abbrev pub Gathers : List ℕ → List Spec → List Needed → List Needed → Type 0
Gathers name members left all = members ++ joined (lists_of name left) ≡ joined (lists_of name all)

-- ---- texts cut at a byte

pub name_byte_ascii : (b : ℕ) → is_name_byte b ≡ true → b < 128
name_byte_ascii b e = grind (arith, nat_tests)

abbrev pub HasNo : ℕ → List ℕ → Type 0
HasNo b t = (i : ℕ) → i < length t → get_or t i 0 ≢ b

pub later : (b x : ℕ) (t : List ℕ) → HasNo b (x ∷ t) → HasNo b t
later b x t none i lt = none (suc i) (omega (arith, lt))

pub first : (b x : ℕ) (t : List ℕ) → HasNo b (x ∷ t) → (x == b) ≡ false
first b x t none = elim (cases_Bool (x == b)) [
  | inl e ↦ absurd (none 0 (omega arith) (eqb-true x b e))
  | inr e ↦ e
]

same : (b : ℕ) → (b == b) ≡ true
same b = grind (arith, nat_tests)

pub has_none : (b : ℕ) (t : List ℕ) → HasNo b t → has_byte b t ≡ false
has_none b [] none = refl
has_none b (x ∷ t) none = rw (first b x t none) (has_none b t (later b x t none))

-- ---- the first such byte

pub split_none : (b : ℕ) (t : List ℕ) → has_byte b t ≡ false → split_at_byte b t ≡ None
unfolding split_at_byte
split_none b [] none = refl
split_none b (x ∷ t) none = elim (cases_Bool (x == b)) [
  | inl e ↦ let h = rw e at none in cc h
  | inr e ↦ let h = rw e at none in rw (e, split_none b t h) refl
]

pub split_first : (b : ℕ) (prefix back : List ℕ) → has_byte b prefix ≡ false → split_at_byte b (prefix ++ (b ∷ back)) ≡ Some (prefix, back)
unfolding split_at_byte
split_first b [] back none = rw (same b) refl
split_first b (x ∷ prefix) back none = elim (cases_Bool (x == b)) [
  | inl e ↦ let h = rw e at none in cc h
  | inr e ↦ let h = rw e at none in rw (e, split_first b prefix back h) refl
]

-- ---- the byte at the end

pub end_found : (b : ℕ) (prefix : List ℕ) → without_end b (prefix ++ b ∷ []) ≡ Some prefix
unfolding without_end
end_found b [] = rw (same b) refl
end_found b (x ∷ []) = rw (same b) refl
end_found b (x ∷ y ∷ prefix) = ap (option_map (λ t. x ∷ t)) (end_found b (y ∷ prefix))

pub end_none : (b : ℕ) (t : List ℕ) → ((prefix : List ℕ) → t ≢ prefix ++ b ∷ []) → without_end b t ≡ None
unfolding without_end
end_none b [] none = refl
end_none b (x ∷ []) none = elim (cases_Bool (x == b)) [
  | inl e ↦ absurd (none [] (ap (λ z. z ∷ []) (eqb-true x b e)))
  | inr e ↦ rw e refl
]
end_none b (x ∷ y ∷ t) none = ap (option_map (λ s. x ∷ s)) (end_none b (y ∷ t) (λ prefix e. none (x ∷ prefix) (ap (λ s. x ∷ s) e)))

-- ---- what the calls of a text give

pub split_is : (b : ℕ) (t : List ℕ) (r : Option (Bor (List ℕ) × Bor (List ℕ))) → MatchOption r (HasNo b t) (λ x. (t ≡ x.0.now ++ (b ∷ x.1.now)) × HasNo b x.0.now)
    → option_map (λ x. (x.0.now, x.1.now)) r ≡ split_at_byte b t
split_is b t None none = sym (split_none b t (has_none b t none))
split_is b t (Some x) parts = sym (ap (split_at_byte b) parts.0 ∙ split_first b x.0.now x.1.now (has_none b x.0.now parts.1))

pub end_is : (b : ℕ) (t : List ℕ) (r : Option (Bor (List ℕ))) → MatchOption r ((prefix : List ℕ) → t ≢ prefix ++ (b ∷ [])) (λ x. t ≡ x.now ++ (b ∷ []))
    → option_map (λ x. x.now) r ≡ without_end b t
end_is b t None none = sym (end_none b t none)
end_is b t (Some x) is = sym (ap (without_end b) is ∙ end_found b x.now)

prefix_none : (b : ℕ) (t : List ℕ) → ((rest : List ℕ) → t ≢ b ∷ rest) → opens b t ≡ false
prefix_none b [] none = refl
prefix_none b (x ∷ t) none = elim (cases_Bool (x == b)) [
  | inl e ↦ absurd (none t (ap (λ z. z ∷ t) (eqb-true x b e)))
  | inr e ↦ e
]

prefix_some : (b : ℕ) (t rest : List ℕ) → t ≡ b ∷ rest → (if opens b t then Some (drop 1 t) else None) ≡ Some rest
prefix_some b t rest e = rw (e, same b) refl

pub prefix_is : (b : ℕ) (t : List ℕ) (r : Option (Bor (List ℕ))) → MatchOption r ((rest : List ℕ) → t ≢ b ∷ rest) (λ x. t ≡ b ∷ x.now)
    → option_map (λ x. x.now) r ≡ (if opens b t then Some (drop 1 t) else None)
prefix_is b t None none = rw (prefix_none b t none) refl
prefix_is b t (Some x) is = sym (prefix_some b t x.now is)
