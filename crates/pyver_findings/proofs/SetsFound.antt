-- Lines that ask in one environment and have no version in common: some that ask there are reported, or something is undecided.
use Rattle.std.proofs.Common.{arith, ◌≡◌, ◌<◌, ◌≤◌, ◌⊎◌, ◌∙◌, ◌||◌, ℕ, List, [], ◌∷◌, ◌++◌, Bool, true, false, not, Option, Some, None, ap, bytes_eq, inl, inr, is_none, length, map, nat_lt, refl, subst, sym, if◌then◌else◌, ◌&&◌, ◌==◌, option_map, suc, zero}
use Rattle.std.proofs.lemmas.Bool.{ltb-true, true≢false, eqb-true}
use Rattle.std.proofs.lemmas.List.Elements.{All-cons, All-contains, All-contains_itself, All-filter, All-head, All-nil, All-tail, All-weaker, filter_passes}
use Rattle.std.specs.List.{All, Any, Contains, filter, flat_map, list_any, remove}
use Rattle.pyver_findings.proofs.Complete.{asked_sound, none_found, of_lines}
use Rattle.pyver_findings.proofs.Grouping.{HasKey, Some_is, all_found, any_is, contains_key, in_left, in_right, name_alike, name_yes, ones_of, same_filter, some_lines, marker_alike, marker_yes, none_before}
use Rattle.pyver_findings.proofs.Holding.{asks_alike, asks_beside, both, mapped, none_yes}
use Rattle.pyver_findings.proofs.MarkedConflicts.{Tells, contains_told, of_marker_of, of_name_of, tells_left, tells_right}
use Rattle.pyver_findings.proofs.SmallestLists.{all_smallest, smallest_none, Allows, more_none, sound_unmarked}
use Rattle.pyver_findings.specs.Conflicts.{conflict_kind, first_mentions, has_same_marker, has_same_name, have_none, of_all, same_marker, smallest, unmarked}
use Rattle.pyver_findings.specs.Demands.{Demand, IsSound}
use Rattle.pyver_findings.specs.FileLines.{Conflicting, FileLine, Finding, all_lines}
use Rattle.pyver_findings.specs.FindingLaws.{ConflictsHaveFindings, HaveNone, IsAmong, IsAmongIn, IsOneIn, IsUndecided, SetsHaveFindings}
use Rattle.pyver_findings.specs.MarkedConflicts.{AsksIn, FindsByUnmarked, FindsDecided, FindsOfEach, FindsOfFirsts, FindsOfMarkers, FindsOfName, FindsOfNames, FindsOfSet, FindsOfSets, IsDecision, conflicting_sets, counts_with, everywhere, first_lines, lines_to_pair, open_lines, under_any, Branch, ConflictingSets, branches, branches_of, conflicting_pair, conflicting_pairs, has_all, others_than, search_branches, set_among, smallest_set, with_first, with_set}
use Rattle.pyver_findings.specs.Reports.{Report, demands_in, found_in, left_out_in}
use Rattle.pyver_requirements.specs.declared.cause.Cause.{Cause}
use Rattle.pyver_requirements.specs.declared.cause.Cause.TheVariants as cause
use Rattle.pyver_findings.specs.declared.marked_conflicts.Decision.{Decision}
use Rattle.pyver_findings.specs.declared.marked_conflicts.Decision.TheVariants.{Apart, Together, Unknown}
use Rattle.pyver_markers.specs.Conditions.{Domain, IsEnvironment}
use Rattle.pyver_markers.specs.Environments.{Environment}
use Rattle.std.proofs.lemmas.List.Folds.{list_any-append}
use Rattle.std.specs.Prelude.{⊤, get_or, is_some, slice_index_or}
use Rattle.pep440_version.specs.Record.{Record}

-- ---- lists with keys

module _ {K : Type 0} (key : Demand → K) where
  has_more : (k : K) (xs ys : List Demand) → HasKey key k xs → HasKey key k (xs ++ ys)
  has_more k [] ys h = absurd h
  has_more k (x ∷ xs) ys (inl is) = inl is
  has_more k (x ∷ xs) ys (inr h) = inr (has_more k xs ys h)

  has_last : (k : K) (x : Demand) (xs : List Demand) → key x ≡ k → HasKey key k (xs ++ x ∷ [])
  has_last k x [] is = inl is
  has_last k x (y ∷ xs) is = inr (has_last k x xs is)

  -- some element that passes the test has it
  passes_by : (p : Demand → Bool) (k : K) (b : Bool) (x : Demand) (xs rest : List Demand) → p x ≡ b → (key x ≡ k → p x ≡ true) → HasKey key k (x ∷ xs) → (HasKey key k xs → HasKey key k rest) → HasKey key k (if b then x ∷ rest else rest)
  passes_by p k true x xs rest is so (inl e) others = inl e
  passes_by p k true x xs rest is so (inr g) others = inr (others g)
  passes_by p k false x xs rest is so (inl e) others = absurd (true≢false (sym (so e) ∙ is))
  passes_by p k false x xs rest is so (inr g) others = others g

  pub passes : (p : Demand → Bool) (k : K) → ((x : Demand) → key x ≡ k → p x ≡ true) → (xs : List Demand) → HasKey key k xs → HasKey key k (filter p xs)
  passes p k so [] h = absurd h
  passes p k so (x ∷ xs) h = passes_by p k (p x) x xs (filter p xs) refl (so x) h (passes p k so xs)

  -- the first mention of a key has it
  module _ (same : Demand → Demand → Bool) (keyed : (a b : Demand) → same a b ≡ true → key a ≡ key b) (alike : (a b : Demand) → key a ≡ key b → same a b ≡ true) (a : Demand) where
    first_here : (x : Demand) (before rest : List Demand) → key x ≡ key a → list_any (same a) before ≡ false → HasKey key (key a) ((if list_any (same x) before then [] else x ∷ []) ++ rest)
    first_here x before rest k none =
        subst (λ b. HasKey key (key a) ((if b then [] else x ∷ []) ++ rest)) (sym (none_before key same keyed alike a x k before none)) (inl k)

    first_later : (b : Bool) (x : Demand) (rest : List Demand) → HasKey key (key a) rest → HasKey key (key a) ((if b then [] else x ∷ []) ++ rest)
    first_later true x rest h = h
    first_later false x rest h = inr h

    mentioned_by : (b : Bool) (x : Demand) (before rest : List Demand) → same a x ≡ b → list_any (same a) before ≡ false → (key x ≡ key a) ⊎ HasKey key (key a) rest
        → (list_any (same a) (before ++ x ∷ []) ≡ false → HasKey key (key a) rest → HasKey key (key a) (first_mentions same (before ++ x ∷ []) rest))
        → HasKey key (key a) ((if list_any (same x) before then [] else x ∷ []) ++ first_mentions same (before ++ x ∷ []) rest)
    mentioned_by true x before rest is none has later = first_here x before (first_mentions same (before ++ x ∷ []) rest) (sym (keyed a x is)) none
    mentioned_by false x before rest is none (inl k) later = absurd (true≢false (sym (alike a x (sym k)) ∙ is))
    mentioned_by false x before rest is none (inr has) later =
        first_later (list_any (same x) before) x (first_mentions same (before ++ x ∷ []) rest) (later (list_any-append (same a) before (x ∷ []) ∙ (λ j. none j || (is j || false))) has)

    pub mentioned : (before lines : List Demand) → list_any (same a) before ≡ false → HasKey key (key a) lines → HasKey key (key a) (first_mentions same before lines)
    mentioned before [] none has = absurd has
    mentioned before (x ∷ rest) none has = mentioned_by (same a x) x before rest refl none has (mentioned (before ++ x ∷ []) rest)

-- ---- first lines of markers

kept_first : (b : Bool) (m : Option (List ℕ)) (firsts : List Demand) (x : Demand) → HasKey (λ (y : Demand). y.marker) m firsts → HasKey (λ (y : Demand). y.marker) m (if b then firsts else firsts ++ x ∷ [])
kept_first true m firsts x h = h
kept_first false m firsts x h = has_more (λ (y : Demand). y.marker) m firsts (x ∷ []) h

first_kept : (m : Option (List ℕ)) (firsts lines : List Demand) → HasKey (λ (y : Demand). y.marker) m firsts → HasKey (λ (y : Demand). y.marker) m (first_lines firsts lines)
first_kept m firsts [] h = h
first_kept m firsts (x ∷ rest) h = first_kept m (with_first firsts x) rest (kept_first (is_none x.marker || list_any (has_same_marker x) firsts) m firsts x h)

any_by : (b : Bool) (x y : Demand) (firsts : List Demand) → has_same_marker x y ≡ b → (b || list_any (has_same_marker x) firsts) ≡ true → (list_any (has_same_marker x) firsts ≡ true → HasKey (λ (z : Demand). z.marker) x.marker firsts)
    → HasKey (λ (z : Demand). z.marker) x.marker (y ∷ firsts)
any_by true x y firsts is e others = inl (sym (marker_yes x.marker y.marker is))
any_by false x y firsts is e others = inr (others e)

-- a line has the marker of one of those that have it
pub any_key : (x : Demand) (firsts : List Demand) → list_any (has_same_marker x) firsts ≡ true → HasKey (λ (y : Demand). y.marker) x.marker firsts
any_key x [] e = absurd (true≢false (sym e))
any_key x (y ∷ firsts) e = any_by (has_same_marker x y) x y firsts refl e (any_key x firsts)

has_first : (m : List ℕ) (b : Bool) (firsts : List Demand) (x : Demand) → x.marker ≡ Some m → list_any (has_same_marker x) firsts ≡ b
    → HasKey (λ (y : Demand). y.marker) (Some m) (if is_none x.marker || b then firsts else firsts ++ x ∷ [])
has_first m true firsts x is e =
    subst (λ n. HasKey (λ (y : Demand). y.marker) (Some m) (if is_none n || true then firsts else firsts ++ x ∷ [])) (sym is) (subst (λ n. HasKey (λ (y : Demand). y.marker) n firsts) is (any_key x firsts e))
has_first m false firsts x is e =
    subst (λ n. HasKey (λ (y : Demand). y.marker) (Some m) (if is_none n || false then firsts else firsts ++ x ∷ [])) (sym is) (has_last (λ (y : Demand). y.marker) (Some m) x firsts is)

pub first_found : (m : List ℕ) (firsts lines : List Demand) → HasKey (λ (y : Demand). y.marker) (Some m) lines → HasKey (λ (y : Demand). y.marker) (Some m) (first_lines firsts lines)
first_found m firsts [] h = absurd h
first_found m firsts (x ∷ rest) (inl is) =
    first_kept (Some m) (with_first firsts x) rest
    (subst (λ b. HasKey (λ (y : Demand). y.marker) (Some m) (if is_none x.marker || b then firsts else firsts ++ x ∷ [])) refl (has_first m (list_any (has_same_marker x) firsts) firsts x is refl))
first_found m firsts (x ∷ rest) (inr h) = first_found m (with_first firsts x) rest h

-- ---- markers of lists

left_or : (a b : Bool) → a ≡ true → (a || b) ≡ true
left_or a b e = ap (λ c. c || b) e

right_or : (a b : Bool) → b ≡ true → (a || b) ≡ true
right_or true b e = refl
right_or false b e = e

-- some line has the marker
abbrev pub Marks : Option (List ℕ) → List Demand → Type 0
Marks m xs = HasKey (λ (x : Demand). x.marker) m xs

pub any_marked : (x : Demand) (xs : List Demand) → Marks x.marker xs → list_any (has_same_marker x) xs ≡ true
any_marked x [] h = absurd h
any_marked x (y ∷ xs) (inl is) = left_or (has_same_marker x y) (list_any (has_same_marker x) xs) (marker_alike x.marker y.marker (sym is))
any_marked x (y ∷ xs) (inr h) = right_or (has_same_marker x y) (list_any (has_same_marker x) xs) (any_marked x xs h)

in_one_of : (m : Option (List ℕ)) (xs ys : List Demand) → Marks m (xs ++ ys) → Marks m xs ⊎ Marks m ys
in_one_of m [] ys h = inr h
in_one_of m (x ∷ xs) ys (inl is) = inl (inl is)
in_one_of m (x ∷ xs) ys (inr h) = elim (in_one_of m xs ys h) [ inl here ↦ inl (inr here) | inr there ↦ inr there ]

marks_right : (m : Option (List ℕ)) (xs ys : List Demand) → Marks m ys → Marks m (xs ++ ys)
marks_right m [] ys h = h
marks_right m (x ∷ xs) ys h = inr (marks_right m xs ys h)

marks_left : (m : Option (List ℕ)) (xs ys : List Demand) → Marks m xs → Marks m (xs ++ ys)
marks_left m xs ys h = has_more (λ (x : Demand). x.marker) m xs ys h

-- each marker of these the others have
abbrev pub Within : List Demand → List Demand → Type 0
Within xs ys = (m : Option (List ℕ)) → Marks m xs → Marks m ys

-- the same, but for lines without a marker
abbrev pub Covers : List Demand → List Demand → Type 0
Covers xs ys = (m : List ℕ) → Marks (Some m) xs → Marks (Some m) ys

other_by : (a : Demand) (m : Option (List ℕ)) (free : List Demand) (b : Bool) → same_marker a.marker m ≡ b → Marks m free → (a.marker ≡ m) ⊎ Marks m (others_than a free)
other_by a m free true is h = inl (marker_yes a.marker m is)
other_by a m free false is h = inr (passes (λ (x : Demand). x.marker) (λ (x : Demand). not (has_same_marker a x)) m (λ x e. ap (λ n. not (same_marker a.marker n)) e ∙ ap not is) free h)

other_or : (a : Demand) (m : Option (List ℕ)) (free : List Demand) → Marks m free → (a.marker ≡ m) ⊎ Marks m (others_than a free)
other_or a m free h = other_by a m free (same_marker a.marker m) refl h

counts_by : (t : Demand) (firsts : List Demand) (n : Option (List ℕ)) → t.marker ≡ n → ((m : List ℕ) → t.marker ≡ Some m → Marks (Some m) firsts) → counts_with firsts t ≡ true
counts_by t firsts None is h = ap (λ n. is_none n || list_any (has_same_marker t) firsts) is
counts_by t firsts (Some m) is h = right_or (is_none t.marker) (list_any (has_same_marker t) firsts) (any_marked t firsts (subst (λ n. Marks n firsts) (sym is) (h m is)))

-- what counts with these and has a marker has one of theirs
counted_marks : (firsts : List Demand) (m : List ℕ) (ks : List Demand) → All (λ k. counts_with firsts k ≡ true) ks → Marks (Some m) ks → Marks (Some m) firsts
counted_marks firsts m [] counts h = absurd h
counted_marks firsts m (k ∷ ks) counts (inl is) =
    let here = All-head (λ k. counts_with firsts k ≡ true) k ks counts in
    subst (λ n. Marks n firsts) is (any_key k firsts (ap (λ n. is_none n || list_any (has_same_marker k) firsts) (sym is) ∙ here))
counted_marks firsts m (k ∷ ks) counts (inr h) = counted_marks firsts m ks (All-tail (λ k. counts_with firsts k ≡ true) k ks counts) h

tail_passed : {X : Type 0} (P : X → Type 0) (b : Bool) (y : X) (zs : List X) → All P (if b then y ∷ zs else zs) → All P zs
tail_passed P true y zs k = All-tail P y zs k
tail_passed P false y zs k = k

at_passed : (P : Demand → Type 0) (q : Demand → Bool) (x : Demand) (xs : List Demand) → HasKey (λ (y : Demand). y) x xs → q x ≡ true → All P (filter q xs) → P x
at_passed P q x [] h e k = absurd h
at_passed P q x (y ∷ ys) (inl is) e k = subst P is (All-head P y (filter q ys) (subst (λ b. All P (if b then y ∷ filter q ys else filter q ys)) (ap q is ∙ e) k))
at_passed P q x (y ∷ ys) (inr h) e k = at_passed P q x ys h e (tail_passed P (q y) y (filter q ys) k)

pub passed_contains : (q : Demand → Bool) (xs : List Demand) (x : Demand) → Contains xs x → q x ≡ true → Contains (filter q xs) x
passed_contains q xs x (k, inside, is) e = at_passed (Contains (filter q xs)) q x xs (contains_key (λ (y : Demand). y) x xs k inside is) e (All-contains_itself (filter q xs))

-- ---- some of a list

abbrev pub Some_of : {X : Type 0} → (X → Type 0) → List X → Type 0
Some_of P [] = ⊥
Some_of P (x ∷ xs) = P x ⊎ Some_of P xs

some_left : {X : Type 0} (P : X → Type 0) (xs ys : List X) → Some_of P xs → Some_of P (xs ++ ys)
some_left P [] ys h = absurd h
some_left P (x ∷ xs) ys (inl p) = inl p
some_left P (x ∷ xs) ys (inr h) = inr (some_left P xs ys h)

some_right : {X : Type 0} (P : X → Type 0) (xs ys : List X) → Some_of P ys → Some_of P (xs ++ ys)
some_right P [] ys h = h
some_right P (x ∷ xs) ys h = inr (some_right P xs ys h)

-- ---- branches

-- what asks has each marker that is kept, and no others than these and those that are free
abbrev pub Leads : List Demand → Branch → Type 0
Leads asking b = Within b.kept asking × Covers asking (b.kept ++ b.free)

module _ (asking : List Demand) where
  more_within : (a : Demand) (set : List Demand) → Marks a.marker asking → Within set asking → Within (a ∷ set) asking
  more_within a set here rest m (inl is) = subst (λ n. Marks n asking) is here
  more_within a set here rest m (inr h) = rest m h

  kept_within : (kept : List Demand) (a : Demand) → Within kept asking → Marks a.marker asking → Within (kept ++ a ∷ []) asking
  kept_within kept a w here m h = elim (in_one_of m kept (a ∷ []) h) [
    | inl before ↦ w m before
    | inr last ↦ elim last [ inl is ↦ subst (λ n. Marks n asking) is here | inr none ↦ absurd none ]
  ]

  -- the first marker is left out
  left_out : (kept free : List Demand) (a : Demand) → list_any (has_same_marker a) asking ≡ false → Covers asking (kept ++ free) → Covers asking (kept ++ others_than a free)
  left_out kept free a absent covers m h = elim (in_one_of (Some m) kept free (covers m h)) [
    | inl before ↦ marks_left (Some m) kept (others_than a free) before
    | inr behind ↦ elim (other_or a (Some m) free behind) [
      | inl is ↦ absurd (true≢false (sym (any_marked a asking (subst (λ n. Marks n asking) (sym is) h)) ∙ absent))
      | inr there ↦ marks_right (Some m) kept (others_than a free) there
    ]
  ]

  -- it is kept
  kept_too : (kept free : List Demand) (a : Demand) → Covers asking (kept ++ free) → Covers asking ((kept ++ a ∷ []) ++ others_than a free)
  kept_too kept free a covers m h = elim (in_one_of (Some m) kept free (covers m h)) [
    | inl before ↦ marks_left (Some m) (kept ++ a ∷ []) (others_than a free) (marks_left (Some m) kept (a ∷ []) before)
    | inr behind ↦ elim (other_or a (Some m) free behind) [
      | inl is ↦ marks_left (Some m) (kept ++ a ∷ []) (others_than a free) (marks_right (Some m) kept (a ∷ []) (inl is))
      | inr there ↦ marks_right (Some m) (kept ++ a ∷ []) (others_than a free) there
    ]
  ]

  branch_by : (kept free : List Demand) (a : Demand) (set : List Demand) (k t : Bool) → list_any (has_same_marker a) kept ≡ k → list_any (has_same_marker a) asking ≡ t → Within kept asking → Covers asking (kept ++ free)
      → (Within set asking ⊎ Some_of (Leads asking) (branches kept free set))
      → (Within (kept ++ a ∷ []) asking → Covers asking ((kept ++ a ∷ []) ++ others_than a free) → Within set asking ⊎ Some_of (Leads asking) (branches (kept ++ a ∷ []) (others_than a free) set))
      → Within (a ∷ set) asking ⊎ Some_of (Leads asking) (if k then branches kept free set else record { kept = kept; free = others_than a free } ∷ branches (kept ++ a ∷ []) (others_than a free) set)
  branch_by kept free a set true t is so w covers same next = elim same [
    | inl rest ↦ inl (more_within a set (w a.marker (any_key a kept is)) rest)
    | inr some ↦ inr some
  ]
  branch_by kept free a set false false is so w covers same next = inr (inl (w, left_out kept free a so covers))
  branch_by kept free a set false true is so w covers same next =
      let here = any_key a asking so in
      elim (next (kept_within kept a w here) (kept_too kept free a covers)) [
        | inl rest ↦ inl (more_within a set here rest)
        | inr some ↦ inr (inr some)
      ]

  -- all markers of the set ask, or a branch leads to what does
  branch_found : (kept free set : List Demand) → Within kept asking → Covers asking (kept ++ free) → Within set asking ⊎ Some_of (Leads asking) (branches kept free set)
  branch_found kept free [] w covers = inl (λ m h. absurd h)
  branch_found kept free (a ∷ set) w covers =
      branch_by kept free a set (list_any (has_same_marker a) kept) (list_any (has_same_marker a) asking) refl refl w covers (branch_found kept free set w covers)
      (λ more left. branch_found (kept ++ a ∷ []) (others_than a free) set more left)

-- ---- sets that are found

-- the lines under the markers of a set are sound where all are
pub sound_under_any : (set lines : List Demand) → All IsSound lines → All IsSound (under_any set lines)
sound_under_any set lines sound = All-filter (counts_with set) IsSound lines sound

-- a set more
pub set_more : (lines firsts : List Demand) (sets : List (List Demand)) (set : List Demand) → set_among firsts sets ≡ None → have_none (under_any firsts lines) ≡ true → set ≡ smallest_set lines firsts → sets ++ set ∷ [] ≡ with_set lines firsts sets
set_more lines firsts sets set none apart is = (λ j. sets ++ is j ∷ []) ∙ sym (λ j. if is_none (none j) && apart j then sets ++ smallest_set lines firsts ∷ [] else sets)

pub not_some : {X Y : Type 0} (f : X → Y) (o : Option X) → is_some o ≡ false → option_map f o ≡ None
not_some f None e = refl
not_some f (Some x) e = absurd (true≢false e)

is_by : (firsts set s : List Demand) (sets : List (List Demand)) (b : Bool) → (set_among firsts sets ≡ Some set → Some_of (λ t. t ≡ set) sets) → (if b then Some s else set_among firsts sets) ≡ Some set → (s ≡ set) ⊎ Some_of (λ t. t ≡ set) sets
is_by firsts set s sets true later is = inl (cc is)
is_by firsts set s sets false later is = inr (later is)

among_is : (firsts : List Demand) (sets : List (List Demand)) (set : List Demand) → set_among firsts sets ≡ Some set → Some_of (λ s. s ≡ set) sets
among_is firsts [] set is = cc is
among_is firsts (s ∷ sets) set is = is_by firsts set s sets (has_all firsts s) (among_is firsts sets set) is

last_by : (s : List Demand) (before after : Option (List Demand)) (set : List Demand) (b : Bool) → (before ≡ None → after ≡ Some set) → (if b then Some s else before) ≡ None → (if b then Some s else after) ≡ Some set
last_by s before after set true later none = cc none
last_by s before after set false later none = later none

among_last : (firsts : List Demand) (sets : List (List Demand)) (set : List Demand) → set_among firsts sets ≡ None → has_all firsts set ≡ true → set_among firsts (sets ++ set ∷ []) ≡ Some set
among_last firsts [] set none all = ap (λ b. if b then Some set else None) all
among_last firsts (s ∷ sets) set none all = last_by s (set_among firsts sets) (set_among firsts (sets ++ set ∷ [])) set (has_all firsts s) (λ n. among_last firsts sets set n all) none

filtered_by : (firsts : List Demand) (x : Demand) (xs : List Demand) (b : Bool) → list_any (has_same_marker x) firsts ≡ true → has_all firsts xs ≡ true → has_all firsts (if b then x ∷ xs else xs) ≡ true
filtered_by firsts x xs true here others = (λ j. here j && others j)
filtered_by firsts x xs false here others = others

has_filtered : (firsts : List Demand) (q : Demand → Bool) (xs : List Demand) → Within xs firsts → has_all firsts (filter q xs) ≡ true
has_filtered firsts q [] w = refl
has_filtered firsts q (x ∷ xs) w = filtered_by firsts x (filter q xs) (q x) (any_marked x firsts (w x.marker (inl refl))) (has_filtered firsts q xs (λ m h. w m (inr h)))

module _ (lines : List Demand) (sound : All IsSound lines) where
  -- what all of these lines allow that count with `firsts`, all allow that have their markers
  allow_all : (v : Record) (firsts ts : List Demand) → All (Contains lines) ts → Covers ts firsts → All (Allows v) (under_any firsts lines) → All (Allows v) ts
  allow_all v firsts [] known covers all = All-nil (Allows v)
  allow_all v firsts (t ∷ ts) known covers all =
      let (k, inside, is) = All-head (Contains lines) t ts known in
      All-cons (Allows v) t ts
      (at_passed (Allows v) (counts_with firsts) t lines (contains_key (λ (y : Demand). y) t lines k inside is) (counts_by t firsts t.marker refl (λ m e. covers m (inl e))) all)
      (allow_all v firsts ts (All-tail (Contains lines) t ts known) (λ m h. covers m (inr h)) all)

  -- no version is common to the lines of these markers
  abbrev pub AreApart : List Demand → Type 0
  AreApart set = have_none (under_any set lines) ≡ true

  pub apart_of : (firsts ts : List Demand) → All (Contains lines) ts → Covers ts firsts → have_none ts ≡ true → AreApart firsts
  apart_of firsts ts known covers none =
      more_none ts (under_any firsts lines) (All-weaker (Contains lines) IsSound (λ a is. All-contains IsSound lines a sound is) ts known) (sound_under_any firsts lines sound) (λ v all. allow_all v firsts ts known covers all) none

  smallest_apart : (firsts : List Demand) → AreApart firsts → AreApart (smallest_set lines firsts)
  smallest_apart firsts none =
      let these = under_any firsts lines in
      let some = smallest these in
      apart_of (smallest_set lines firsts) some (all_smallest (Contains lines) these (All-filter (counts_with firsts) (Contains lines) lines (All-contains_itself lines)))
      (λ m h. passes (λ (x : Demand). x.marker) (λ (x : Demand). list_any (has_same_marker x) some) (Some m) (λ x is. any_marked x some (subst (λ n. Marks n some) (sym is) h)) firsts
      (counted_marks firsts m some (all_smallest (λ k. counts_with firsts k ≡ true) these (filter_passes (counts_with firsts) lines)) h))
      (smallest_none these none)

  abbrev pub AllApart : List (List Demand) → Type 0
  AllApart [] = ⊤
  AllApart (set ∷ sets) = AreApart set × AllApart sets

  both_apart : (sets more : List (List Demand)) → AllApart sets → AllApart more → AllApart (sets ++ more)
  both_apart [] more k l = l
  both_apart (set ∷ sets) more k l = (k.0, both_apart sets more k.1 l)

  set_apart : (set : List Demand) (sets : List (List Demand)) → AllApart sets → Some_of (λ s. s ≡ set) sets → AreApart set
  set_apart set [] k h = absurd h
  set_apart set (s ∷ sets) k (inl is) = subst AreApart is k.0
  set_apart set (s ∷ sets) k (inr h) = set_apart set sets k.1 h

  pair_by : (a b : Demand) (none : Bool) → have_none (under_any (a ∷ (b ∷ [])) lines) ≡ none → AllApart (if none then (a ∷ (b ∷ [])) ∷ [] else [])
  pair_by a b true is = (is, tt)
  pair_by a b false is = tt

  pairs_by : (a : Demand) (rest : List Demand) → AllApart (flat_map (conflicting_pair lines a) rest)
  pairs_by a [] = tt
  pairs_by a (b ∷ rest) = both_apart (conflicting_pair lines a b) (flat_map (conflicting_pair lines a) rest) (pair_by a b (have_none (under_any (a ∷ (b ∷ [])) lines)) refl) (pairs_by a rest)

  pairs_apart : (firsts : List Demand) → AllApart (conflicting_pairs lines firsts)
  pairs_apart [] = tt
  pairs_apart (a ∷ rest) = both_apart (flat_map (conflicting_pair lines a) rest) (conflicting_pairs lines rest) (pairs_by a rest) (pairs_apart rest)

  more_by : (firsts : List Demand) (sets : List (List Demand)) (b none : Bool) → have_none (under_any firsts lines) ≡ none → AllApart sets → AllApart (if b && none then sets ++ smallest_set lines firsts ∷ [] else sets)
  more_by firsts sets true true is k = both_apart sets (smallest_set lines firsts ∷ []) k (smallest_apart firsts is, tt)
  more_by firsts sets true false is k = k
  more_by firsts sets false none is k = k

  more_apart : (firsts : List Demand) (sets : List (List Demand)) → AllApart sets → AllApart (with_set lines firsts sets)
  more_apart firsts sets k = more_by firsts sets (is_none (set_among firsts sets)) (have_none (under_any firsts lines)) refl k

  -- a set is among those whose lines have no version in common
  among_by : (firsts : List Demand) (sets : List (List Demand)) (o : Option (List Demand)) → set_among firsts sets ≡ o → AreApart firsts → (set : List Demand) × (set_among firsts (with_set lines firsts sets) ≡ Some set)
  among_by firsts sets (Some set) is none = (set, ap (λ p. set_among firsts (if is_none p && have_none (under_any firsts lines) then sets ++ smallest_set lines firsts ∷ [] else sets)) is ∙ is)
  among_by firsts sets None is none =
      let set = smallest_set lines firsts in (
        set,
        (λ j. set_among firsts (if is_none (is j) && none j then sets ++ set ∷ [] else sets))
            ∙ among_last firsts sets set is (has_filtered firsts (λ (x : Demand). list_any (has_same_marker x) (smallest (under_any firsts lines))) firsts (λ m h. h)),
      )

  -- ---- the search

  module _ (asking : List Demand) (known : All (Contains lines) asking) (none : have_none asking ≡ true) where
    -- all markers of the set ask
    abbrev pub Hits : List Demand → Type 0
    Hits set = Within set asking × AreApart set

    abbrev pub IsReached : ConflictingSets → Type 0
    IsReached found = (found.whole ≡ false) ⊎ Some_of Hits found.sets

    hit_more : (b : Bool) (sets : List (List Demand)) (set : List Demand) → Some_of Hits sets → Some_of Hits (if b then sets ++ set ∷ [] else sets)
    hit_more true sets set h = some_left Hits sets (set ∷ []) h
    hit_more false sets set h = h

    hit_of : (set : List Demand) (sets : List (List Demand)) → Hits set → Some_of (λ s. s ≡ set) sets → Some_of Hits sets
    hit_of set [] hit h = absurd h
    hit_of set (s ∷ sets) hit (inl is) = inl (subst Hits (sym is) hit)
    hit_of set (s ∷ sets) hit (inr h) = inr (hit_of set sets hit h)

    visited : (b : Branch) (sets : List (List Demand)) → AllApart sets → Leads asking b
        → Some_of Hits (with_set lines (b.kept ++ b.free) sets) ⊎ Some_of (Leads asking) (branches_of b (set_among (b.kept ++ b.free) (with_set lines (b.kept ++ b.free) sets)))
    visited b sets k (w, covers) =
        let firsts = b.kept ++ b.free in
        let more = with_set lines firsts sets in
        let (set, is) = among_by firsts sets (set_among firsts sets) refl (apart_of firsts asking known covers none) in
        let inside = among_is firsts more set is in
        elim (branch_found asking b.kept b.free set w covers) [
          | inl within ↦ inl (hit_of set more (within, set_apart set more (more_apart firsts sets k) inside) inside)
          | inr some ↦ inr (subst (λ o. Some_of (Leads asking) (branches_of b o)) (sym is) some)
        ]

    next : (b : Branch) (queue : List Branch) (sets : List (List Demand)) → AllApart sets → Some_of Hits sets ⊎ (Leads asking b ⊎ Some_of (Leads asking) queue)
        → Some_of Hits (with_set lines (b.kept ++ b.free) sets) ⊎ Some_of (Leads asking) (queue ++ branches_of b (set_among (b.kept ++ b.free) (with_set lines (b.kept ++ b.free) sets)))
    next b queue sets k (inl hit) =
        let firsts = b.kept ++ b.free in
        inl (hit_more (is_none (set_among firsts sets) && have_none (under_any firsts lines)) sets (smallest_set lines firsts) hit)
    next b queue sets k (inr (inr later)) =
        let firsts = b.kept ++ b.free in
        inr (some_left (Leads asking) queue (branches_of b (set_among firsts (with_set lines firsts sets))) later)
    next b queue sets k (inr (inl here)) =
        let firsts = b.kept ++ b.free in
        elim (visited b sets k here) [
          | inl hit ↦ inl hit
          | inr some ↦ inr (some_right (Leads asking) queue (branches_of b (set_among firsts (with_set lines firsts sets))) some)
        ]

    search_found : (tries : ℕ) (queue : List Branch) (sets : List (List Demand)) → AllApart sets → Some_of Hits sets ⊎ Some_of (Leads asking) queue → IsReached (search_branches lines queue tries sets)
    search_found tries [] sets k (inl hit) = inr hit
    search_found tries [] sets k (inr none) = absurd none
    search_found zero (b ∷ queue) sets k h = inl refl
    search_found (suc tries) (b ∷ queue) sets k h =
        let firsts = b.kept ++ b.free in
        let more = with_set lines firsts sets in
        search_found tries (queue ++ branches_of b (set_among firsts more)) more (more_apart firsts sets k) (next b queue sets k h)

    -- these markers are those of all that ask
    pub sets_found : (firsts : List Demand) → (AreApart [] → ⊥) → Covers asking firsts → IsReached (conflicting_sets lines firsts)
    sets_found [] some covers = absurd (some (apart_of [] asking known covers none))
    sets_found (a ∷ rest) some covers =
        search_found 1000 (record { kept = []; free = a ∷ rest } ∷ []) (conflicting_pairs lines (a ∷ rest)) (pairs_apart (a ∷ rest)) (inr (inl ((λ m h. absurd h), covers)))

-- ---- the search, step by step

pub first_removed : {X : Type 0} (xs rest : List X) (x : X) → (length xs == 0) ≡ false → x ≡ slice_index_or xs 0 x → rest ≡ remove xs 0 → xs ≡ x ∷ rest
first_removed [] rest x some is also = absurd (true≢false some)
first_removed (y ∷ ys) rest x some is also = λ j. sym is j ∷ sym also j

-- one branch more
pub search_more : (lines : List Demand) (tries n : ℕ) (queue next rest : List Branch) (b : Branch) (sets more : List (List Demand)) (all : ConflictingSets) → tries ≡ suc n → queue ≡ b ∷ rest
    → more ≡ with_set lines (b.kept ++ b.free) sets → next ≡ rest ++ branches_of b (set_among (b.kept ++ b.free) more) → search_branches lines queue tries sets ≡ all → search_branches lines next n more ≡ all
search_more lines tries n queue next rest b sets more all left is added also so =
    (λ j. search_branches lines (also j) n more) ∙ (λ j. search_branches lines (rest ++ branches_of b (set_among (b.kept ++ b.free) (added j))) n (added j))
    ∙ sym (λ j. search_branches lines (is j) (left j) sets) ∙ so

not_zero_by : (n : ℕ) (b : Bool) → (suc n == 0) ≡ b → b ≡ false
not_zero_by n true e = let is : suc n ≡ 0 = eqb-true (suc n) 0 e in absurd (omega (arith, is))
not_zero_by n false e = refl

not_zero : (n : ℕ) → (suc n == 0) ≡ false
not_zero n = not_zero_by n (suc n == 0) refl

-- no branch is left, or no try
pub search_done : {X : Type 0} (view : X → Branch) (lines : List Demand) (queue : List X) (tries : ℕ) (sets : List (List Demand)) (whole : Bool) (all : ConflictingSets) → whole ≡ (length queue == 0)
    → (tries ≡ 0) ⊎ ((length queue == 0) ≡ true) → search_branches lines (map view queue) tries sets ≡ all → record { sets = sets; whole = whole } ≡ all
search_done view lines [] tries sets whole all is h so = (λ j. record { sets = sets; whole = is j }) ∙ so
search_done view lines (b ∷ queue) tries sets whole all is (inl none) so = (λ j. record { sets = sets; whole = (is ∙ not_zero (length queue)) j }) ∙ sym (ap (λ t. search_branches lines (view b ∷ map view queue) t sets) none) ∙ so
search_done view lines (b ∷ queue) tries sets whole all is (inr nil) so = absurd (true≢false (sym nil ∙ not_zero (length queue)))

-- ---- what is found

-- it is so of all that is found, if it is of what is found before, or behind
abbrev pub Spreads : (List Finding → List Cause → Type 0) → Type 0
Spreads R = ((fs f g : List Finding) (cs c d : List Cause) → fs ≡ f ++ g → cs ≡ c ++ d → R f c → R fs cs) × ((fs f g : List Finding) (cs c d : List Cause) → fs ≡ f ++ g → cs ≡ c ++ d → R g d → R fs cs)

module _ (P : Finding → Type 0) where
  -- something is found, or something is undecided
  abbrev pub FindsOrTells : List Finding → List Cause → Type 0
  FindsOrTells fs cs = Some_is P fs ⊎ Tells cs

  before_others : (fs f g : List Finding) (cs c d : List Cause) → fs ≡ f ++ g → cs ≡ c ++ d → FindsOrTells f c → FindsOrTells fs cs
  before_others fs f g cs c d is also (inl some) = inl (subst (Some_is P) (sym is) (in_left P f g some))
  before_others fs f g cs c d is also (inr told) = inr (subst Tells (sym also) (tells_left c d told))

  behind_others : (fs f g : List Finding) (cs c d : List Cause) → fs ≡ f ++ g → cs ≡ c ++ d → FindsOrTells g d → FindsOrTells fs cs
  behind_others fs f g cs c d is also (inl some) = inl (subst (Some_is P) (sym is) (in_right P f g some))
  behind_others fs f g cs c d is also (inr told) = inr (subst Tells (sym also) (tells_right c d told))

  pub or_tells : Spreads FindsOrTells
  or_tells = (before_others, behind_others)

  pub some_spreads : Spreads (λ fs cs. Some_is P fs)
  some_spreads = ((λ fs f g cs c d is also some. subst (Some_is P) (sym is) (in_left P f g some)), (λ fs f g cs c d is also some. subst (Some_is P) (sym is) (in_right P f g some)))

-- the list has the element
abbrev pub In : {X : Type 0} → X → List X → Type 0
In x [] = ⊥
In x (y ∷ ys) = (y ≡ x) ⊎ In x ys

pub in_list : {X : Type 0} (x : X) (xs : List X) (k : ℕ) → k < length xs → get_or xs k x ≡ x → In x xs
in_list x [] k inside is = absurd (omega (arith, inside))
in_list x (y ∷ ys) zero inside is = inl is
in_list x (y ∷ ys) (suc k) inside is = inr (in_list x ys k (omega (arith, inside)) is)

module _ (R : List Finding → List Cause → Type 0) (spreads : Spreads R) where
  each_reached : {K : Type 0} (key : Demand → K) (k : K) (Finds : Demand → List Finding → List Cause → Type 0) → ((x : Demand) → key x ≡ k → (fs : List Finding) (cs : List Cause) → Finds x fs cs → R fs cs)
      → (xs : List Demand) → HasKey key k xs → (fs : List Finding) (cs : List Cause) → FindsOfEach Finds xs fs cs → R fs cs
  each_reached key k Finds so [] h fs cs finds = absurd h
  each_reached key k Finds so (x ∷ xs) (inl is) fs cs (f, g, c, d, here, later, eq, also) = spreads.0 fs f g cs c d eq also (so x is f c here)
  each_reached key k Finds so (x ∷ xs) (inr h) fs cs (f, g, c, d, here, later, eq, also) = spreads.1 fs f g cs c d eq also (each_reached key k Finds so xs h g d later)

  -- what is found of one element of a list
  pub each_in : {X : Type 0} (Finds : X → List Finding → List Cause → Type 0) (x : X) → ((fs : List Finding) (cs : List Cause) → Finds x fs cs → R fs cs) → (xs : List X) → In x xs
      → (fs : List Finding) (cs : List Cause) → FindsOfEach Finds xs fs cs → R fs cs
  each_in Finds x so [] h fs cs finds = absurd h
  each_in Finds x so (y ∷ xs) (inl is) fs cs (f, g, c, d, here, later, eq, also) = spreads.0 fs f g cs c d eq also (so f c (subst (λ z. Finds z f c) is here))
  each_in Finds x so (y ∷ xs) (inr h) fs cs (f, g, c, d, here, later, eq, also) = spreads.1 fs f g cs c d eq also (each_in Finds x so xs h g d later)

  -- what is found of the lines of one name
  pub name_reached : (d : Domain) (a : Demand) (lines : List Demand) → Contains lines a → ((fs : List Finding) (cs : List Cause) → FindsOfName d (filter (has_same_name a) lines) fs cs → R fs cs)
      → (fs : List Finding) (cs : List Cause) → FindsOfNames d lines fs cs → R fs cs
  name_reached d a lines (k, inside, is) found fs cs finds =
      let name = λ (x : Demand). x.name in
      each_reached name a.name (of_name_of d lines)
      (λ x so fs cs one. found fs cs (subst (λ n. FindsOfName d (filter (λ (c : Demand). bytes_eq n c.name) lines) fs cs) so one))
      (first_mentions has_same_name [] lines)
      (mentioned name has_same_name name_yes name_alike a [] lines refl (contains_key name a lines k inside is)) fs cs finds

-- ---- lines of one name

less_by : (b : Bool) (a c : ℕ) → nat_lt a c ≡ b → c ≤ a → b ≡ false
less_by true a c is up = let less : a < c = ltb-true a c is in absurd (omega (arith, less, up))
less_by false a c is up = refl

not_less : (a c : ℕ) → c ≤ a → nat_lt a c ≡ false
not_less a c up = less_by (nat_lt a c) a c refl up

bare_by : (m : Option (List ℕ)) → (is_none m || false) ≡ is_none m
bare_by None = refl
bare_by (Some m) = refl

under_nothing : (lines : List Demand) → under_any [] lines ≡ unmarked lines
under_nothing lines = same_filter (counts_with []) (λ (x : Demand). is_none x.marker) (λ x. bare_by x.marker) lines

-- lines count alike under one marker
under_alike : (x t : Demand) (lines : List Demand) → x.marker ≡ t.marker → under_any (x ∷ []) lines ≡ under_any (t ∷ []) lines
under_alike x t lines is = λ j. filter (λ (c : Demand). is_none c.marker || (same_marker c.marker (is j) || false)) lines

-- what holds of each of these lines that ask, some of which are reported
module _ (P : Finding → Type 0) (Q : Demand → Type 0) (so : (kind : _) (environment : Option (List ℕ)) (some : List Demand) → (map (λ (b : Demand). b.line) some ≡ [] → ⊥) → All Q some → P (Conflicting kind (map (λ (b : Demand). b.line) some) environment)) where
  all_reported : (environment : Option (List ℕ)) (some : List Demand) → All Q some → have_none some ≡ true → Some_is P (of_all environment some)
  all_reported environment some k none =
      subst (λ b. Some_is P (if b then Conflicting (conflict_kind (smallest some)) (map (λ (b : Demand). b.line) (smallest some)) environment ∷ [] else [])) (sym none)
      (inl (so (conflict_kind (smallest some)) environment (smallest some) (some_lines (smallest some) (smallest_none some none)) (all_smallest Q some k)))

  module _ (d : Domain) (e : Environment) (is_one : IsEnvironment d e) (lines : List Demand) (sound : All IsSound lines) (asks : (c : Demand) → Contains lines c → AsksIn e c → Q c)
      (asking : List Demand) (known : All (Contains lines) asking) (none : have_none asking ≡ true) (ask : All (AsksIn e) asking) where
    asks_marked : (x : Demand) (ts : List Demand) → All (AsksIn e) ts → Marks x.marker ts → AsksIn e x
    asks_marked x [] k h = absurd h
    asks_marked x (t ∷ ts) k (inl is) = asks_alike e t x (sym is) (All-head (AsksIn e) t ts k)
    asks_marked x (t ∷ ts) k (inr h) = asks_marked x ts (All-tail (AsksIn e) t ts k) h

    set_asks : (set : List Demand) → Within set asking → All (AsksIn e) set
    set_asks [] w = All-nil (AsksIn e)
    set_asks (x ∷ set) w = All-cons (AsksIn e) x set (asks_marked x asking ask (w x.marker (inl refl))) (set_asks set (λ m h. w m (inr h)))

    under_asks : (set : List Demand) → All (AsksIn e) set → All Q (under_any set lines)
    under_asks set k =
        let these = under_any set lines in
        let inside = All-filter (counts_with set) (Contains lines) lines (All-contains_itself lines) in
        All-weaker (λ c. Contains lines c × (counts_with set c ≡ true)) Q (λ c h. asks c h.0 (asks_beside e set k c h.1)) these (both (Contains lines) (λ c. counts_with set c ≡ true) these inside (filter_passes (counts_with set) lines))

    decided_found : (x : Decision) (set : List Demand) → Hits lines sound asking known none set → IsDecision d set x → (fs : List Finding) (cs : List Cause) → FindsDecided x (under_any set lines) fs cs → FindsOrTells P fs cs
    decided_found (Together environment) set (w, apart) k fs cs (is, also) = inl (subst (Some_is P) (sym is) (all_reported (Some environment.items) (under_any set lines) (under_asks set (set_asks set w)) apart))
    decided_found Apart set (w, apart) k fs cs finds = absurd (k e is_one (set_asks set w))
    decided_found Unknown set (w, apart) k fs cs (is, also) = inr (subst Tells (sym (also ∙ ap (λ b. if b then cause.Undecided ∷ [] else []) apart)) (inl refl))

    hit_found : (sets : List (List Demand)) → Some_of (Hits lines sound asking known none) sets → (fs : List Finding) (cs : List Cause) → FindsOfEach (FindsOfSet d lines) sets fs cs → FindsOrTells P fs cs
    hit_found [] h fs cs finds = absurd h
    hit_found (set ∷ sets) (inl hit) fs cs (f, g, c, o, (x, k, here), later, eq, also) = before_others P fs f g cs c o eq also (decided_found x set hit k f c here)
    hit_found (set ∷ sets) (inr h) fs cs (f, g, c, o, here, later, eq, also) = behind_others P fs f g cs c o eq also (hit_found sets h g o later)

    reached_found : (sets : List (List Demand)) (whole : Bool) → (whole ≡ false) ⊎ Some_of (Hits lines sound asking known none) sets → (fs : List Finding) (cs : List Cause) → FindsOfSets d lines sets whole fs cs → FindsOrTells P fs cs
    reached_found sets false h fs cs (told, finds, is) = inr (subst Tells (sym is) (tells_right told (cause.Undecided ∷ []) (inl refl)))
    reached_found sets true (inl cut) fs cs finds = absurd (true≢false cut)
    reached_found sets true (inr hit) fs cs finds = hit_found sets hit fs cs finds

    -- the lines of one marker have no version in common
    abbrev IsShut : Demand → Type 0
    IsShut x = have_none (under_any (x ∷ []) lines) ≡ true

    module _ (always : have_none (unmarked lines) ≡ false) (shared : (x : Demand) → Marks x.marker asking → have_none (under_any (x ∷ []) lines) ≡ false) where
      nothing_shared : AreApart lines sound [] → ⊥
      nothing_shared apart = true≢false (sym apart ∙ ap have_none (under_nothing lines) ∙ always)

      open_marked : (firsts : List Demand) → Covers asking firsts → Covers asking (open_lines lines firsts)
      open_marked firsts covers m h = passes (λ (x : Demand). x.marker) (λ (x : Demand). not (have_none (under_any (x ∷ []) lines))) (Some m) (λ x is. ap not (shared x (subst (λ n. Marks n asking) (sym is) h))) firsts (covers m h)

      no_one : (f : Demand) (b : Bool) → list_any (has_same_marker f) asking ≡ b → Covers asking (f ∷ []) → ⊥
      no_one f true is covers = true≢false (sym (apart_of lines sound (f ∷ []) asking known covers none) ∙ shared f (any_key f asking is))
      no_one f false is covers =
          nothing_shared (apart_of lines sound [] asking known
          (λ m h. elim (covers m h) [ inl same ↦ true≢false (sym (any_marked f asking (subst (λ n. Marks n asking) (sym same) h)) ∙ is) | inr none ↦ absurd none ]) none)

      -- there are two markers at least
      several : (firsts : List Demand) → Covers asking firsts → nat_lt (length firsts) 2 ≡ false
      several [] covers = absurd (nothing_shared (apart_of lines sound [] asking known covers none))
      several (f ∷ []) covers = absurd (no_one f (list_any (has_same_marker f) asking) refl covers)
      several (f ∷ (g ∷ firsts)) covers = not_less (length (f ∷ (g ∷ firsts))) 2 (omega arith)

      paired : (firsts : List Demand) → Covers asking firsts → lines_to_pair lines firsts ≡ open_lines lines firsts
      paired firsts covers = (λ j. if several firsts covers j then [] else open_lines lines firsts)

      few_found : (b : Bool) (firsts : List Demand) → Covers asking firsts → (fs : List Finding) (cs : List Cause) → FindsOfFirsts d lines (if b then None else Some firsts) fs cs → FindsOrTells P fs cs
      few_found true firsts covers fs cs (is, also) = inr (subst Tells (sym also) (inl refl))
      few_found false firsts covers fs cs finds =
          let pair = open_lines lines firsts in
          let found = conflicting_sets lines pair in
          reached_found found.sets found.whole (sets_found lines sound asking known none pair nothing_shared (open_marked firsts covers)) fs cs
          (subst (λ (l : List Demand). FindsOfSets d lines (conflicting_sets lines l).sets (conflicting_sets lines l).whole fs cs) (paired firsts covers) finds)

    asked_marks : (m : Option (List ℕ)) (ts : List Demand) → All (Contains lines) ts → Marks m ts → Marks m lines
    asked_marks m [] k h = absurd h
    asked_marks m (t ∷ ts) k (inl is) = let (i, inside, at) = All-head (Contains lines) t ts k in subst (λ n. Marks n lines) is (contains_key (λ (x : Demand). x.marker) t lines i inside at)
    asked_marks m (t ∷ ts) k (inr h) = asked_marks m ts (All-tail (Contains lines) t ts k) h

    -- one of these lines has no version in common with the lines under its marker, or each has one
    abbrev ShutOr : List Demand → Type 0
    ShutOr ts = ((t : Demand) × Marks t.marker ts × IsShut t) ⊎ ((x : Demand) → Marks x.marker ts → have_none (under_any (x ∷ []) lines) ≡ false)

    open_here : (t : Demand) (ts : List Demand) (x : Demand) → have_none (under_any (t ∷ []) lines) ≡ false → ((y : Demand) → Marks y.marker ts → have_none (under_any (y ∷ []) lines) ≡ false) → Marks x.marker (t ∷ ts)
        → have_none (under_any (x ∷ []) lines) ≡ false
    open_here t ts x is others (inl same) = ap have_none (under_alike x t lines (sym same)) ∙ is
    open_here t ts x is others (inr h) = others x h

    open_by : (t : Demand) (ts : List Demand) (b : Bool) → have_none (under_any (t ∷ []) lines) ≡ b → ShutOr ts → ShutOr (t ∷ ts)
    open_by t ts true is others = inl (t, inl refl, is)
    open_by t ts false is (inl (u, marks, shut)) = inl (u, inr marks, shut)
    open_by t ts false is (inr others) = inr (λ x h. open_here t ts x is others h)

    open_or : (ts : List Demand) → ShutOr ts
    open_or [] = inr (λ x h. absurd h)
    open_or (t ∷ ts) = open_by t ts (have_none (under_any (t ∷ []) lines)) refl (open_or ts)

    -- such a line is found at the first mention of its marker
    marker_found : (t : Demand) → Marks t.marker asking → IsShut t → (fs : List Finding) (cs : List Cause) → FindsOfMarkers d lines fs cs → FindsOrTells P fs cs
    marker_found t marks shut =
        let marker = λ (x : Demand). x.marker in
        each_reached (FindsOrTells P) (or_tells P) marker t.marker (of_marker_of d lines)
        (λ x so fs cs one. decided_found one.0 (x ∷ [])
        ((λ m h. elim h [ inl is ↦ subst (λ n. Marks n asking) (sym so ∙ is) marks | inr none ↦ absurd none ]), ap have_none (under_alike x t lines so) ∙ shut) one.1 fs cs one.2)
        (first_mentions has_same_marker [] lines)
        (mentioned marker has_same_marker (λ x y. marker_yes x.marker y.marker) (λ x y. marker_alike x.marker y.marker) t [] lines refl (asked_marks t.marker asking known marks))

    unmarked_ask : All Q (unmarked lines)
    unmarked_ask =
        let bare = λ (x : Demand). is_none x.marker in
        All-weaker (λ c. Contains lines c × (bare c ≡ true)) Q (λ c h. asks c h.0 (inl (none_yes c.marker h.1))) (unmarked lines)
        (both (Contains lines) (λ c. bare c ≡ true) (unmarked lines) (All-filter bare (Contains lines) lines (All-contains_itself lines)) (filter_passes bare lines))

    by_unmarked : (b : Bool) → have_none (unmarked lines) ≡ b → (fs : List Finding) (cs : List Cause) → FindsByUnmarked d lines b fs cs → FindsOrTells P fs cs
    by_unmarked true is fs cs (eq, also) = inl (subst (Some_is P) (sym eq) (all_reported None (unmarked lines) unmarked_ask is))
    by_unmarked false is fs cs (f, g, c, o, one, more, eq, also) = elim (open_or asking) [
      | inl (t, marks, shut) ↦ before_others P fs f g cs c o eq also (marker_found t marks shut f c one)
      | inr shared ↦ behind_others P fs f g cs c o eq also (few_found is shared (nat_lt 32 (length (first_lines [] lines))) (first_lines [] lines) (λ m h. first_found m [] lines (asked_marks (Some m) asking known h)) g o more)
    ]

    -- some of the lines of one name that ask are found
    pub name_found : (fs : List Finding) (cs : List Cause) → FindsOfName d lines fs cs → FindsOrTells P fs cs
    name_found = by_unmarked (have_none (unmarked lines)) refl

-- ---- all names

module _ (d : Domain) (e : Environment) (is_one : IsEnvironment d e) (a : Demand) (lines : List Demand) (inside : Contains lines a) where
  abbrev Named : List Demand
  Named = filter (has_same_name a) lines

  abbrev pub Is : Finding → Type 0
  Is = IsAmongIn e a lines

  among_so : (kind : _) (environment : Option (List ℕ)) (some : List Demand) → (map (λ (b : Demand). b.line) some ≡ [] → ⊥) → All (IsOneIn e a lines) some → Is (Conflicting kind (map (λ (b : Demand). b.line) some) environment)
  among_so kind environment some not_none k = (not_none, mapped (λ (l : FileLine). (b : Demand) × IsOneIn e a lines b × (b.line ≡ l)) (IsOneIn e a lines) (λ b one. (b, one, refl)) some k)

  one_in : (c : Demand) → Contains Named c → AsksIn e c → IsOneIn e a lines c
  one_in c known ask =
      let outside = All-filter (has_same_name a) (Contains lines) lines (All-contains_itself lines) in
      (All-contains (Contains lines) Named c outside known, All-contains (λ b. has_same_name a b ≡ true) Named c (filter_passes (has_same_name a) lines) known, ask)

  -- lines of this name that ask and have no version in common are found
  pub asking_found : All IsSound Named → (asking : List Demand) → All (IsOneIn e a lines) asking → HaveNone asking → (fs : List Finding) (cs : List Cause) → FindsOfNames d lines fs cs → FindsOrTells Is fs cs
  asking_found sound asking ones none =
      let known = All-weaker (IsOneIn e a lines) (Contains Named) (λ b one. passed_contains (has_same_name a) lines b one.0 one.1) asking ones in
      let so = All-weaker (Contains Named) IsSound (λ b is. All-contains IsSound Named b sound is) asking known in
      let ask = All-weaker (IsOneIn e a lines) (AsksIn e) (λ b one. one.2) asking ones in
      name_reached (FindsOrTells Is) (or_tells Is) d a lines inside (name_found Is (IsOneIn e a lines) among_so d e is_one Named sound one_in asking known (none_found asking so none) ask)

in_report : (P : Finding → Type 0) (r : Report) (found fs : List Finding) (front cs : List Cause) → r.findings ≡ found ++ fs → r.left_out ≡ front ++ cs → FindsOrTells P fs cs → Any P r.findings ⊎ IsUndecided r
in_report P r found fs front cs is also (inl some) = inl (any_is P r.findings (subst (Some_is P) (sym is) (in_right P found fs some)))
in_report P r found fs front cs is also (inr told) = inr (subst (λ (l : List Cause). Contains l cause.Undecided) (sym also) (contains_told (front ++ cs) (tells_right front cs told)))

pub sets_have_findings : SetsHaveFindings
sets_have_findings files r lines a e asking (xs, h, fs, cs, finds, is) (ys, k, are) inside is_one ones none =
    let P = IsAmongIn e a lines in
    let same : lines ≡ flat_map demands_in xs = are ∙ ap (flat_map demands_in) (of_lines (all_lines files) ys xs k h) in
    let sound : All IsSound lines = subst (All IsSound) (sym same) (asked_sound (all_lines files) xs h) in
    let named = All-filter (has_same_name a) IsSound lines sound in
    in_report P r (found_in files xs) fs (flat_map left_out_in xs) cs (ap (λ (q : Report). q.findings) is) (ap (λ (q : Report). q.left_out) is)
    (asking_found everywhere e is_one a lines inside named asking ones none fs cs (subst (λ demands. FindsOfNames everywhere demands fs cs) (sym same) finds))

-- ---- lines without a marker

-- they are found, whatever is undecided
module _ (d : Domain) (a : Demand) (lines : List Demand) (inside : Contains lines a) (sound : All IsSound lines) where
  abbrev Bare : List Demand
  Bare = unmarked (filter (has_same_name a) lines)

  pub unmarked_found : HaveNone Bare → (fs : List Finding) (cs : List Cause) → FindsOfNames d lines fs cs → Some_is (IsAmong (map (λ (b : Demand). b.line) Bare)) fs
  unmarked_found none =
      let named = filter (has_same_name a) lines in
      let P = IsAmong (map (λ (b : Demand). b.line) Bare) in
      let empty = none_found Bare (sound_unmarked named (All-filter (has_same_name a) IsSound lines sound)) none in
      name_reached (λ fs cs. Some_is P fs) (some_spreads P) d a lines inside
      (λ fs cs finds. subst (Some_is P) (sym (subst (λ b. FindsByUnmarked d named b fs cs) empty finds).0) (all_found (map (λ (b : Demand). b.line) Bare) Bare (ones_of Bare) empty))

pub conflicts_have_findings : ConflictsHaveFindings
conflicts_have_findings files r lines a (xs, h, fs, cs, finds, is) (ys, k, are) inside none =
    let P = IsAmong (map (λ (b : Demand). b.line) (unmarked (filter (has_same_name a) lines))) in
    let same : lines ≡ flat_map demands_in xs = are ∙ ap (flat_map demands_in) (of_lines (all_lines files) ys xs k h) in
    let sound : All IsSound lines = subst (All IsSound) (sym same) (asked_sound (all_lines files) xs h) in
    any_is P r.findings
    (subst (λ (q : Report). Some_is P q.findings) (sym is)
    (in_right P (found_in files xs) fs (unmarked_found everywhere a lines inside sound none fs cs (subst (λ demands. FindsOfNames everywhere demands fs cs) (sym same) finds))))
