-- A smallest list of lines that have no version in common, which without any one of its lines have some: found in rounds, and by halves with sets.
use Rattle.std.proofs.Common.{Bool, IfSome, IsTrue, List, None, Option, Some, [], ap, arith, drop, false, get_or, if◌then◌else◌, is_none, length, length-drop, map, refl, reverse, subst, sym, take, true, ℕ, ◌&&◌, ◌++◌, ◌+◌, ◌-◌, ◌/◌, ◌<◌, ◌==◌, ◌∙◌, ◌∷◌, ◌≡◌, ◌≢◌, ◌≤◌}
use Rattle.std.proofs.lemmas.Bool.{true_from_ne_false, true≢false}
use Rattle.std.proofs.lemmas.List.{append-nil, append_assoc, length-take-le, map-append, reverse-append, reverse-reverse, take-append-drop, take_more, take_rest}
use Rattle.std.proofs.lemmas.List.Elements.{All-append, All-cons, All-filter, All-head, All-nil, All-same, All-tail}
use Rattle.std.proofs.lemmas.List.Concat.{flat_map-append}
use Rattle.std.proofs.lemmas.List.Folds.{list_all-append}
use Rattle.std.specs.List.{All}
use Rattle.std.specs.Prelude.{⊤}
use Rattle.pep440_rs.specs.Denoted.{IsDenotable, IsDenoted}
use Rattle.pep440_rs.specs.LiteralMatching.{list_matches_literally, matches_literally}
use Rattle.pep440_rs.specs.Specifiers.{Spec}
use Rattle.pep440_version.specs.Record.{Record}
use Rattle.pep440_sets.proofs.CommonVersions.{common_is_denoted, common_matches, none_in_common}
use Rattle.pep440_sets.specs.Common.{common_version}
use Rattle.pyver_findings.specs.Demands.{Demand, IsSound}
use Rattle.pyver_findings.specs.Conflicts.{IsNeeded, have_none, keep, smallest, specifiers_of, unmarked}
use Rattle.pep440_ranges.specs.RangeSegments.{contains}
use Rattle.pep440_rs.specs.Bounds.{Segments}
use Rattle.pep440_sets.specs.Emptiness.{HasNoVersion}
use Rattle.pep440_sets.specs.Sets.{HoldsListMatches}
use Rattle.pep440_version.specs.Key.{record_cmp}

-- ---- versions and lines

-- the list of the line contains the version
abbrev pub Allows : Record → Demand → Type 0
Allows v a = IsTrue (list_matches_literally a.specifiers v)

left_of : (a b : Bool) → (a && b) ≡ true → a ≡ true
left_of true b e = refl
left_of false b e = e

right_of : (a b : Bool) → (a && b) ≡ true → b ≡ true
right_of true b e = e
right_of false b e = absurd (true≢false (sym e))

pub parts : (v : Record) (xs ys : List Spec) → list_matches_literally (xs ++ ys) v ≡ list_matches_literally xs v && list_matches_literally ys v
parts v xs ys = list_all-append (λ (m : Spec). matches_literally m.operator m.version v) xs ys

pub allowed : (v : Record) (lines : List Demand) → All (Allows v) lines → IsTrue (list_matches_literally (specifiers_of lines) v)
allowed v [] k = refl
allowed v (a ∷ lines) k = parts v a.specifiers (specifiers_of lines) ∙ (λ j. All-head (Allows v) a lines k j && allowed v lines (All-tail (Allows v) a lines k) j)

pub allow : (v : Record) (lines : List Demand) → IsTrue (list_matches_literally (specifiers_of lines) v) → All (Allows v) lines
allow v [] h = All-nil (Allows v)
allow v (a ∷ lines) h =
    let both = sym (parts v a.specifiers (specifiers_of lines)) ∙ h in
    All-cons (Allows v) a lines (left_of (list_matches_literally a.specifiers v) (list_matches_literally (specifiers_of lines) v) both) (allow v lines (right_of (list_matches_literally a.specifiers v) (list_matches_literally (specifiers_of lines) v) both))

pub sound_members : (lines : List Demand) → All IsSound lines → All IsDenotable (specifiers_of lines)
sound_members [] k = All-nil IsDenotable
sound_members (a ∷ lines) k = All-append IsDenotable a.specifiers (specifiers_of lines) (All-head IsSound a lines k) (sound_members lines (All-tail IsSound a lines k))

-- ---- what the test decides

no_version : (o : Option Record) → is_none o ≡ true → o ≡ None
no_version None e = refl
no_version (Some v) e = absurd (true≢false (sym e))

pub none_allowed : (lines : List Demand) → All IsSound lines → have_none lines ≡ true → (v : Record) → IsDenoted v → All (Allows v) lines → ⊥
none_allowed lines sound none v denoted all =
    none_in_common (specifiers_of lines) (sound_members lines sound) (no_version (common_version (specifiers_of lines)) none) v denoted (allowed v lines all)

-- a version that a string denotes, and that all these lines allow
abbrev pub HasShared : List Demand → Type 0
HasShared lines = (v : Record) × IsDenoted v × All (Allows v) lines

pub some_allowed : (lines : List Demand) → All IsSound lines → have_none lines ≡ false → HasShared lines
some_allowed lines sound some = go (common_version (specifiers_of lines)) some (common_is_denoted (specifiers_of lines) (sound_members lines sound)) (common_matches (specifiers_of lines) (sound_members lines sound))
  where
    go : (o : Option Record) → is_none o ≡ false → IfSome o IsDenoted → IfSome o (λ v. IsTrue (list_matches_literally (specifiers_of lines) v)) → HasShared lines
    go None e d h = absurd (true≢false e)
    go (Some v) e d h = (v, d, allow v lines h)

pub none_by : (lines : List Demand) (b : Bool) → have_none lines ≡ b → (have_none lines ≡ false → ⊥) → have_none lines ≡ true
none_by lines true e never = e
none_by lines false e never = absurd (never e)

-- what all of more lines allow, all of these do
pub more_none : (lines more : List Demand) → All IsSound lines → All IsSound more → ((v : Record) → All (Allows v) more → All (Allows v) lines) → have_none lines ≡ true → have_none more ≡ true
more_none lines more sound all into none =
    none_by more (have_none more) refl (λ some. let found = some_allowed more all some in none_allowed lines sound none found.0 found.1 (into found.0 found.2))

-- ---- parts of lists

module _ (P : Demand → Type 0) where
  pub left_all : (xs ys : List Demand) → All P (xs ++ ys) → All P xs
  left_all [] ys k = All-nil P
  left_all (x ∷ xs) ys k = All-cons P x xs (All-head P x (xs ++ ys) k) (left_all xs ys (All-tail P x (xs ++ ys) k))

  pub right_all : (xs ys : List Demand) → All P (xs ++ ys) → All P ys
  right_all [] ys k = k
  right_all (x ∷ xs) ys k = right_all xs ys (All-tail P x (xs ++ ys) k)

  pub all_reversed : (xs : List Demand) → All P xs → All P (reverse xs)
  all_reversed [] k = All-nil P
  all_reversed (x ∷ xs) k =
      All-same P (reverse (x ∷ xs)) (reverse xs ++ x ∷ []) (reverse-append (x ∷ []) xs)
      (All-append P (reverse xs) (x ∷ []) (all_reversed xs (All-tail P x xs k)) (All-cons P x [] (All-head P x xs k) (All-nil P)))

  pub all_back : (xs : List Demand) → All P (reverse xs) → All P xs
  all_back xs k = All-same P xs (reverse (reverse xs)) (sym (reverse-reverse xs)) (all_reversed (reverse xs) k)

  kept_by : (b : Bool) (one other : List Demand) → All P one → All P other → All P (if b then one else other)
  kept_by true one other k m = k
  kept_by false one other k m = m

  all_kept : (kept before : List Demand) → All P kept → All P before → All P (keep kept before)
  all_kept kept [] k m = k
  all_kept kept (a ∷ before) k m =
      kept_by (have_none (reverse before ++ kept)) (keep kept before) (keep (a ∷ kept) before) (all_kept kept before k (All-tail P a before m))
      (all_kept (a ∷ kept) before (All-cons P a kept (All-head P a before m) k) (All-tail P a before m))

  pub all_smallest : (lines : List Demand) → All P lines → All P (smallest lines)
  all_smallest lines k = all_kept [] (reverse lines) (All-nil P) (all_reversed lines k)

-- ---- what is kept

-- without any one of the lines `kept`, all others allow some version
abbrev pub IsSpared : List Demand → List Demand → List Demand → Type 0
IsSpared front [] rest = ⊤
IsSpared front (a ∷ kept) rest = ((v : Record) × IsDenoted v × All (Allows v) front × All (Allows v) kept × All (Allows v) rest) × IsSpared (front ++ a ∷ []) kept rest

-- one line of the rest is left out, or stands in front
moved : (front other kept : List Demand) (a : Demand) (rest : List Demand) → ((v : Record) → All (Allows v) front → Allows v a → All (Allows v) other) → IsSpared front kept (a ∷ rest) → IsSpared other kept rest
moved front other [] a rest into s = tt
moved front other (k ∷ kept) a rest into ((v, denoted, here, there, behind), more) = (
  (v, denoted, into v here (All-head (Allows v) a rest behind), there, All-tail (Allows v) a rest behind),
  moved (front ++ k ∷ []) (other ++ k ∷ []) kept a rest (λ w both is. All-append (Allows w) other (k ∷ []) (into w (left_all (Allows w) front (k ∷ []) both) is) (right_all (Allows w) front (k ∷ []) both)) more,
)

-- what is known of lines that are kept, and of those before them
abbrev pub Keeping : List Demand → List Demand → Type 0
Keeping kept before = All IsSound kept × All IsSound before × (have_none (reverse before ++ kept) ≡ true) × IsSpared [] kept before

-- none are left before these
abbrev pub IsSmallestOf : List Demand → Type 0
IsSmallestOf kept = All IsSound kept × (have_none kept ≡ true) × IsSpared [] kept []

one_more : (kept : List Demand) (a : Demand) (before : List Demand) → reverse (a ∷ before) ++ kept ≡ reverse before ++ (a ∷ kept)
one_more kept a before = ap (λ r. r ++ kept) (reverse-append (a ∷ []) before) ∙ append_assoc (reverse before) (a ∷ []) kept

one_kept : (kept : List Demand) (a : Demand) (before : List Demand) → have_none (reverse before ++ kept) ≡ false → Keeping kept (a ∷ before) → Keeping (a ∷ kept) before
one_kept kept a before some (sound, ahead, none, spared) =
    let others = All-tail IsSound a before ahead in
    let found = some_allowed (reverse before ++ kept) (All-append IsSound (reverse before) kept (all_reversed IsSound before others) sound) some in (
      All-cons IsSound a kept (All-head IsSound a before ahead) sound,
      others,
      sym (ap have_none (one_more kept a before)) ∙ none,
      (
        (found.0, found.1, All-nil (Allows found.0), right_all (Allows found.0) (reverse before) kept found.2, all_back (Allows found.0) before (left_all (Allows found.0) (reverse before) kept found.2)),
        moved [] (a ∷ []) kept a before (λ v here is. All-cons (Allows v) a [] is (All-nil (Allows v))) spared,
      ),
    )

step : (kept : List Demand) (a : Demand) (before : List Demand) (b : Bool) → have_none (reverse before ++ kept) ≡ b → Keeping kept (a ∷ before) → ((k : List Demand) → Keeping k before → IsSmallestOf (keep k before))
    → IsSmallestOf (if b then keep kept before else keep (a ∷ kept) before)
step kept a before true e (sound, ahead, none, spared) next = next kept (sound, All-tail IsSound a before ahead, e, moved [] [] kept a before (λ v here is. All-nil (Allows v)) spared)
step kept a before false e k next = next (a ∷ kept) (one_kept kept a before e k)

keeps : (kept before : List Demand) → Keeping kept before → IsSmallestOf (keep kept before)
keeps kept [] (sound, ahead, none, spared) = (sound, none, spared)
keeps kept (a ∷ before) k = step kept a before (have_none (reverse before ++ kept)) refl k (λ more m. keeps more before m)

pub nothing_after : (xs : List Demand) → xs ++ [] ≡ xs
nothing_after [] = refl
nothing_after (x ∷ xs) = ap (λ r. x ∷ r) (nothing_after xs)

pub smallest_right : (lines : List Demand) → All IsSound lines → have_none lines ≡ true → IsSmallestOf (smallest lines)
smallest_right lines sound e =
    keeps [] (reverse lines) (All-nil IsSound, all_reversed IsSound lines sound, ap have_none (nothing_after (reverse (reverse lines)) ∙ reverse-reverse lines) ∙ e, tt)

-- with no premise on the lists: those that are kept have none
still_by : (kept : List Demand) (a : Demand) (before : List Demand) (b : Bool) → have_none (reverse before ++ kept) ≡ b → have_none (reverse (a ∷ before) ++ kept) ≡ true
    → ((k : List Demand) → have_none (reverse before ++ k) ≡ true → have_none (keep k before) ≡ true) → have_none (if b then keep kept before else keep (a ∷ kept) before) ≡ true
still_by kept a before true is e next = next kept is
still_by kept a before false is e next = next (a ∷ kept) (sym (ap have_none (one_more kept a before)) ∙ e)

still_none : (kept before : List Demand) → have_none (reverse before ++ kept) ≡ true → have_none (keep kept before) ≡ true
still_none kept [] e = e
still_none kept (a ∷ before) e = still_by kept a before (have_none (reverse before ++ kept)) refl e (λ k m. still_none k before m)

pub smallest_none : (lines : List Demand) → have_none lines ≡ true → have_none (smallest lines) ≡ true
smallest_none lines e = still_none [] (reverse lines) (ap have_none (nothing_after (reverse (reverse lines)) ∙ reverse-reverse lines) ∙ e)

pub members_of : (xs ys : List Demand) → specifiers_of (xs ++ ys) ≡ specifiers_of xs ++ specifiers_of ys
members_of xs ys = flat_map-append (λ (a : Demand). a.specifiers) xs ys

-- the lines without a marker are sound where all are
pub sound_unmarked : (lines : List Demand) → All IsSound lines → All IsSound (unmarked lines)
sound_unmarked lines k = All-filter (λ (a : Demand). is_none a.marker) IsSound lines k

-- where the first lines have no version in common with those that are kept, the later ones are left out
skipped : (kept first : List Demand) → All IsSound kept → All IsSound first → have_none (first ++ kept) ≡ true → (later : List Demand) → All IsSound later → keep kept (later ++ reverse first) ≡ keep kept (reverse first)
skipped kept first k f e [] s = refl
skipped kept first k f e (x ∷ later) s =
    let all = later ++ reverse first in
    let rest = All-tail IsSound x later s in
    let turned : reverse all ≡ first ++ reverse later = reverse-append later (reverse first) ∙ ap (λ r. r ++ reverse later) (reverse-reverse first) in
    let sound = All-append IsSound first (reverse later) f (all_reversed IsSound later rest) in
    let none : have_none ((first ++ reverse later) ++ kept) ≡ true =
    more_none (first ++ kept) ((first ++ reverse later) ++ kept) (All-append IsSound first kept f k) (All-append IsSound (first ++ reverse later) kept sound k)
    (λ v h. All-append (Allows v) first kept (left_all (Allows v) first (reverse later) (left_all (Allows v) (first ++ reverse later) kept h)) (right_all (Allows v) (first ++ reverse later) kept h)) e in
    ap (λ b. if b then keep kept all else keep (x ∷ kept) all) (subst (λ ls. have_none (ls ++ kept) ≡ true) (sym turned) none)
    ∙ skipped kept first k f e later rest

-- those after the first lines are left out
pub first_enough : (kept first later : List Demand) → All IsSound kept → All IsSound first → All IsSound later → have_none (first ++ kept) ≡ true → keep kept (reverse (first ++ later)) ≡ keep kept (reverse first)
first_enough kept first later k f s e = ap (keep kept) (reverse-append first later) ∙ skipped kept first k f e (reverse later) (all_reversed IsSound later s)

-- without the last of them they have some in common, so it is kept
pub last_kept : (kept before : List Demand) (a : Demand) → have_none (before ++ kept) ≡ false → keep kept (reverse (before ++ a ∷ [])) ≡ keep (a ∷ kept) (reverse before)
last_kept kept before a some =
    ap (keep kept) (reverse-append before (a ∷ []))
    ∙ ap (λ b. if b then keep kept (reverse before) else keep (a ∷ kept) (reverse before)) (subst (λ ls. have_none (ls ++ kept) ≡ false) (sym (reverse-reverse before)) some)

-- ---- one round, of items that stand for lines

taken : {X : Type 0} (xs : List X) (n m : ℕ) (x : X) → n ≡ m + 1 → m < length xs → x ≡ get_or xs m x → take n xs ≡ take m xs ++ x ∷ []
taken xs n m x e inside is = ap (λ k. take k xs) e ∙ take_more xs m x inside ∙ ap (λ y. take m xs ++ y ∷ []) (sym is)

module _ {X : Type 0} (view : X → Demand) where
  -- what is known before each round
  pub record IsRound (total : List Demand) (kept rest : List X) : Type 0 where
    pub same : keep (map view kept) (reverse (map view rest)) ≡ total
    pub none : have_none (map view rest ++ map view kept) ≡ true
    pub kept_sound : All IsSound (map view kept)
    pub rest_sound : All IsSound (map view rest)

  halves_of : (rest : List X) (n : ℕ) → map view rest ≡ map view (take n rest) ++ map view (drop n rest)
  halves_of rest n = ap (map view) (sym (take-append-drop n rest)) ∙ map-append view (take n rest) (drop n rest)

  -- the last of the fewest lines is kept
  pub round : (total : List Demand) (kept rest : List X) (n m : ℕ) (x : X) → n ≡ m + 1 → m < length rest → x ≡ get_or rest m x → have_none (map view (take n rest) ++ map view kept) ≡ true
      → have_none (map view (take m rest) ++ map view kept) ≡ false → IsRound total kept rest → IsRound total (x ∷ kept) (take m rest)
  round total kept rest n m x e inside is none some r =
      let first = map view (take n rest) in
      let later = map view (drop n rest) in
      let before = map view (take m rest) in
      let k = map view kept in
      let sound = subst (All IsSound) (halves_of rest n) r.rest_sound in
      let first_sound = left_all IsSound first later sound in
      let front : first ≡ before ++ view x ∷ [] = ap (map view) (taken rest n m x e inside is) ∙ map-append view (take m rest) (x ∷ []) in
      let front_sound = subst (All IsSound) front first_sound in
      record {
        same =
            sym (last_kept k before (view x) some) ∙ ap (λ l. keep k (reverse l)) (sym front) ∙ sym (first_enough k first later r.kept_sound first_sound (right_all IsSound first later sound) none)
            ∙ ap (λ l. keep k (reverse l)) (sym (halves_of rest n)) ∙ r.same;
        none = ap have_none (sym (append_assoc before (view x ∷ []) k)) ∙ ap (λ l. have_none (l ++ k)) (sym front) ∙ none;
        kept_sound = All-cons IsSound (view x) k (All-head IsSound (view x) [] (right_all IsSound before (view x ∷ []) front_sound)) r.kept_sound;
        rest_sound = left_all IsSound before (view x ∷ []) front_sound;
      }

  -- those that are kept have none
  pub last_round : (total : List Demand) (kept rest : List X) → have_none (map view kept) ≡ true → IsRound total kept rest → map view kept ≡ total
  last_round total kept rest none r = sym (first_enough (map view kept) [] (map view rest) r.kept_sound (All-nil IsSound) r.rest_sound none) ∙ r.same

false_by : (b : Bool) → (b ≡ true → ⊥) → b ≡ false
false_by true never = absurd (never refl)
false_by false never = refl

-- ---- what a set says of the lines whose versions it has

none_left : (set : Segments) (lines : List Demand) → All IsSound lines → HoldsListMatches (specifiers_of lines) set → HasNoVersion set → have_none lines ≡ true
none_left set lines sound holds empty =
    true_from_ne_false (have_none lines) (λ some. let found = some_allowed lines sound some in true≢false (sym (holds found.0 found.1 ∙ allowed found.0 lines found.2) ∙ empty found.0 found.1))

some_left : (set : Segments) (lines : List Demand) → All IsSound lines → HoldsListMatches (specifiers_of lines) set → (HasNoVersion set → ⊥) → have_none lines ≡ false
some_left set lines sound holds some =
    false_by (have_none lines) (λ none. some (λ v denoted. false_by (contains record_cmp set v) (λ is. none_allowed lines sound none v denoted (allow v lines (sym (holds v denoted) ∙ is)))))

-- ---- fewer versions

-- the set has those of the other set that the lines allow
abbrev pub Narrows : Segments → List Demand → Segments → Type 0
Narrows set lines more = (v : Record) → IsDenoted v → contains record_cmp more v ≡ contains record_cmp set v && list_matches_literally (specifiers_of lines) v

both_match : (v : Record) (xs ys : List Demand) → list_matches_literally (specifiers_of (xs ++ ys)) v ≡ list_matches_literally (specifiers_of xs) v && list_matches_literally (specifiers_of ys) v
both_match v xs ys = ap (λ m. list_matches_literally m v) (members_of xs ys) ∙ parts v (specifiers_of xs) (specifiers_of ys)

swapped : (a b c : Bool) → (a && b) && c ≡ (a && c) && b
swapped false b c = refl
swapped true true true = refl
swapped true true false = refl
swapped true false true = refl
swapped true false false = refl

narrowed : (front later lines : List Demand) (set more : Segments) → HoldsListMatches (specifiers_of (front ++ later)) set → Narrows set lines more → HoldsListMatches (specifiers_of ((front ++ lines) ++ later)) more
narrowed front later lines set more holds is = λ v denoted.
    let matches = λ (ls : List Demand). list_matches_literally (specifiers_of ls) v in
    is v denoted ∙ ap (λ b. b && matches lines) (holds v denoted ∙ both_match v front later) ∙ swapped (matches front) (matches later) (matches lines)
    ∙ sym (both_match v (front ++ lines) later ∙ ap (λ b. b && matches later) (both_match v front lines))

-- ---- what is kept

-- without a version none of the lines is kept
pub needs_none : (set : Segments) (lines : List Demand) → All IsSound lines → HasNoVersion set → IsNeeded set lines []
needs_none set lines sound empty = λ front later f l holds. first_enough later front lines l f sound (none_left set (front ++ later) (All-append IsSound front later f l) holds empty)

pub nil_needed : (set : Segments) → IsNeeded set [] []
nil_needed set = λ front later f l holds. ap (λ ls. keep later (reverse ls)) (append-nil front)

-- with a version one line is kept
pub needs_one : (set : Segments) (a : Demand) → (HasNoVersion set → ⊥) → IsNeeded set (a ∷ []) (a ∷ [])
needs_one set a some = λ front later f l holds. last_kept later front a (some_left set (front ++ later) (All-append IsSound front later f l) holds some)

pub needs_both : (set beside_first beside_later : Segments) (first second kept more : List Demand) → All IsSound first → All IsSound kept → Narrows set first beside_first → Narrows set kept beside_later
    → IsNeeded beside_first second kept → IsNeeded beside_later first more → IsNeeded set (first ++ second) (more ++ kept)
needs_both set beside_first beside_later first second kept more first_sound kept_sound one other last ahead = λ front later f l holds.
    ap (λ ls. keep later (reverse ls)) (sym (append_assoc front first second))
    ∙ last (front ++ first) later (All-append IsSound front first f first_sound) l (narrowed front later first set beside_first holds one)
    ∙ ahead front (kept ++ later) f (All-append IsSound kept later kept_sound l) (subst (λ ls. HoldsListMatches (specifiers_of ls) beside_later) (append_assoc front kept later) (narrowed front later kept set beside_later holds other))
    ∙ ap (λ ls. keep ls (reverse front)) (sym (append_assoc more kept later))

-- ---- items that stand for lines

pub one_of : {X : Type 0} (xs : List X) (x : X) → length xs ≡ 1 → x ≡ get_or xs 0 x → xs ≡ x ∷ []
one_of [] x e is = absurd (omega (arith, e))
one_of (y ∷ []) x e is = ap (λ z. z ∷ []) (sym is)
one_of (y ∷ (z ∷ ys)) x e is = absurd (omega (arith, e))

-- either half of two or more is shorter
pub half_smaller : {X : Type 0} (xs : List X) → 0 < length xs → length xs ≢ 1 → length (take (length xs - length xs / 2) (drop (length xs / 2) xs)) < length xs
half_smaller {X = X} xs some two =
    let same : length (take (length xs - length xs / 2) (drop (length xs / 2) xs)) ≡ length (drop (length xs / 2) xs) = ap (λ (l : List X). length l) (take_rest xs (length xs / 2)) in
    let rest : length (drop (length xs / 2) xs) ≡ length xs - length xs / 2 = length-drop (length xs / 2) xs in
    omega (arith, same, rest, some, two)

pub first_smaller : {X : Type 0} (xs : List X) → 0 < length xs → length (take (length xs / 2) xs) < length xs
first_smaller xs some =
    let inside : length xs / 2 ≤ length xs = omega arith in
    omega (arith, length-take-le (length xs / 2) xs inside, some)

pub not_nil : {X : Type 0} (xs : List X) (b : Bool) → b ≡ (length xs == 0) → b ≡ false → 0 < length xs
not_nil [] b e f = absurd (true≢false (sym e ∙ f))
not_nil (x ∷ xs) b e f = omega arith

module _ {X : Type 0} (view : X → Demand) where
  apart : (lines : List X) (n : ℕ) → map view lines ≡ map view (take n lines) ++ map view (drop n lines)
  apart lines n = ap (map view) (sym (take-append-drop n lines)) ∙ map-append view (take n lines) (drop n lines)

  pub sound_front : (lines : List X) (n : ℕ) → All IsSound (map view lines) → All IsSound (map view (take n lines))
  sound_front lines n k = left_all IsSound (map view (take n lines)) (map view (drop n lines)) (subst (All IsSound) (apart lines n) k)

  pub sound_rest : (lines : List X) (n : ℕ) → All IsSound (map view lines) → All IsSound (map view (drop n lines))
  sound_rest lines n k = right_all IsSound (map view (take n lines)) (map view (drop n lines)) (subst (All IsSound) (apart lines n) k)

  pub sound_joined : (more kept all : List X) → all ≡ more ++ kept → All IsSound (map view more) → All IsSound (map view kept) → All IsSound (map view all)
  sound_joined more kept all is k m = subst (All IsSound) (sym (ap (map view) is ∙ map-append view more kept)) (All-append IsSound (map view more) (map view kept) k m)

  pub needs_halves : (set beside_first beside_later : Segments) (lines : List X) (n : ℕ) (kept more all : List X) → all ≡ more ++ kept → All IsSound (map view lines) → All IsSound (map view kept)
      → Narrows set (map view (take n lines)) beside_first → Narrows set (map view kept) beside_later → IsNeeded beside_first (map view (drop n lines)) (map view kept)
      → IsNeeded beside_later (map view (take n lines)) (map view more) → IsNeeded set (map view lines) (map view all)
  needs_halves set beside_first beside_later lines n kept more all is sound kept_sound one other last ahead =
      subst (λ ls. IsNeeded set ls (map view all)) (sym (apart lines n))
      (subst (IsNeeded set (map view (take n lines) ++ map view (drop n lines))) (sym (ap (map view) is ∙ map-append view more kept))
      (needs_both set beside_first beside_later (map view (take n lines)) (map view (drop n lines)) (map view kept) (map view more) (sound_front lines n sound) kept_sound one other last ahead))

-- of all versions the lines need the smallest list
pub needs_smallest : (set : Segments) (lines kept : List Demand) → HoldsListMatches [] set → IsNeeded set lines kept → kept ≡ smallest lines
needs_smallest set lines kept holds needed = sym (append-nil kept) ∙ sym (needed [] [] (All-nil IsSound) (All-nil IsSound) holds)
