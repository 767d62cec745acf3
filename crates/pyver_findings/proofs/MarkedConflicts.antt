-- What is found of lines of one name by their markers.
use Rattle.std.proofs.Common.{arith, ◌≡◌, ◌⊎◌, ◌+◌, ◌-◌, ◌<◌, ◌≤◌, ◌∙◌, ℕ, List, [], ◌∷◌, ◌++◌, ◌==◌, ◌||◌, Bool, true, false, Option, Some, None, ap, append_assoc, drop, get_or, inl, inr, is_none, length, map, nat_lt, refl, subst, suc, sym, take, if◌then◌else◌}
use Rattle.std.proofs.lemmas.Bool.{ltb-false, ltb-true, true≢false}
use Rattle.std.proofs.lemmas.List.Elements.{All-cons, All-head, All-nil, All-tail}
use Rattle.std.proofs.lemmas.List.{append-nil, drop_all, length-append, length-map, map-append, take_all, take_more}
use Rattle.std.specs.Global.{Vec}
use Rattle.std.specs.List.{All, Contains, filter, list_any}
use Rattle.pyver_requirements.proofs.Grouped.{rest_at}
use Rattle.pyver_findings.specs.Conflicts.{conflict_kind, first_mentions, has_same_marker, has_same_name, have_none, of_all, smallest, unmarked}
use Rattle.pyver_findings.specs.Demands.{Demand}
use Rattle.pyver_findings.specs.FileLines.{Conflicting, FileLine, Finding}
use Rattle.pyver_findings.specs.FindingLaws.{without_environment}
use Rattle.pyver_findings.specs.MarkedConflicts.{AreJoined, AsksIn, ConflictingSets, FindsBoth, FindsByUnmarked, FindsDecided, FindsNothing, FindsOfEach, FindsOfFirsts, FindsOfMarkers, FindsOfName, FindsOfNames, FindsOfSet, FindsOfSets, HasDenoted, IsDenotedBySteps, IsDecision, KnowsSteps, conflicting_sets, few_first_lines, first_lines, lines_to_pair, under_any, with_first}
use Rattle.pyver_findings.specs.Views.{AddsFindings, AddsFound, finding_of}
use Rattle.pyver_requirements.specs.declared.cause.Cause.{Cause}
use Rattle.pyver_requirements.specs.declared.cause.Cause.TheVariants as cause
use Rattle.pyver_findings.specs.declared.finding.Conflict.{Conflict}
use Rattle.pyver_findings.specs.declared.finding.Finding.{Finding as FindingValue}
use Rattle.pyver_findings.specs.declared.marked_conflicts.Decision.{Decision}
use Rattle.pyver_findings.specs.declared.marked_conflicts.Decision.TheVariants.{Apart, Together, Unknown}
use Rattle.pyver_markers.specs.Conditions.{Domain}
use Rattle.pyver_markers.specs.Environments.{Environment}
use Rattle.pyver_markers.specs.MarkerValues.{both_hold, value}
use Rattle.pyver_requirements.specs.MarkerGrammar.{Both, DenotesMarker, Marker}
use Rattle.pyver_requirements.specs.MarkerSteps.{Step, steps}

-- ---- joined markers

pub parsed : (text : List ℕ) (all : List Step) → ((m : Marker) × DenotesMarker text m × (all ≡ steps m)) → ((m : Marker) → DenotesMarker text m → all ≡ steps m) → IsDenotedBySteps (DenotesMarker text) all
parsed text all (m, denoted, have) only = ((m, denoted), only)

pub marked_steps : (a : Demand) (text : List ℕ) (all : List Step) → a.marker ≡ Some text → IsDenotedBySteps (DenotesMarker text) all → IsDenotedBySteps (HasDenoted a) all
marked_steps a text all has ((m, denoted), only) = ((m, (text, has, denoted)), (λ n d. only n (subst (λ t. DenotesMarker t n) (let same : Some d.0 ≡ Some text = sym d.1 ∙ has in cc same) d.2)))

pub joined_one : (set : List Demand) (a : Demand) (all : List Step) → set ≡ a ∷ [] → IsDenotedBySteps (HasDenoted a) all → IsDenotedBySteps (AreJoined set) all
joined_one set a all is has = subst (λ s. IsDenotedBySteps (AreJoined s) all) (sym is) has

pub joined_more : (set : List Demand) (a : Demand) (others : List Demand) (one rest joined : List Step) → set ≡ a ∷ others → 1 ≤ length others → IsDenotedBySteps (HasDenoted a) one → IsDenotedBySteps (AreJoined others) rest
    → ((m n : Marker) → one ≡ steps m → rest ≡ steps n → joined ≡ steps (Both m n)) → IsDenotedBySteps (AreJoined set) joined
joined_more set a [] one rest joined is some has are join = absurd (omega (arith, some))
joined_more set a (b ∷ others) one rest joined is some ((x, has), only) ((y, are), alone) join =
    subst (λ s. IsDenotedBySteps (AreJoined s) joined) (sym is)
    ((Both x y, (x, y, has, are, refl)), (λ m d. join d.0 d.1 (only d.0 d.2) (alone d.1 d.3) ∙ ap steps (sym d.4)))

pub some_mapped : {X Y : Type 0} (view : Y → X) (ys : List Y) → (length ys == 0) ≡ false → 1 ≤ length (map view ys)
some_mapped view [] some = absurd (true≢false some)
some_mapped view (y ∷ ys) some = omega arith

pub both_true : (p q : Option Bool) → both_hold p q ≡ Some true → (p ≡ Some true) × (q ≡ Some true)
both_true (Some true) (Some true) e = (refl, refl)
both_true (Some true) (Some false) e = cc e
both_true (Some false) (Some b) e = cc e
both_true (Some a) None e = cc e
both_true None (Some b) e = cc e
both_true None None e = cc e

-- where the joined marker holds, all lines ask
all_ask : (e : Environment) (set : List Demand) (m : Marker) → AreJoined set m → value e m ≡ Some true → All (AsksIn e) set
all_ask e [] m are holds = absurd are
all_ask e (a ∷ []) m (text, has, denoted) holds = All-cons (AsksIn e) a [] (inr (text, has, (m, denoted, holds))) (All-nil (AsksIn e))
all_ask e (a ∷ (b ∷ rest)) m (x, y, (text, has, denoted), are, is) holds =
    let both = both_true (value e x) (value e y) (ap (value e) (sym is) ∙ holds) in
    All-cons (AsksIn e) a (b ∷ rest) (inr (text, has, (x, denoted, both.0))) (all_ask e (b ∷ rest) y are both.1)

one_held : (e : Environment) (a : Demand) (m : Marker) → HasDenoted a m → AsksIn e a → (n : Marker) × HasDenoted a n × (value e n ≡ Some true)
one_held e a m (text, has, denoted) (inl none) = let never : None ≡ Some text = sym none ∙ has in cc never
one_held e a m has (inr (text, is, (n, denoted, holds))) = (n, (text, is, denoted), holds)

-- where all lines ask, so holds a joined marker
all_held : (e : Environment) (set : List Demand) (m : Marker) → AreJoined set m → All (AsksIn e) set → (n : Marker) × AreJoined set n × (value e n ≡ Some true)
all_held e [] m are ask = absurd are
all_held e (a ∷ []) m has ask = one_held e a m has (All-head (AsksIn e) a [] ask)
all_held e (a ∷ (b ∷ rest)) m (x, y, has, are, is) ask =
    let (n, first, holds) = one_held e a x has (All-head (AsksIn e) a (b ∷ rest) ask) in
    let (l, others, hold) = all_held e (b ∷ rest) y are (All-tail (AsksIn e) a (b ∷ rest) ask) in
    (Both n l, (n, l, first, others, refl), (λ i. both_hold (holds i) (hold i)))

pub known : (d : Domain) (set : List Demand) (all : List Step) (x : Decision) → IsDenotedBySteps (AreJoined set) all → KnowsSteps d all x → IsDecision d set x
known d set all (Together environment) ((m, is), only) (variables, example, written) =
    let x = example m (only m is) in
    (variables, record { environment = x.environment; known = x.known; has = x.has; ask = λ e extends. all_ask e set m is (x.holds e extends); writable = x.writable }, written)
known d set all Apart ((m, is), only) never = λ e one ask. let held = all_held e set m is ask in never held.0 (only held.0 held.1) e one held.2
known d set all Unknown has knows = tt

-- ---- what is found, one after another

-- with what is found of the rest, this is what is found of all
abbrev pub Continues : (Rest Whole : List Finding → List Cause → Type 0) → List Finding → List Cause → Type 0
Continues Rest Whole fs cs = (gs : List Finding) (ds : List Cause) → Rest gs ds → Whole (fs ++ gs) (cs ++ ds)

pub nothing_found : (P : List Finding → List Cause → Type 0) (old new : List FindingValue) (before after : List Cause) → P [] [] → new ≡ old → after ≡ before → AddsFound P old new before after
nothing_found P old new before after p same also = ([], [], p, ap (map finding_of) same ∙ sym (append-nil (map finding_of old)), also ∙ sym (append-nil before))

-- where nothing was added, nothing was found
pub found_nothing : (P : List Finding → List Cause → Type 0) (old new : List FindingValue) (before after : List Cause) → old ≡ [] → new ≡ [] → AddsFound P old new before after → (cs : List Cause) × P [] cs
found_nothing P old new before after none nil (fs, cs, p, adds, also) = (cs, subst (λ l. P l cs) (sym (adds ∙ (λ j. map finding_of (none j) ++ fs)) ∙ ap (map finding_of) nil) p)

pub start : (Whole : List Finding → List Cause → Type 0) (old new : List FindingValue) (before after : List Cause) → new ≡ old → after ≡ before → AddsFound (Continues Whole Whole) old new before after
start Whole old new before after same also = nothing_found (Continues Whole Whole) old new before after (λ gs ds w. w) same also

pub found_more : (Rest Later Whole P : List Finding → List Cause → Type 0) (old new more : List FindingValue) (before after last : List Cause)
    → ((f g : List Finding) (c d : List Cause) → P f c → Later g d → Rest (f ++ g) (c ++ d)) → AddsFound P new more after last → AddsFound (Continues Rest Whole) old new before after
    → AddsFound (Continues Later Whole) old more before last
found_more Rest Later Whole P old new more before after last join (f, c, p, adds, also) (fs, cs, k, so_far, so) = (
  fs ++ f,
  cs ++ c,
  λ gs ds r. subst (λ l. Whole l ((cs ++ c) ++ ds)) (sym (append_assoc fs f gs)) (subst (λ l. Whole (fs ++ (f ++ gs)) l) (sym (append_assoc cs c ds)) (k (f ++ gs) (c ++ ds) (join f gs c ds p r))),
  adds ∙ ap (λ l. l ++ f) so_far ∙ append_assoc (map finding_of old) fs f,
  also ∙ ap (λ l. l ++ c) so ∙ append_assoc before cs c,
)

pub finish : (Rest Whole : List Finding → List Cause → Type 0) (old new : List FindingValue) (before after : List Cause) → Rest [] [] → AddsFound (Continues Rest Whole) old new before after → AddsFound Whole old new before after
finish Rest Whole old new before after r (fs, cs, k, so_far, so) =
    (fs, cs, subst (λ l. Whole l cs) (append-nil fs) (subst (λ l. Whole (fs ++ []) l) (append-nil cs) (k [] [] r)), so_far, so)

-- ---- sets

-- lines that have no version in common, by what is known of their markers
module _ (lines : List Demand) (old new : List FindingValue) (before after : List Cause) where
  pub decided_together : (environment : Vec ℕ) (d : Decision) → d ≡ Together environment → AddsFindings old new (of_all (Some environment.items) lines) → after ≡ before → AddsFound (FindsDecided d lines) old new before after
  decided_together environment d is adds also =
      subst (λ e. AddsFound (FindsDecided e lines) old new before after) (sym is) (of_all (Some environment.items) lines, [], (refl, refl), adds, also ∙ sym (append-nil before))

  pub decided_apart : (d : Decision) → d ≡ Apart → new ≡ old → after ≡ before → AddsFound (FindsDecided d lines) old new before after
  decided_apart d is same also = subst (λ e. AddsFound (FindsDecided e lines) old new before after) (sym is) (nothing_found (FindsDecided Apart lines) old new before after (refl, refl) same also)

  pub decided_unknown : (d : Decision) → d ≡ Unknown → have_none lines ≡ true → new ≡ old → after ≡ before ++ cause.Undecided ∷ [] → AddsFound (FindsDecided d lines) old new before after
  decided_unknown d is none same also =
      subst (λ e. AddsFound (FindsDecided e lines) old new before after) (sym is)
      ([], cause.Undecided ∷ [], (refl, ap (λ n. if n then cause.Undecided ∷ [] else []) (sym none)), ap (map finding_of) same ∙ sym (append-nil (map finding_of old)), also)

module _ (d : Domain) (lines set : List Demand) (old new : List FindingValue) (before after : List Cause) where
  -- they have a version in common
  pub set_shared : have_none (under_any set lines) ≡ false → new ≡ old → after ≡ before → AddsFound (FindsOfSet d lines set) old new before after
  set_shared some same also =
      nothing_found (FindsOfSet d lines set) old new before after (Unknown, tt, (refl, ap (λ n. if n then cause.Undecided ∷ [] else []) (sym some))) same also

  pub set_decided : (x : Decision) → IsDecision d set x → AddsFound (FindsDecided x (under_any set lines)) old new before after → AddsFound (FindsOfSet d lines set) old new before after
  set_decided x k (fs, cs, finds, adds, also) = (fs, cs, (x, k, finds), adds, also)

module _ (d : Domain) (lines : List Demand) (sets : List (List Demand)) (old new : List FindingValue) (before after : List Cause) where
  pub sets_whole : (whole : Bool) → whole ≡ true → AddsFound (FindsOfEach (FindsOfSet d lines) sets) old new before after → AddsFound (FindsOfSets d lines sets whole) old new before after
  sets_whole whole is adds = subst (λ b. AddsFound (FindsOfSets d lines sets b) old new before after) (sym is) adds

  -- there may be others
  pub sets_cut : (whole : Bool) (last : List Cause) → whole ≡ false → last ≡ after ++ cause.Undecided ∷ [] → AddsFound (FindsOfEach (FindsOfSet d lines) sets) old new before after → AddsFound (FindsOfSets d lines sets whole) old new before last
  sets_cut whole last is more (fs, cs, finds, adds, also) =
      subst (λ b. AddsFound (FindsOfSets d lines sets b) old new before last) (sym is)
      (fs, cs ++ cause.Undecided ∷ [], (cs, finds, refl), adds, more ∙ ap (λ l. l ++ cause.Undecided ∷ []) also ∙ append_assoc before cs (cause.Undecided ∷ []))

-- of lines of one name under several markers
module _ (d : Domain) (lines : List Demand) (old new : List FindingValue) (before after : List Cause) where
  pub name_undecided : None ≡ few_first_lines lines → new ≡ old → after ≡ before ++ cause.Undecided ∷ [] → AddsFound (FindsOfFirsts d lines (few_first_lines lines)) old new before after
  name_undecided many same also =
      ([], cause.Undecided ∷ [], subst (λ (f : Option (List Demand)). FindsOfFirsts d lines f [] (cause.Undecided ∷ [])) many (refl, refl), ap (map finding_of) same ∙ sym (append-nil (map finding_of old)), also)

  pub name_searched : (firsts : List Demand) (found : ConflictingSets) → Some firsts ≡ few_first_lines lines → found ≡ conflicting_sets lines (lines_to_pair lines firsts) → AddsFound (FindsOfSets d lines found.sets found.whole) old new before after
      → AddsFound (FindsOfFirsts d lines (few_first_lines lines)) old new before after
  name_searched firsts found few is (fs, cs, finds, adds, also) =
      (fs, cs, subst (λ (f : Option (List Demand)). FindsOfFirsts d lines f fs cs) few (subst (λ (f : ConflictingSets). FindsOfSets d lines f.sets f.whole fs cs) is finds), adds, also)

  -- the lines without a marker have no version in common
  pub unmarked_found : have_none (unmarked lines) ≡ true → AddsFindings old new (of_all None (unmarked lines)) → after ≡ before → AddsFound (FindsOfName d lines) old new before after
  unmarked_found none adds same =
      (of_all None (unmarked lines), [], subst (λ b. FindsByUnmarked d lines b (of_all None (unmarked lines)) []) (sym none) (refl, refl), adds, same ∙ sym (append-nil before))

  -- they have one: first each marker, then several
  pub marked_found : (more : List FindingValue) (last : List Cause) → have_none (unmarked lines) ≡ false → AddsFound (FindsOfMarkers d lines) old new before after → AddsFound (FindsOfFirsts d lines (few_first_lines lines)) new more after last
      → AddsFound (FindsOfName d lines) old more before last
  marked_found more last some (f, c, one, adds, also) (g, e, several, then_adds, and_also) = (
    f ++ g,
    c ++ e,
    subst (λ b. FindsByUnmarked d lines b (f ++ g) (c ++ e)) (sym some) (f, g, c, e, one, several, refl, refl),
    then_adds ∙ ap (λ l. l ++ g) adds ∙ append_assoc (map finding_of old) f g,
    and_also ∙ ap (λ l. l ++ e) also ∙ append_assoc before c e,
  )

-- ---- lists

-- one element more
pub each_more : {X Y : Type 0} (view : Y → X) (P : X → List Finding → List Cause → Type 0) (xs : List Y) (i : ℕ) (x : Y) (old new more : List FindingValue) (before after last : List Cause) → i < length xs → x ≡ get_or xs i x
    → AddsFound (P (view x)) new more after last → AddsFound (Continues (FindsOfEach P (map view (drop i xs))) (FindsOfEach P (map view xs))) old new before after
    → AddsFound (Continues (FindsOfEach P (map view (drop (i + 1) xs))) (FindsOfEach P (map view xs))) old more before last
each_more view P xs i x old new more before after last inside is adds so_far =
    let Whole = FindsOfEach P (map view xs) in
    let later = map view (drop (i + 1) xs) in
    found_more (FindsOfEach P (view x ∷ later)) (FindsOfEach P later) Whole (P (view x)) old new more before after last (λ f g c d p r. (f, g, c, d, p, r, refl, refl)) adds
    (subst (λ l. AddsFound (Continues (FindsOfEach P (map view l)) Whole) old new before after) (rest_at xs i x inside is) so_far)

-- no element is left
pub each_done : {X Y : Type 0} (view : Y → X) (P : X → List Finding → List Cause → Type 0) (xs : List Y) (i : ℕ) (old new : List FindingValue) (before after : List Cause) → length xs ≤ i
    → AddsFound (Continues (FindsOfEach P (map view (drop i xs))) (FindsOfEach P (map view xs))) old new before after → AddsFound (FindsOfEach P (map view xs)) old new before after
each_done view P xs i old new before after behind so_far =
    let none : drop i xs ≡ [] = drop_all i xs behind in
    let Whole = FindsOfEach P (map view xs) in
    finish (FindsOfEach P []) Whole old new before after (refl, refl) (subst (λ l. AddsFound (Continues (FindsOfEach P (map view l)) Whole) old new before after) none so_far)

pub first_and_rest : {Y : Type 0} (xs : List Y) (x : Y) → 1 ≤ length xs → x ≡ get_or xs 0 x → xs ≡ x ∷ take (length xs - 1) (drop 1 xs)
first_and_rest [] x long is = absurd (omega arith)
first_and_rest (y ∷ rest) x long is = let whole : take (length (y ∷ rest) - 1) rest ≡ rest = take_all (length (y ∷ rest) - 1) rest (omega arith) in (λ j. sym is j ∷ sym whole j)

-- ---- first mentions

-- what is found at a first mention, and nothing at another
abbrev pub FindsFirst : Bool → (List Finding → List Cause → Type 0) → List Finding → List Cause → Type 0
FindsFirst mentioned P f c = (mentioned ≡ true → FindsNothing f c) × (mentioned ≡ false → P f c)

module _ (same : Demand → Demand → Bool) (P : Demand → List Finding → List Cause → Type 0) where
  joined : (b : Bool) (x : Demand) (rest : List Demand) (f g : List Finding) (c d : List Cause) → FindsFirst b (P x) f c → FindsOfEach P rest g d
      → FindsOfEach P ((if b then [] else x ∷ []) ++ rest) (f ++ g) (c ++ d)
  joined true x rest f g c d (empty, one) r =
      let none = empty refl in
      subst (λ l. FindsOfEach P rest l (c ++ d)) (ap (λ l. l ++ g) (sym none.0)) (subst (λ l. FindsOfEach P rest g l) (ap (λ l. l ++ d) (sym none.1)) r)
  joined false x rest f g c d (empty, one) r = (f, g, c, d, one refl, r, refl, refl)

  -- one element more, which is a first mention or none
  pub mention_more : {Y : Type 0} (view : Y → Demand) (xs : List Y) (i : ℕ) (x : Y) (old new more : List FindingValue) (before after last : List Cause) → i < length xs → x ≡ get_or xs i x
      → AddsFound (FindsFirst (list_any (same (view x)) (map view (take i xs))) (P (view x))) new more after last
      → AddsFound (Continues (FindsOfEach P (first_mentions same (map view (take i xs)) (map view (drop i xs)))) (FindsOfEach P (first_mentions same [] (map view xs)))) old new before after
      → AddsFound (Continues (FindsOfEach P (first_mentions same (map view (take (i + 1) xs)) (map view (drop (i + 1) xs)))) (FindsOfEach P (first_mentions same [] (map view xs)))) old more before last
  mention_more view xs i x old new more before after last inside is adds so_far =
      let Whole = FindsOfEach P (first_mentions same [] (map view xs)) in
      let front = map view (take i xs) in
      let behind = map view (drop (i + 1) xs) in
      let any = list_any (same (view x)) front in
      let longer : map view (take (i + 1) xs) ≡ front ++ view x ∷ [] = ap (map view) (take_more xs i x inside ∙ ap (λ y. take i xs ++ y ∷ []) (sym is)) ∙ map-append view (take i xs) (x ∷ []) in
      let later = first_mentions same (front ++ view x ∷ []) behind in
      subst (λ l. AddsFound (Continues (FindsOfEach P (first_mentions same l behind)) Whole) old more before last) (sym longer)
      (found_more (FindsOfEach P ((if any then [] else view x ∷ []) ++ later)) (FindsOfEach P later) Whole (FindsFirst any (P (view x))) old new more before after last
      (λ f g c d finds rest. joined any (view x) later f g c d finds rest)
      adds
      (subst (λ l. AddsFound (Continues (FindsOfEach P (first_mentions same front (map view l))) Whole) old new before after) (rest_at xs i x inside is) so_far))

  pub mentions_done : {Y : Type 0} (view : Y → Demand) (xs : List Y) (i : ℕ) (front : List Demand) (Whole : List Finding → List Cause → Type 0) (old new : List FindingValue) (before after : List Cause) → length xs ≤ i
      → AddsFound (Continues (FindsOfEach P (first_mentions same front (map view (drop i xs)))) Whole) old new before after → AddsFound Whole old new before after
  mentions_done view xs i front Whole old new before after behind so_far =
      let none : drop i xs ≡ [] = drop_all i xs behind in
      finish (FindsOfEach P []) Whole old new before after (refl, refl)
      (subst (λ l. AddsFound (Continues (FindsOfEach P (first_mentions same front (map view l))) Whole) old new before after) none so_far)

-- ---- names

-- nothing is found of no lines
pub no_lines : (d : Domain) (fs : List Finding) (cs : List Cause) → FindsOfName d [] fs cs → FindsNothing fs cs
no_lines d fs cs (f, g, c, e, (none, nothing), (empty, also), is, so) = (is ∙ (λ j. none j ++ empty j), so ∙ (λ j. nothing j ++ also j))

-- what is found of a group that is taken
pub taken_found : (d : Domain) (b : Bool) (lines group : List Demand) (old new : List FindingValue) (before after : List Cause) → group ≡ (if b then [] else lines) → AddsFound (FindsOfName d group) old new before after
    → AddsFound (FindsFirst b (FindsOfName d lines)) old new before after
taken_found d true lines group old new before after is (fs, cs, finds, adds, also) =
    (fs, cs, ((λ e. no_lines d fs cs (subst (λ g. FindsOfName d g fs cs) is finds)), (λ e. absurd (true≢false e))), adds, also)
taken_found d false lines group old new before after is (fs, cs, finds, adds, also) =
    (fs, cs, ((λ e. absurd (true≢false (sym e))), (λ e. subst (λ g. FindsOfName d g fs cs) is finds)), adds, also)

abbrev pub of_name_of : Domain → List Demand → Demand → List Finding → List Cause → Type 0
of_name_of d lines a = FindsOfName d (filter (has_same_name a) lines)

-- ---- markers

abbrev pub of_marker_of : Domain → List Demand → Demand → List Finding → List Cause → Type 0
of_marker_of d lines a = FindsOfSet d lines (a ∷ [])

module _ (d : Domain) (lines : List Demand) (a : Demand) (any : Bool) (old new : List FindingValue) (before after : List Cause) where
  -- a line at which nothing is looked at, as it is no first mention, or as the lines under its marker have a version in common
  pub marker_passed : (any ≡ false → have_none (under_any (a ∷ []) lines) ≡ false) → new ≡ old → after ≡ before → AddsFound (FindsFirst any (of_marker_of d lines a)) old new before after
  marker_passed some same also =
      nothing_found (FindsFirst any (of_marker_of d lines a)) old new before after
      ((λ e. (refl, refl)), (λ e. (Unknown, tt, (refl, ap (λ n. if n then cause.Undecided ∷ [] else []) (sym (some e)))))) same also

  pub marker_looked : (any ≡ true → ⊥) → AddsFound (of_marker_of d lines a) old new before after → AddsFound (FindsFirst any (of_marker_of d lines a)) old new before after
  marker_looked first (fs, cs, finds, adds, also) = (fs, cs, ((λ e. absurd (first e)), (λ e. finds)), adds, also)

-- ---- first lines

shorter_by : (b : Bool) (firsts : List Demand) (a : Demand) → length firsts ≤ length (if b then firsts else firsts ++ a ∷ [])
shorter_by true firsts a = omega arith
shorter_by false firsts a = let more : length (firsts ++ a ∷ []) ≡ length firsts + 1 = length-append firsts (a ∷ []) in omega (arith, more)

no_fewer : (firsts rest : List Demand) → length firsts ≤ length (first_lines firsts rest)
no_fewer firsts [] = omega arith
no_fewer firsts (a ∷ rest) =
    let one : length firsts ≤ length (with_first firsts a) = shorter_by (is_none a.marker || list_any (has_same_marker a) firsts) firsts a in
    let others : length (with_first firsts a) ≤ length (first_lines (with_first firsts a) rest) = no_fewer (with_first firsts a) rest in
    omega (arith, one, others)

many_by : (b : Bool) (all : List Demand) → nat_lt 32 (length all) ≡ b → 32 < length all → None ≡ (if b then None else Some all)
many_by true all is more = refl
many_by false all is more = let few : length all ≤ 32 = ltb-false 32 (length all) is in absurd (omega (arith, few, more))

few_by : (b : Bool) (all : List Demand) → nat_lt 32 (length all) ≡ b → length all ≤ 32 → Some all ≡ (if b then None else Some all)
few_by true all is few = let more : 32 < length all = ltb-true 32 (length all) is in absurd (omega (arith, few, more))
few_by false all is few = refl

-- one line more, and there are too many
pub too_many : {Y : Type 0} (view : Y → Demand) (firsts : List Y) (rest lines : List Demand) → first_lines (map view firsts) rest ≡ first_lines [] lines → 32 < length firsts → None ≡ few_first_lines lines
too_many view firsts rest lines so_far more =
    let no_less : length (map view firsts) ≤ length (first_lines (map view firsts) rest) = no_fewer (map view firsts) rest in
    let all : length (first_lines (map view firsts) rest) ≡ length (first_lines [] lines) = ap length so_far in
    let mapped : length (map view firsts) ≡ length firsts = length-map firsts view in
    many_by (nat_lt 32 (length (first_lines [] lines))) (first_lines [] lines) refl (omega (arith, no_less, all, mapped, more))

-- all lines were looked at
pub all_few : {Y : Type 0} (view : Y → Demand) (firsts : List Y) (lines : List Demand) → map view firsts ≡ first_lines [] lines → length firsts ≤ 32 → Some (map view firsts) ≡ few_first_lines lines
all_few view firsts lines so_far few =
    let all : length (map view firsts) ≡ length (first_lines [] lines) = ap length so_far in
    let mapped : length (map view firsts) ≡ length firsts = length-map firsts view in
    ap Some so_far ∙ few_by (nat_lt 32 (length (first_lines [] lines))) (first_lines [] lines) refl (omega (arith, all, mapped, few))

-- one line more
pub first_more : {Y : Type 0} (view : Y → Demand) (xs : List Y) (i : ℕ) (x : Y) (old new all : List Demand) → i < length xs → x ≡ get_or xs i x → new ≡ with_first old (view x) → first_lines old (map view (drop i xs)) ≡ all
    → first_lines new (map view (drop (i + 1) xs)) ≡ all
first_more view xs i x old new all inside is more so =
    ap (λ l. first_lines l (map view (drop (i + 1) xs))) more ∙ ap (λ l. first_lines old (map view l)) (sym (rest_at xs i x inside is)) ∙ so

-- ---- what is undecided is told

-- one is among these causes
abbrev pub Tells : List Cause → Type 0
Tells [] = ⊥
Tells (c ∷ cs) = (c ≡ cause.Undecided) ⊎ Tells cs

-- nothing is left open, or this is told
abbrev pub IsTold : List Cause → Type 0
IsTold cs = (cs ≡ []) ⊎ Tells cs

pub tells_left : (cs ds : List Cause) → Tells cs → Tells (cs ++ ds)
tells_left [] ds t = absurd t
tells_left (c ∷ cs) ds (inl is) = inl is
tells_left (c ∷ cs) ds (inr t) = inr (tells_left cs ds t)

pub tells_right : (cs ds : List Cause) → Tells ds → Tells (cs ++ ds)
tells_right [] ds t = t
tells_right (c ∷ cs) ds t = inr (tells_right cs ds t)

pub contains_told : (cs : List Cause) → Tells cs → Contains cs cause.Undecided
contains_told [] t = absurd t
contains_told (c ∷ cs) (inl is) = (0, omega arith, is)
contains_told (c ∷ cs) (inr t) = let r = contains_told cs t in (suc r.0, omega (arith, r.1), r.2)

pub no_causes : (front cs : List Cause) → IsTold cs → ¬ Contains (front ++ cs) cause.Undecided → cs ≡ []
no_causes front cs (inl none) decided = none
no_causes front cs (inr told) decided = absurd (decided (contains_told (front ++ cs) (tells_right front cs told)))

pub joined_told : (all cs ds : List Cause) → all ≡ cs ++ ds → IsTold cs → IsTold ds → IsTold all
joined_told all cs ds is (inl none) (inl also) = inl (is ∙ ap (λ l. l ++ ds) none ∙ also)
joined_told all cs ds is (inl none) (inr told) = inr (subst Tells (sym is) (tells_right cs ds told))
joined_told all cs ds is (inr told) rest = inr (subst Tells (sym is) (tells_left cs ds told))

pub each_told : {X : Type 0} (P : X → List Finding → List Cause → Type 0) → ((x : X) (fs : List Finding) (cs : List Cause) → P x fs cs → IsTold cs) → (xs : List X) (fs : List Finding) (cs : List Cause) → FindsOfEach P xs fs cs → IsTold cs
each_told P told [] fs cs (is, also) = inl also
each_told P told (x ∷ rest) fs cs (f, g, c, d, here, later, is, also) = joined_told cs c d also (told x f c here) (each_told P told rest g d later)

undecided_told : (none : Bool) (cs : List Cause) → cs ≡ (if none then cause.Undecided ∷ [] else []) → IsTold cs
undecided_told true cs is = inr (subst Tells (sym is) (inl refl))
undecided_told false cs is = inl is

decided_told : (d : Decision) (lines : List Demand) (fs : List Finding) (cs : List Cause) → FindsDecided d lines fs cs → IsTold cs
decided_told (Together environment) lines fs cs (is, also) = inl also
decided_told Apart lines fs cs (is, also) = inl also
decided_told Unknown lines fs cs (is, also) = undecided_told (have_none lines) cs also

sets_told : (d : Domain) (lines : List Demand) (sets : List (List Demand)) (whole : Bool) (fs : List Finding) (cs : List Cause) → FindsOfSets d lines sets whole fs cs → IsTold cs
sets_told d lines sets true fs cs finds = each_told (FindsOfSet d lines) (λ set fs cs finds. decided_told finds.0 (under_any set lines) fs cs finds.2) sets fs cs finds
sets_told d lines sets false fs cs (told, finds, is) = inr (subst Tells (sym is) (tells_right told (cause.Undecided ∷ []) (inl refl)))

firsts_told : (d : Domain) (lines : List Demand) (firsts : Option (List Demand)) (fs : List Finding) (cs : List Cause) → FindsOfFirsts d lines firsts fs cs → IsTold cs
firsts_told d lines None fs cs (is, also) = inr (subst Tells (sym also) (inl refl))
firsts_told d lines (Some firsts) fs cs finds =
    let found = conflicting_sets lines (lines_to_pair lines firsts) in
    sets_told d lines found.sets found.whole fs cs finds

name_told : (d : Domain) (lines : List Demand) (b : Bool) (fs : List Finding) (cs : List Cause) → FindsByUnmarked d lines b fs cs → IsTold cs
name_told d lines true fs cs (is, also) = inl also
name_told d lines false fs cs (f, g, c, e, one, several, is, also) =
    joined_told cs c e also (each_told (of_marker_of d lines) (λ a fs cs finds. decided_told finds.0 (under_any (a ∷ []) lines) fs cs finds.2) (first_mentions has_same_marker [] lines) f c one)
    (firsts_told d lines (few_first_lines lines) g e several)

pub names_tell : (d : Domain) (lines : List Demand) (fs : List Finding) (cs : List Cause) → FindsOfNames d lines fs cs → IsTold cs
names_tell d lines = each_told (of_name_of d lines) (λ a fs cs finds. let these = filter (has_same_name a) lines in name_told d these (have_none (unmarked these)) fs cs finds) (first_mentions has_same_name [] lines)

-- ---- where nothing is undecided, one thing is found

both_nil : (cs ds : List Cause) → [] ≡ cs ++ ds → (cs ≡ []) × (ds ≡ [])
both_nil [] [] is = (refl, refl)
both_nil [] (d ∷ ds) is = cc is
both_nil (c ∷ cs) ds is = cc is

-- what this finds is one thing but for environments, where nothing is left open
abbrev pub IsOnce : (List Finding → List Cause → Type 0) → Type 0
IsOnce P = (fs gs : List Finding) → P fs [] → P gs [] → map without_environment fs ≡ map without_environment gs

same_findings : (fs gs : List Finding) → fs ≡ gs → map without_environment fs ≡ map without_environment gs
same_findings fs gs is = ap (map without_environment) is

pub each_once : {X : Type 0} (P : X → List Finding → List Cause → Type 0) → ((x : X) → IsOnce (P x)) → (xs : List X) → IsOnce (FindsOfEach P xs)
each_once P once [] fs gs (is, _) (so, _) = same_findings fs gs (is ∙ sym so)
each_once P once (x ∷ rest) fs gs (f, g, c, d, here, later, is, nil) (f', g', c', d', here', later', is', nil') =
    let one = both_nil c d nil in
    let other = both_nil c' d' nil' in
    let first = once x f f' (subst (P x f) one.0 here) (subst (P x f') other.0 here') in
    let others = each_once P once rest g g' (subst (FindsOfEach P rest g) one.1 later) (subst (FindsOfEach P rest g') other.1 later') in
    same_findings fs (f ++ g) is ∙ map-append without_environment f g ∙ (λ j. first j ++ others j) ∙ sym (map-append without_environment f' g') ∙ same_findings (f' ++ g') gs (sym is')

-- where lines have a version in common, nothing is found
of_none : (environment : Option (List ℕ)) (lines : List Demand) (b : Bool) → have_none lines ≡ b → [] ≡ (if b then cause.Undecided ∷ [] else []) → of_all environment lines ≡ []
of_none environment lines true is told = cc told
of_none environment lines false is told = ap (λ b. if b then Conflicting (conflict_kind (smallest lines)) (map (λ (a : Demand). a.line) (smallest lines)) environment ∷ [] else []) is

-- in whatever environment, the lines are the same
wherever : (one other : Option (List ℕ)) (b : Bool) (kind : Conflict) (some : List FileLine)
    → map without_environment (if b then Conflicting kind some one ∷ [] else []) ≡ map without_environment (if b then Conflicting kind some other ∷ [] else [])
wherever one other true kind some = refl
wherever one other false kind some = refl

apart_and_together : (d : Domain) (set : List Demand) (environment : Vec ℕ) → IsDecision d set (Together environment) → IsDecision d set Apart → ⊥
apart_and_together d set environment (variables, asked, written) apart = apart asked.environment asked.known (asked.ask asked.environment asked.has)

decided_once : (d : Domain) (x y : Decision) (set lines : List Demand) (fs gs : List Finding) → IsDecision d set x → IsDecision d set y → FindsDecided x lines fs [] → FindsDecided y lines gs [] → map without_environment fs ≡ map without_environment gs
decided_once d (Together one) (Together other) set lines fs gs k l (is, _) (so, _) =
    same_findings fs (of_all (Some one.items) lines) is
    ∙ wherever (Some one.items) (Some other.items) (have_none lines) (conflict_kind (smallest lines)) (map (λ (a : Demand). a.line) (smallest lines))
    ∙ same_findings (of_all (Some other.items) lines) gs (sym so)
decided_once d (Together one) Apart set lines fs gs k l finds found = absurd (apart_and_together d set one k l)
decided_once d (Together one) Unknown set lines fs gs k l (is, _) (so, told) = same_findings fs gs (is ∙ of_none (Some one.items) lines (have_none lines) refl told ∙ sym so)
decided_once d Apart (Together other) set lines fs gs k l finds found = absurd (apart_and_together d set other l k)
decided_once d Apart Apart set lines fs gs k l (is, _) (so, _) = same_findings fs gs (is ∙ sym so)
decided_once d Apart Unknown set lines fs gs k l (is, _) (so, _) = same_findings fs gs (is ∙ sym so)
decided_once d Unknown (Together other) set lines fs gs k l (is, told) (so, _) = same_findings fs gs (is ∙ sym (of_none (Some other.items) lines (have_none lines) refl told) ∙ sym so)
decided_once d Unknown Apart set lines fs gs k l (is, _) (so, _) = same_findings fs gs (is ∙ sym so)
decided_once d Unknown Unknown set lines fs gs k l (is, _) (so, _) = same_findings fs gs (is ∙ sym so)

set_once : (d : Domain) (lines set : List Demand) → IsOnce (FindsOfSet d lines set)
set_once d lines set fs gs (x, k, finds) (y, l, found) = decided_once d x y set (under_any set lines) fs gs k l finds found

sets_once : (d : Domain) (lines : List Demand) (sets : List (List Demand)) (whole : Bool) → IsOnce (FindsOfSets d lines sets whole)
sets_once d lines sets true fs gs finds found = each_once (FindsOfSet d lines) (set_once d lines) sets fs gs finds found
sets_once d lines sets false fs gs (told, finds, is) found = let none = (both_nil told (cause.Undecided ∷ []) is).1 in cc none

firsts_once : (d : Domain) (lines : List Demand) (firsts : Option (List Demand)) → IsOnce (FindsOfFirsts d lines firsts)
firsts_once d lines None fs gs (is, _) (so, _) = same_findings fs gs (is ∙ sym so)
firsts_once d lines (Some firsts) fs gs finds found =
    let all = conflicting_sets lines (lines_to_pair lines firsts) in
    sets_once d lines all.sets all.whole fs gs finds found

both_once : (P Q : List Finding → List Cause → Type 0) → IsOnce P → IsOnce Q → IsOnce (FindsBoth P Q)
both_once P Q once also fs gs (f, g, c, d, here, later, is, nil) (f', g', c', d', here', later', is', nil') =
    let one = both_nil c d nil in
    let other = both_nil c' d' nil' in
    let first = once f f' (subst (P f) one.0 here) (subst (P f') other.0 here') in
    let second = also g g' (subst (Q g) one.1 later) (subst (Q g') other.1 later') in
    same_findings fs (f ++ g) is ∙ map-append without_environment f g ∙ (λ j. first j ++ second j) ∙ sym (map-append without_environment f' g') ∙ same_findings (f' ++ g') gs (sym is')

name_once : (d : Domain) (lines : List Demand) (b : Bool) → IsOnce (FindsByUnmarked d lines b)
name_once d lines true fs gs (is, _) (so, _) = same_findings fs gs (is ∙ sym so)
name_once d lines false fs gs finds found =
    both_once (FindsOfMarkers d lines) (FindsOfFirsts d lines (few_first_lines lines))
    (each_once (of_marker_of d lines) (λ a. set_once d lines (a ∷ [])) (first_mentions has_same_marker [] lines)) (firsts_once d lines (few_first_lines lines)) fs gs finds found

pub names_once : (d : Domain) (lines : List Demand) → IsOnce (FindsOfNames d lines)
names_once d lines = each_once (of_name_of d lines) (λ a. let these = filter (has_same_name a) lines in name_once d these (have_none (unmarked these))) (first_mentions has_same_name [] lines)
