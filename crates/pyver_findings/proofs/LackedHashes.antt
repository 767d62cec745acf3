-- Lines that lack a pin or a hash where hashes are wanted: that they are found, and no others; and names that are looked up.
use Rattle.std.proofs.Common.{Bool, List, None, Option, Some, [], ap, arith, bytes_eq, cond, false, get_or, inl, inr, is_some, length, map, refl, subst, suc, sym, take, true, zero, ℕ, ◌&&◌, ◌++◌, ◌+◌, ◌<◌, ◌||◌, ◌∙◌, ◌∷◌, ◌≡◌, ◌⊎◌}
use Rattle.std.proofs.lemmas.Bool.{true≢false}
use Rattle.std.proofs.lemmas.List.{map-append, take_more}
use Rattle.std.proofs.lemmas.List.Elements.{All-append, All-cons, All-contains_itself, All-head, All-nil, All-tail}
use Rattle.std.proofs.lemmas.List.Folds.{list_any-append}
use Rattle.std.specs.List.{All, Contains, flat_map, list_any}
use Rattle.pyver_requirements.proofs.Grouped.{swap}
use Rattle.pyver_findings.proofs.StringReadings.{or_false}
use Rattle.pyver_findings.proofs.Grouping.{Some_is, in_left, in_right}
use Rattle.pyver_findings.specs.Demands.{Demand}
use Rattle.pyver_findings.specs.FileLines.{File, FileLine, Finding, NoRequirement, all_lines}
use Rattle.pyver_findings.specs.FindingLaws.{AreDemands, IsAlone, IsRightHash, LacksHash}
use Rattle.pyver_findings.specs.Hashes.{has_pin, is_hashed, is_hashing, lacking_of_line, lacking_by, lacking_in, lacks_hashes, may_be_hashed, waives_hashes, wants_hashes}

-- ---- names that are looked up

inserted_by : {X : Type 0} (e : Bool) (x : X) (was : Option X) → is_some (cond e (Some x) was) ≡ (is_some was || (e && true))
inserted_by true x None = refl
inserted_by true x (Some y) = refl
inserted_by false x None = refl
inserted_by false x (Some y) = refl

-- a name is looked up after one was added
pub inserted : {X : Type 0} (name q : List ℕ) (x : X) (old new : Option X) (holds : Bool) → holds ≡ true → new ≡ cond (bytes_eq name q) (Some x) old
    → is_some new ≡ (is_some old || (bytes_eq q name && holds))
inserted name q x old new holds so is =
    ap is_some is ∙ inserted_by (bytes_eq name q) x old ∙ (λ j. is_some old || (swap name q j && sym so j))

-- one element more that may have the name
pub named_more : {L D : Type 0} (view : L → D) (has : D → Bool) (xs : List L) (i : ℕ) (x : L) (old new : Bool) → i < length xs → x ≡ get_or xs i x → new ≡ (old || has (view x))
    → old ≡ list_any has (map view (take i xs)) → new ≡ list_any has (map view (take (i + 1) xs))
named_more view has xs i x old new inside is changed was =
    let before = map view (take i xs) in
    let taken : map view (take (i + 1) xs) ≡ before ++ view x ∷ [] = ap (map view) (take_more xs i x inside ∙ ap (λ y. take i xs ++ y ∷ []) (sym is)) ∙ map-append view (take i xs) (x ∷ []) in
    changed ∙ ap (λ o. o || has (view x)) was ∙ ap (λ b. list_any has before || b) (sym (or_false (has (view x)))) ∙ sym (list_any-append has before (view x ∷ [])) ∙ ap (list_any has) (sym taken)

-- ---- where no hashes are wanted

unwanted_by : (w n e : Bool) → w ≡ false → (e && (w && n)) ≡ false
unwanted_by false n true is = refl
unwanted_by false n false is = refl
unwanted_by true n e is = absurd (true≢false is)

none_by : (a b : Bool) → (a || b) ≡ false → (a ≡ false) × (b ≡ false)
none_by true b e = absurd (true≢false e)
none_by false b e = (refl, e)

none_hashed : (all : List FileLine) (file : List ℕ) (lines : List FileLine) → list_any wants_hashes lines ≡ false → list_any (λ (l : FileLine). bytes_eq file l.file && is_hashing all l) lines ≡ false
none_hashed all file [] none = refl
none_hashed all file (l ∷ lines) none =
    let split = none_by (wants_hashes l) (list_any wants_hashes lines) none in
    ap (λ b. b || list_any (λ (l : FileLine). bytes_eq file l.file && is_hashing all l) lines) (unwanted_by (wants_hashes l) _ (bytes_eq file l.file) split.0) ∙ none_hashed all file lines split.1

no_faults : (is_file : List ℕ → Bool) (all demands : List Demand) → ((q : List ℕ) → is_file q ≡ false) → flat_map (lacking_in is_file all) demands ≡ []
no_faults is_file all [] none = refl
no_faults is_file all (a ∷ demands) none =
    (λ j. cond (none a.line.file j) (lacking_of_line a.line (has_pin all a.name) (may_be_hashed all a.name)) [] ++ flat_map (lacking_in is_file all) demands) ∙ no_faults is_file all demands none

waived_or : (b : Bool) (fs : List Finding) → fs ≡ [] → cond b [] fs ≡ []
waived_or true fs none = refl
waived_or false fs none = none

-- nothing is found
pub none_lacks : (lines : List FileLine) (demands : List Demand) → list_any wants_hashes lines ≡ false → lacks_hashes lines demands ≡ []
none_lacks lines demands none =
    waived_or (list_any waives_hashes lines) (flat_map (lacking_in (is_hashed lines) demands) demands) (no_faults (is_hashed lines) demands demands (λ q. none_hashed lines q lines none))

-- ---- names that are known otherwise

module _ (is_file file is_pinned pinned is_hashed hashed : List ℕ → Bool) (files : (q : List ℕ) → is_file q ≡ file q) (pins : (q : List ℕ) → is_pinned q ≡ pinned q)
    (hashes : (q : List ℕ) → is_hashed q ≡ hashed q) where
  pub same_lacking : (lines : List Demand) → flat_map (lacking_by is_file is_pinned is_hashed) lines ≡ flat_map (lacking_by file pinned hashed) lines
  same_lacking [] = refl
  same_lacking (a ∷ lines) =
      λ j. cond (files a.line.file j) (lacking_of_line a.line (pins a.name j) (hashes a.name j)) [] ++ same_lacking lines j

waived_no : (b : Bool) (fs : List Finding) → b ≡ false → cond b [] fs ≡ fs
waived_no true fs e = absurd (true≢false e)
waived_no false fs e = refl

-- where hashes are wanted and not waived
pub lacks_of : (lines : List FileLine) (demands : List Demand) (fs : List Finding) → list_any waives_hashes lines ≡ false → fs ≡ flat_map (lacking_in (is_hashed lines) demands) demands
    → fs ≡ lacks_hashes lines demands
lacks_of lines demands fs kept is = is ∙ sym (waived_no (list_any waives_hashes lines) _ kept)

-- where they are waived
pub waived : (lines : List FileLine) (demands : List Demand) → list_any waives_hashes lines ≡ true → lacks_hashes lines demands ≡ []
waived lines demands is = ap (λ b. cond b [] (flat_map (lacking_in (is_hashed lines) demands) demands)) is

-- ---- what is found is right

module _ (files : List File) (demands : List Demand) (are : AreDemands files demands) (kept : list_any waives_hashes (all_lines files) ≡ false) where
  lacking_right : (a : Demand) → Contains demands a → is_hashed (all_lines files) a.line.file ≡ true → (p h : Bool) → has_pin demands a.name ≡ p → may_be_hashed demands a.name ≡ h
      → All (IsRightHash files) (lacking_of_line a.line p h)
  lacking_right a inside hashed true true pinned has = All-nil (IsRightHash files)
  lacking_right a inside hashed true false pinned has = All-cons (IsRightHash files) (NoRequirement a.line _ 0) [] (demands, a, are, (inside, kept, hashed, inr has), refl) (All-nil (IsRightHash files))
  lacking_right a inside hashed false h pinned has = All-cons (IsRightHash files) (NoRequirement a.line _ 0) [] (demands, a, are, (inside, kept, hashed, inl pinned), refl) (All-nil (IsRightHash files))

  one_right : (a : Demand) → Contains demands a → (b : Bool) → is_hashed (all_lines files) a.line.file ≡ b
      → All (IsRightHash files) (cond b (lacking_of_line a.line (has_pin demands a.name) (may_be_hashed demands a.name)) [])
  one_right a inside true hashed = lacking_right a inside hashed (has_pin demands a.name) (may_be_hashed demands a.name) refl refl
  one_right a inside false hashed = All-nil (IsRightHash files)

  each_right : (these : List Demand) → All (Contains demands) these → All (IsRightHash files) (flat_map (lacking_in (is_hashed (all_lines files)) demands) these)
  each_right [] known = All-nil (IsRightHash files)
  each_right (a ∷ these) known =
      All-append (IsRightHash files) (lacking_in (is_hashed (all_lines files)) demands a) (flat_map (lacking_in (is_hashed (all_lines files)) demands) these)
      (one_right a (All-head (Contains demands) a these known) (is_hashed (all_lines files) a.line.file) refl) (each_right these (All-tail (Contains demands) a these known))

right_by : (files : List File) (demands : List Demand) (b : Bool) (fs : List Finding) → (b ≡ false → All (IsRightHash files) fs) → All (IsRightHash files) (cond b [] fs)
right_by files demands true fs right = All-nil (IsRightHash files)
right_by files demands false fs right = right refl

pub hashes_right : (files : List File) (demands : List Demand) → AreDemands files demands → All (IsRightHash files) (lacks_hashes (all_lines files) demands)
hashes_right files demands are =
    right_by files demands (list_any waives_hashes (all_lines files)) _ (λ kept. each_right files demands are kept demands (All-contains_itself demands))

-- ---- and all that is right is found

module _ (lines : List FileLine) (demands : List Demand) (a : Demand) (hashed : is_hashed lines a.line.file ≡ true) (lacks : (has_pin demands a.name ≡ false) ⊎ (may_be_hashed demands a.name ≡ false)) where
  lacking_alone : (p h : Bool) → (p ≡ false) ⊎ (h ≡ false) → Some_is (IsAlone a.line) (lacking_of_line a.line p h)
  lacking_alone true true (inl e) = absurd (true≢false e)
  lacking_alone true true (inr e) = absurd (true≢false e)
  lacking_alone true false e = inl refl
  lacking_alone false h e = inl refl

  here : Some_is (IsAlone a.line) (lacking_in (is_hashed lines) demands a)
  here = subst (λ b. Some_is (IsAlone a.line) (cond b (lacking_of_line a.line (has_pin demands a.name) (may_be_hashed demands a.name)) [])) (sym hashed)
      (lacking_alone (has_pin demands a.name) (may_be_hashed demands a.name) lacks)

  among : (these : List Demand) (k : ℕ) → k < length these → get_or these k a ≡ a → Some_is (IsAlone a.line) (flat_map (lacking_in (is_hashed lines) demands) these)
  among [] k inside is = absurd (omega (arith, inside))
  among (b ∷ these) zero inside is =
      in_left (IsAlone a.line) (lacking_in (is_hashed lines) demands b) (flat_map (lacking_in (is_hashed lines) demands) these)
      (subst (λ (x : Demand). Some_is (IsAlone a.line) (lacking_in (is_hashed lines) demands x)) (sym is) here)
  among (b ∷ these) (suc k) inside is =
      in_right (IsAlone a.line) (lacking_in (is_hashed lines) demands b) (flat_map (lacking_in (is_hashed lines) demands) these) (among these k (omega (arith, inside)) is)

pub lacking_found : (files : List File) (demands : List Demand) (a : Demand) → LacksHash files demands a → Some_is (IsAlone a.line) (lacks_hashes (all_lines files) demands)
lacking_found files demands a ((k, inside, at), kept, hashed, lacks) =
    subst (λ b. Some_is (IsAlone a.line) (cond b [] (flat_map (lacking_in (is_hashed (all_lines files)) demands) demands))) (sym kept)
    (among (all_lines files) demands a hashed lacks demands k inside at)
