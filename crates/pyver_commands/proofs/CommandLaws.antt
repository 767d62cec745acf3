-- Of `bump`, what parts that are raised change of a version; of `marker`, where markers hold that words denote; of `range`, what lists have in common, and
-- that `no version` is printed exactly where no version is in all of them.
use Rattle.std.proofs.Common.{◌≡◌, ◌+◌, ◌<◌, ◌≤◌, ◌==◌, ◌||◌, ◌∙◌, ◌⊎◌, ℕ, zero, suc, List, [], ◌∷◌, Bool, true, false, Option, Some, None, Result, Ok, Err, arith, get_or, if◌then◌else◌, is_some, inl, inr, length, map, nat_le, refl, sym, ap, subst, codes, ◌^◌, ◌&&◌, nat_lt, ◌-◌, ◌++◌, IfOk, drop, take, take_all, append_assoc, IfSome, IsTrue}
use Rattle.std.proofs.lemmas.Bool.{and_parts, leb-false, ne_eqb, ltb-true, cases_Bool, true≢false}
use Rattle.std.proofs.lemmas.List.{length-map, map-append, take_more, append-nil}
use Rattle.std.specs.Cmp.{nat_cmp_is, IsStrictWeakOrder}
use Rattle.std.specs.List.{list_any, list_all, All, AllZip, flat_map}
use Rattle.std.specs.Ordering.{is_gt, nat_cmp, ordering_reverse, ordering_then, is_lt}
use Rattle.std.specs.declared.cmp.Ordering.{Ordering}
use Rattle.std.specs.declared.cmp.Ordering.TheVariants.{Less, Equal, Greater}
use Rattle.pep440_version.specs.Key.{record_cmp, release_cmp}
use Rattle.pep440_version.specs.Key.KeyLaws.{record_total}
use Rattle.pep440_version.specs.Record.{Record, epoch_and_release, Fits, IsRecord}
use Rattle.pep440_version.specs.declared.prerelease.PrereleaseKind.{PrereleaseKind}
use Rattle.pyver_commands.specs.CommandLaws.{BumpsAreGreater, BumpsChangeOnly, ChangesOnly, ReleasesAreBumped, changes_number, changes_post, changes_pre, changes_release, AllowsVersion, NoVersionHasItsStatus, NoVersionIsCommon, VersionIsCommon}
use Rattle.pyver_commands.specs.Bumps.{bump_dev, bump_from, bump_part, bump_post, bump_pre, bump_stable, is_later_kind, knows_release, release_with, require_greater, then_bump, with_number}
use Rattle.pyver_commands.specs.declared.bump.BumpError.{BumpError}
use Rattle.pyver_commands.specs.declared.bump.BumpPart.{BumpPart}
use Rattle.pyver_commands.specs.WholeInputs.{only_outcome}
use Rattle.pyver_commands.specs.Outcomes.{message_outcome}
use Rattle.pyver_commands.specs.Sources.VersionLineViews.{version_line_of}
use Rattle.pyver_commands.specs.declared.sources.version_line.VersionLine.{VersionLine}
use Rattle.std.specs.Char.{is_ascii_digit}
use Rattle.std.specs.Result.{result_ok}
use Rattle.std.specs.Str.Parse.{digits_value, ParsesUnsigned}
use Rattle.pep440_version.proofs.Reading.Digits.{value_of}
use Rattle.pyver_commands.specs.Readings.{are_digits, word_number}
use Rattle.pyver_commands.specs.declared.bump.BumpError.TheVariants as error
use Rattle.pyver_commands.specs.declared.bump.BumpPart.TheVariants as part
use Rattle.pyver_commands.specs.MarkerExtents.{DenoteBoth, FailsAsMarker, FindsExtent, HasSteps, HoldsOrNot, PrintsExtent, PrintsSteps, extent_outcome, for_any_python}
use Rattle.cli_io.specs.Runs.{Outcome}
use Rattle.pyver_markers.specs.Conditions.{Domain}
use Rattle.pyver_markers.specs.Extents.{Always, Extent, IsExtent, Nowhere, Somewhere, Undecided}
use Rattle.pyver_requirements.specs.MarkerGrammar.{Both, DenotesMarker, Marker}
use Rattle.pyver_requirements.specs.MarkerSteps.{Step, steps}
use Rattle.std.proofs.lemmas.Cmp.{nat_cmp_total}
use Rattle.std.proofs.lemmas.List.Concat.{flat_map-append}
use Rattle.std.proofs.lemmas.List.Elements.{All-append, All-cons, All-head, All-tail}
use Rattle.std.proofs.lemmas.List.Folds.{list_all-append}
use Rattle.std.proofs.lemmas.List.Sorted.{All-permutation, IsPermutation-sym, ranks_by}
use Rattle.std.specs.Fmt.{decimal}
use Rattle.pep440_ranges.specs.RangeSegments.{contains}
use Rattle.pep440_rs.proofs.Agreement.Operands.{list_has_texts}
use Rattle.pep440_rs.proofs.Arranging.Arranged.{one_arrangement, same_by_ties}
use Rattle.pep440_rs.proofs.Denoted.{is_denotable}
use Rattle.pep440_rs.proofs.Reading.OneMeaning.{one_list}
use Rattle.pep440_rs.specs.Arrangement.{Arranges}
use Rattle.pep440_rs.specs.Bounds.{Segments}
use Rattle.pep440_rs.specs.Denoted.{IsDenotable, IsDenoted}
use Rattle.pep440_rs.specs.Lists.ListGrammar.{DerivesList}
use Rattle.pep440_rs.specs.LiteralMatching.{list_matches_literally, matches_literally}
use Rattle.pep440_rs.specs.Specifiers.{Spec}
use Rattle.pep440_version.specs.Grammar.{starts}
use Rattle.pep440_version.specs.Print.{dotted, print}
use Rattle.pyver_commands.specs.CommonRanges.{ArrangesAll, FindsCommon, ListReading, PrintsLists, ReadsMembers, length_cmp, lines_outcome, members_in, messages_in, named_outcome, set_outcome}
use Rattle.pyver_commands.specs.Matches.{DenotesList, ListFails}
use Rattle.pep440_version.proofs.Reading.ReadIsDerived.{number_first}
use Rattle.pep440_version.proofs.RoundTrip.PrintIsRead.{decimal_number, derived_record, none_all}
use Rattle.pep440_sets.proofs.CommonVersions.{common_is_denoted, common_matches, none_in_common}
use Rattle.pep440_sets.proofs.Lists.{found_is_in, list_holds, list_is_set}
use Rattle.pep440_sets.specs.Common.{common_version}
use Rattle.pep440_sets.specs.Emptiness.{IsUnsatisfiable}
use Rattle.pep440_sets.specs.SetLines.{is_closed_start}
use Rattle.pep440_sets.specs.Sets.{has_exact, list_set}
use Rattle.pep440_sets.specs.Witnesses.{version_between}
use Rattle.std.proofs.lemmas.Slice.Zip.{all_zipped_more}

-- ---- the result is greater

is_greater : (o : Ordering) → is_gt o ≡ true → o ≡ Greater
is_greater Less e = cc e
is_greater Equal e = cc e
is_greater Greater e = refl

abbrev bumped : Record → Result Record BumpError
bumped r = Ok r

only_if : (b : Bool) (q r : Record) → (if b then Ok q else Err error.NotGreater) ≡ bumped r → (b ≡ true) × (q ≡ r)
only_if true q r e = (refl, cc e)
only_if false q r e = cc e

required : (v r : Record) (x : Result Record BumpError) → require_greater v x ≡ Ok r → (x ≡ Ok r) × (record_cmp r v ≡ Greater)
required v r (Err e) is = cc is
required v r (Ok q) is =
    let k = only_if (is_gt (record_cmp q v)) q r is in
    let same : q ≡ r = k.1 in (
      ap bumped same,
      ap (λ (p : Record). record_cmp p v) (sym same) ∙ is_greater (record_cmp q v) k.0,
    )

pub bumps_are_greater : BumpsAreGreater
bumps_are_greater to parts v r is = (required v r (bump_from false to parts v) is).1

-- ---- only stated parts differ

made_of : (x : Result ℕ BumpError) (make : ℕ → Record) (r : Record) → with_number x make ≡ Ok r → (n : ℕ) × (make n ≡ r)
made_of (Ok n) make r is = (n, cc is)
made_of (Err e) make r is = cc is

release_kept : (index n : ℕ) (release : List ℕ) (i : ℕ) → i < index → get_or (release_with index n release) i 0 ≡ get_or release i 0
release_kept zero n release i below = absurd (omega (arith, below))
release_kept (suc index) n [] zero below = refl
release_kept (suc index) n [] (suc i) below = release_kept index n [] i (omega arith)
release_kept (suc index) n (m ∷ rest) zero below = refl
release_kept (suc index) n (m ∷ rest) (suc i) below = release_kept index n rest i (omega arith)

release_grows : (index n : ℕ) (release : List ℕ) → length release ≤ length (release_with index n release)
release_grows zero n [] = omega arith
release_grows zero n (m ∷ rest) = let same : length (map (λ (_ : ℕ). 0) rest) ≡ length rest = length-map {B = ℕ} rest (λ (_ : ℕ). 0) in omega (arith, same)
release_grows (suc index) n [] = omega arith
release_grows (suc index) n (m ∷ rest) = omega (arith, release_grows index n rest)

any_one : (a b : Bool) → (a || b) ≡ false → ((a || false) ≡ false) × (b ≡ false)
any_one true b e = cc e
any_one false b e = (refl, e)

behind : (index i : ℕ) (b : Bool) → (b || false) ≡ false → b ≡ nat_le index i → i < index
behind index i true e is = cc e
behind index i false e is = leb-false index i (sym is)

-- one number of the release
number_bumped : (index n : ℕ) (v : Record) → ChangesOnly (part.Release index ∷ []) v (epoch_and_release v.epoch (release_with index n v.release))
number_bumped index n v = record {
  epoch = refl;
  numbers = λ i none. release_kept index n v.release i (behind index i (nat_le index i) none refl);
  release = λ none. cc none;
  count = release_grows index n v.release;
  pre = λ none. cc none;
  post = λ none. cc none;
  local = refl;
}

-- epoch and release stay, and what may be there after them is new
suffix_bumped : (part : BumpPart) (v r : Record) → r.epoch ≡ v.epoch → r.release ≡ v.release → (changes_pre part ≡ true) ⊎ (r.pre ≡ v.pre) → (changes_post part ≡ true) ⊎ (r.post ≡ v.post) → r.local ≡ [] → ChangesOnly (part ∷ []) v r
suffix_bumped part v r epoch release pre post gone = record {
  epoch = epoch;
  numbers = λ i none. ap (λ l. get_or l i 0) release;
  release = λ none. release;
  count = subst (λ l. length v.release ≤ length l) (sym release) (omega arith);
  pre = λ none. unchanged (changes_pre part) (r.pre ≡ v.pre) pre none;
  post = λ none. unchanged (changes_post part) (r.post ≡ v.post) post none;
  local = gone;
}
  where
    unchanged : (b : Bool) (P : Type 0) → (b ≡ true) ⊎ P → (b || false) ≡ false → P
    unchanged true P (inl e) none = cc none
    unchanged false P (inl e) none = cc e
    unchanged b P (inr p) none = p

either : (b : Bool) (P : Record → Type 0) (x y : Record) → P x → P y → P (if b then x else y)
either true P x y h k = h
either false P x y h k = k

past : (b : Bool) (e : BumpError) (x : Result Record BumpError) (r : Record) → (if b then Err e else x) ≡ Ok r → x ≡ Ok r
past true e x r is = cc is
past false e x r is = is

within : (b : Bool) (e : BumpError) (x : Result Record BumpError) (r : Record) → (if b then x else Err e) ≡ Ok r → x ≡ Ok r
within true e x r is = is
within false e x r is = cc is

stable_changes : (to : Option ℕ) (v r : Record) → bump_stable to v ≡ Ok r → ChangesOnly (part.Stable ∷ []) v r
stable_changes (Some n) v r is = cc is
stable_changes None v r is =
    let base : Record = epoch_and_release v.epoch v.release in
    let kept : Record = record v { dev = None; local = [] } in
    let same : (if is_some v.pre then base else kept) ≡ r = cc is in
    subst (ChangesOnly (part.Stable ∷ []) v) same
    (either (is_some v.pre) (ChangesOnly (part.Stable ∷ []) v) base kept (suffix_bumped part.Stable v base refl refl (inl refl) (inl refl) refl) (suffix_bumped part.Stable v kept refl refl (inl refl) (inl refl) refl))

pre_changes : (to : Option ℕ) (named : Bool) (kind : PrereleaseKind) (v r : Record) → bump_pre to named kind v ≡ Ok r → ChangesOnly (part.Pre kind ∷ []) v r
pre_changes to named kind v r is =
    let made = made_of _ _ r (within (knows_release named v) _ _ r (past (is_later_kind kind v.pre) _ _ r is)) in
    subst (ChangesOnly (part.Pre kind ∷ []) v) made.1 (suffix_bumped (part.Pre kind) v _ refl refl (inl refl) (inl refl) refl)

post_changes : (to : Option ℕ) (v r : Record) → bump_post to v ≡ Ok r → ChangesOnly (part.Post ∷ []) v r
post_changes to v r is =
    let made = made_of _ _ r is in
    subst (ChangesOnly (part.Post ∷ []) v) made.1 (suffix_bumped part.Post v _ refl refl (inr refl) (inl refl) refl)

dev_changes : (to : Option ℕ) (named : Bool) (v r : Record) → bump_dev to named v ≡ Ok r → ChangesOnly (part.Dev ∷ []) v r
dev_changes to named v r is =
    let made = made_of _ _ r (within (knows_release named v) _ _ r is) in
    subst (ChangesOnly (part.Dev ∷ []) v) made.1 (suffix_bumped part.Dev v _ refl refl (inr refl) (inr refl) refl)

part_changes : (to : Option ℕ) (named : Bool) (part : BumpPart) (v r : Record) → bump_part to named part v ≡ Ok r → ChangesOnly (part ∷ []) v r
part_changes to named (part.Release index) v r is = let made = made_of _ _ r is in subst (ChangesOnly (part.Release index ∷ []) v) made.1 (number_bumped index made.0 v)
part_changes to named part.Stable v r is = stable_changes to v r is
part_changes to named (part.Pre kind) v r is = pre_changes to named kind v r is
part_changes to named part.Post v r is = post_changes to v r is
part_changes to named part.Dev v r is = dev_changes to named v r is

-- one part and then others
changes_then : (part : BumpPart) (rest : List BumpPart) (v q r : Record) → ChangesOnly (part ∷ []) v q → ChangesOnly rest q r → ChangesOnly (part ∷ rest) v r
changes_then part rest v q r k h = record {
  epoch = h.epoch ∙ k.epoch;
  numbers = λ i none. let parts = any_one (changes_number i part) (list_any (changes_number i) rest) none in h.numbers i parts.1 ∙ k.numbers i parts.0;
  release = λ none. let parts = any_one (changes_release part) (list_any changes_release rest) none in h.release parts.1 ∙ k.release parts.0;
  count = omega (arith, k.count, h.count);
  pre = λ none. let parts = any_one (changes_pre part) (list_any changes_pre rest) none in h.pre parts.1 ∙ k.pre parts.0;
  post = λ none. let parts = any_one (changes_post part) (list_any changes_post rest) none in h.post parts.1 ∙ k.post parts.0;
  local = h.local;
}

-- what was raised first, and what came of it then
first_bump : (x : Result Record BumpError) (next : Record → Result Record BumpError) (r : Record) → then_bump x next ≡ Ok r → (q : Record) × (x ≡ Ok q) × (next q ≡ Ok r)
first_bump (Ok q) next r is = (q, refl, is)
first_bump (Err e) next r is = cc is

parts_change : (named : Bool) (to : Option ℕ) (part : BumpPart) (rest : List BumpPart) (v r : Record) → bump_from named to (part ∷ rest) v ≡ Ok r → ChangesOnly (part ∷ rest) v r
parts_change named to part [] v r is =
    let k = first_bump (bump_part to named part v) (λ q. Ok q) r is in
    let same : k.0 ≡ r = cc (k.2) in
    subst (ChangesOnly (part ∷ []) v) same (part_changes to named part v k.0 k.1)
parts_change named to part (next ∷ rest) v r is =
    let k = first_bump (bump_part None named part v) (bump_from true to (next ∷ rest)) r is in
    changes_then part (next ∷ rest) v k.0 r (part_changes None named part v k.0 k.1) (parts_change true to next rest k.0 r k.2)

not_above_itself : (v : Record) → record_cmp v v ≡ Greater → ⊥
not_above_itself v up = let turned = record_total.antisymm v v in cc (up, turned, ap ordering_reverse up)

pub bumps_change_only : BumpsChangeOnly
bumps_change_only to [] v r is =
    let k = required v r (Ok v) is in
    let same : v ≡ r = cc (k.0) in
    absurd (not_above_itself v (ap (λ (q : Record). record_cmp q v) same ∙ k.1))
bumps_change_only to (part ∷ rest) v r is = parts_change false to part rest v r (required v r (bump_from false to (part ∷ rest) v) is).0

-- ---- a number of the release is raised

one_greater : (n : ℕ) → nat_cmp (n + 1) n ≡ Greater
one_greater n = let up : n < n + 1 = omega arith in sym (nat_cmp_is (n + 1) n Greater up)

same_number : (n : ℕ) → nat_cmp n n ≡ Equal
same_number n = sym (nat_cmp_is n n Equal refl)

raised_release : (index : ℕ) (release : List ℕ) → release_cmp (release_with index (get_or release index 0 + 1) release) release ≡ Greater
raised_release zero [] = refl
raised_release zero (m ∷ rest) = ap (λ o. ordering_then o (release_cmp (map (λ _. 0) rest) rest)) (one_greater m)
raised_release (suc index) [] = raised_release index []
raised_release (suc index) (m ∷ rest) = ap (λ o. ordering_then o (release_cmp (release_with index (get_or rest index 0 + 1) rest) rest)) (same_number m) ∙ raised_release index rest

raised_record : (index : ℕ) (v : Record) → record_cmp (epoch_and_release v.epoch (release_with index (get_or v.release index 0 + 1) v.release)) v ≡ Greater
raised_record index v = rw (same_number v.epoch, raised_release index v.release) refl

pub releases_are_bumped : ReleasesAreBumped
releases_are_bumped index v small =
    let old : ℕ = get_or v.release index 0 in
    let q : Record = epoch_and_release v.epoch (release_with index (old + 1) v.release) in
    let test : (old == 18446744073709551615) ≡ false = ne_eqb old 18446744073709551615 small in
    let up : is_gt (record_cmp q v) ≡ true = ap is_gt (raised_record index v) in
    ap (λ (b : Bool). require_greater v (then_bump (with_number (if b then Err error.Greatest else Ok (old + 1)) (λ n. epoch_and_release v.epoch (release_with index n v.release))) (bump_from true None []))) test
    ∙ ap (λ (b : Bool). if b then Ok q else Err error.NotGreater) up

-- ---- more than one version on standard input

pub many_versions : (to : Option ℕ) (parts : List BumpPart) (lines : List VersionLine) → 2 ≤ length lines → only_outcome to parts (map version_line_of lines) ≡ message_outcome (codes "pyver: more than one version on standard input\n")
many_versions to parts [] many = absurd (omega (arith, many))
many_versions to parts (line ∷ []) many = absurd (omega (arith, many))
many_versions to parts (line ∷ (next ∷ rest)) many = refl

-- ---- what digits write

first_holds : {A : Type 0} (a b : Bool) (x y : A) → a ≡ true → (if a && b then x else y) ≡ (if b then x else y)
first_holds true b x y e = refl
first_holds false b x y e = cc e

pub number_when : {E : Type 0} (text : List ℕ) (r : Result ℕ E) → are_digits text ≡ true → ParsesUnsigned 64 10 text r → result_ok r ≡ word_number text
number_when text r run p =
    let parts = and_parts (nat_lt 0 (length text)) (list_all is_ascii_digit text) run in
    value_of text r parts.1 (ltb-true 0 (length text) parts.0) p
    ∙ sym (first_holds (are_digits text) (nat_lt (digits_value 10 text) (2 ^ 64)) (Some (digits_value 10 text)) None run)

with_more_empty : (index n : ℕ) → 0 < index → release_with index n [] ≡ 0 ∷ release_with (index - 1) n []
with_more_empty zero n some = absurd (omega (arith, some))
with_more_empty (suc i) n some = let one : suc i - 1 ≡ i = omega arith in ap (λ k. 0 ∷ release_with k n []) (sym one)

with_more : (index n m : ℕ) (rest : List ℕ) → 0 < index → release_with index n (m ∷ rest) ≡ m ∷ release_with (index - 1) n rest
with_more zero n m rest some = absurd (omega (arith, some))
with_more (suc i) n m rest some = let one : suc i - 1 ≡ i = omega arith in ap (λ k. m ∷ release_with k n rest) (sym one)

one_more : (old one new more all : List ℕ) (m : ℕ) → one ≡ old ++ m ∷ [] → new ≡ one ++ more → all ≡ m ∷ more → new ≡ old ++ all
one_more old one new more all m first rest is = rest ∙ ap (λ l. l ++ more) first ∙ append_assoc old (m ∷ []) more ∙ ap (λ l. old ++ l) (sym is)

behind_first : (m : ℕ) (rest : List ℕ) → take (length (m ∷ rest) - 1) (drop 1 (m ∷ rest)) ≡ rest
behind_first m rest = let one : length (m ∷ rest) - 1 ≡ length rest = omega arith in ap (λ k. take k rest) one ∙ take_all (length rest) rest (omega arith)

-- a missing number first
pub empty_appended : {A E : Type 0} (r : Result A E) (index n : ℕ) (release old one new : List ℕ) → length release < 1 → 0 < index → one ≡ old ++ 0 ∷ [] → IfOk r (λ _. new ≡ one ++ release_with (index - 1) n release) → IfOk r (λ _. new ≡ old ++ release_with index n release)
empty_appended (Err e) index n release old one new short some first rest = rest
empty_appended (Ok x) index n [] old one new short some first rest = one_more old one new (release_with (index - 1) n []) _ 0 first rest (with_more_empty index n some)
empty_appended (Ok x) index n (m ∷ release) old one new short some first rest = absurd (omega (arith, short))

-- the first number as it is
pub more_appended : {A E : Type 0} (r : Result A E) (index n : ℕ) (release old one new : List ℕ) → 1 ≤ length release → 0 < index → one ≡ old ++ get_or release 0 0 ∷ [] → IfOk r (λ _. new ≡ one ++ release_with (index - 1) n (take (length release - 1) (drop 1 release))) → IfOk r (λ _. new ≡ old ++ release_with index n release)
more_appended (Err e) index n release old one new long some first rest = rest
more_appended (Ok x) index n [] old one new long some first rest = absurd (omega (arith, long))
more_appended (Ok x) index n (m ∷ release) old one new long some first rest = one_more old one new (release_with (index - 1) n release) _ m first (rest ∙ ap (λ l. one ++ release_with (index - 1) n l) (behind_first m release)) (with_more index n m release some)

zeros_taken : (numbers : List ℕ) (i : ℕ) → i < length numbers → map {B = ℕ} (λ _. 0) (take (i + 1) numbers) ≡ map {B = ℕ} (λ _. 0) (take i numbers) ++ 0 ∷ []
zeros_taken numbers i inside = ap (map {B = ℕ} (λ _. 0)) (take_more numbers i 0 inside) ∙ map-append (λ (_ : ℕ). 0) (take i numbers) (get_or numbers i 0 ∷ [])

-- one zero more
pub zeros_more : (numbers : List ℕ) (i : ℕ) (old a b : List ℕ) → i < length numbers → a ≡ old ++ map {B = ℕ} (λ _. 0) (take i numbers) → b ≡ a ++ 0 ∷ [] → b ≡ old ++ map {B = ℕ} (λ _. 0) (take (i + 1) numbers)
zeros_more numbers i old a b inside is more =
    more ∙ ap (λ l. l ++ 0 ∷ []) is ∙ append_assoc old (map {B = ℕ} (λ _. 0) (take i numbers)) (0 ∷ []) ∙ ap (λ l. old ++ l) (sym (zeros_taken numbers i inside))

-- ---- where markers hold

pub printed : (linked : Bool) (Is : Marker → Type 0) (all : List Step) (o : Outcome) → HasSteps Is all → PrintsSteps linked all o → PrintsExtent linked Is o
printed linked Is all o has (x, known, is) = (x, has.0, (λ m denoted. known m (has.1 m denoted)), is)

pub both_steps : (word other : List ℕ) (one all joined : List Step) → HasSteps (DenotesMarker word) one → HasSteps (DenotesMarker other) all
    → ((m n : Marker) → one ≡ steps m → all ≡ steps n → joined ≡ steps (Both m n)) → HasSteps (DenoteBoth word other) joined
both_steps word other one all joined ((a, first), only) ((b, second), alone) join =
    ((Both a b, (a, b, first, second, refl)), (λ m d. join d.0 d.1 (only d.0 d.2) (alone d.1 d.3) ∙ ap steps (sym d.4)))

pub parsed : (text word : List ℕ) (all : List Step) → text ≡ word → ((m : Marker) × DenotesMarker text m × (all ≡ steps m))
    → ((m : Marker) → DenotesMarker text m → all ≡ steps m) → HasSteps (DenotesMarker word) all
parsed text word all is (m, denoted, have) only = subst (λ t. HasSteps (DenotesMarker t) all) is ((m, denoted), only)

pub found_one : (linked : Bool) (word : List ℕ) (all : List Step) (o : Outcome) → HasSteps (DenotesMarker word) all → PrintsSteps linked all o → FindsExtent linked word None o
found_one linked word all o has prints = inr (printed linked (DenotesMarker word) all o has prints)

pub found_both : (linked : Bool) (word other : List ℕ) (one all joined : List Step) (o : Outcome) → HasSteps (DenotesMarker word) one → HasSteps (DenotesMarker other) all
    → ((m n : Marker) → one ≡ steps m → all ≡ steps n → joined ≡ steps (Both m n)) → PrintsSteps linked joined o → FindsExtent linked word (Some other) o
found_both linked word other one all joined o has also join prints =
    inr (inr (printed linked (DenoteBoth word other) joined o (both_steps word other one all joined has also join) prints))

pub first_fails : (linked : Bool) (word : List ℕ) (other : Option (List ℕ)) (o : Outcome) → FailsAsMarker word o → FindsExtent linked word other o
first_fails linked word None o fails = inl fails
first_fails linked word (Some other) o fails = inl fails

pub second_fails : (linked : Bool) (word other : List ℕ) (o : Outcome) → FailsAsMarker other o → FindsExtent linked word (Some other) o
second_fails linked word other o fails = inr (inl fails)

-- ---- laws of extents

fault_is_two : (word : List ℕ) (o : Outcome) → FailsAsMarker word o → o.status ≡ 2
fault_is_two word o (f, fails, is) = ap (λ (x : Outcome). x.status) is

nowhere : (x : Extent) (o : Outcome) → o ≡ extent_outcome x → o.status ≡ 1 → x ≡ Nowhere
nowhere Nowhere o is one = refl
nowhere Always o is one = absurd (let no : 0 ≡ 1 = sym (ap (λ (y : Outcome). y.status) is) ∙ one in omega (arith, no))
nowhere (Somewhere variables) o is one = absurd (let no : 0 ≡ 1 = sym (ap (λ (y : Outcome). y.status) is) ∙ one in omega (arith, no))
nowhere Undecided o is one = absurd (let no : 2 ≡ 1 = sym (ap (λ (y : Outcome). y.status) is) ∙ one in omega (arith, no))

not_both : (d : Domain) (m : Marker) (y : Extent) (b : Outcome) → IsExtent d m Nowhere → IsExtent d m y → b ≡ extent_outcome y → b.status ≡ 0 → ⊥
not_both d m Nowhere b never known is none = let no : 1 ≡ 0 = sym (ap (λ (z : Outcome). z.status) is) ∙ none in omega (arith, no)
not_both d m Always b never (e, is_one, holds, other) is none = never e is_one holds
not_both d m (Somewhere variables) b never known is none = never known.environment known.known (known.holds known.environment known.has)
not_both d m Undecided b never known is none = let no : 2 ≡ 0 = sym (ap (λ (z : Outcome). z.status) is) ∙ none in omega (arith, no)

one_or_other : (linked : Bool) (Is : Marker → Type 0) (a b : Outcome) → PrintsExtent linked Is a → PrintsExtent linked Is b → a.status ≡ 1 → b.status ≡ 0 → ⊥
one_or_other linked Is a b (x, (m, denoted), known, is) (y, other, also, so) one none =
    not_both (for_any_python linked) m y b (subst (IsExtent (for_any_python linked) m) (nowhere x a is one) (known m denoted)) (also m denoted) so none

fault_is_not_one : (word : List ℕ) (o : Outcome) → FailsAsMarker word o → o.status ≡ 1 → ⊥
fault_is_not_one word o f one = let two : o.status ≡ 2 = fault_is_two word o f in omega (arith, two, one)

fault_is_not_zero : (word : List ℕ) (o : Outcome) → FailsAsMarker word o → o.status ≡ 0 → ⊥
fault_is_not_zero word o f none = let two : o.status ≡ 2 = fault_is_two word o f in omega (arith, two, none)

pub holds_or_not : HoldsOrNot
holds_or_not linked word None a b (inl f) k one none = fault_is_not_one word a f one
holds_or_not linked word None a b (inr h) (inl f) one none = fault_is_not_zero word b f none
holds_or_not linked word None a b (inr h) (inr k) one none = one_or_other linked (DenotesMarker word) a b h k one none
holds_or_not linked word (Some other) a b (inl f) k one none = fault_is_not_one word a f one
holds_or_not linked word (Some other) a b (inr (inl f)) k one none = fault_is_not_one other a f one
holds_or_not linked word (Some other) a b (inr (inr h)) (inl f) one none = fault_is_not_zero word b f none
holds_or_not linked word (Some other) a b (inr (inr h)) (inr (inl f)) one none = fault_is_not_zero other b f none
holds_or_not linked word (Some other) a b (inr (inr h)) (inr (inr k)) one none = one_or_other linked (DenoteBoth word other) a b h k one none

-- ---- one list after another

-- the first i words were read, and this is known of their lists
abbrev pub Found : {X : Type 0} → (X → List ℕ) → List X → ℕ → List ℕ → List Spec → Type 0
Found view words i messages members = (xs : List ListReading) × AllZip ReadsMembers (map view (take i words)) xs × (messages ≡ messages_in xs) × (members ≡ members_in xs)

-- one message more, or the members of one list more
told_more : {A : Type 0} (pick : ListReading → List A) (xs : List ListReading) (x : ListReading) (old new : List A) → new ≡ old ++ pick x → old ≡ flat_map pick xs → new ≡ flat_map pick (xs ++ x ∷ [])
told_more pick xs x old new is was =
    is ∙ ap (λ m. m ++ pick x) was ∙ ap (λ m. flat_map pick xs ++ m) (sym (append-nil (pick x))) ∙ sym (flat_map-append pick xs (x ∷ []))

-- one word more
pub found_more : {X : Type 0} (view : X → List ℕ) (words : List X) (i : ℕ) (w : X) (x : ListReading) (m n : List ℕ) (ms ns : List Spec) → i < length words → w ≡ get_or words i w → ReadsMembers (view w) x
    → n ≡ m ++ x.message → ns ≡ ms ++ x.members → Found view words i m ms → Found view words (i + 1) n ns
found_more view words i w x m n ms ns inside is reads told joined k =
    let parts = map-append view (take i words) (w ∷ []) in
    let split = take_more words i w inside ∙ ap (λ y. take i words ++ y ∷ []) (sym is) in (
      k.0 ++ x ∷ [],
      subst (λ ws. AllZip ReadsMembers ws (k.0 ++ x ∷ [])) (sym (ap (map view) split ∙ parts)) (all_zipped_more ReadsMembers (map view (take i words)) k.0 (view w) x k.1 reads),
      told_more (λ (y : ListReading). y.message) k.0 x m n told k.2,
      told_more (λ (y : ListReading). y.members) k.0 x ms ns joined k.3,
    )

-- all words were read
pub found_all : {X : Type 0} (view : X → List ℕ) (words : List X) (i : ℕ) (m : List ℕ) (ms : List Spec) (json : Bool) (o : Outcome) → length words ≤ i → PrintsLists json m ms o → Found view words i m ms → FindsCommon json (map view words) o
found_all view words i m ms json o end is k =
    (k.0, subst (λ ws. AllZip ReadsMembers (map view ws) k.0) (take_all i words end) k.1, subst (λ t. PrintsLists json t (members_in k.0) o) k.2 (subst (λ t. PrintsLists json m t o) k.3 is))

-- ---- the arrangement

pub length_weak : IsStrictWeakOrder (λ (x y : Spec). is_lt (length_cmp x y))
length_weak = ranks_by nat_cmp_total (λ (s : Spec). length s.version.release)

pub one_arranged : (members a b : List Spec) → ArrangesAll members a → ArrangesAll members b → a ≡ b
one_arranged members a b (short, h, up) (other, g, down) =
    let same = same_by_ties (λ (x y : Spec). is_lt (length_cmp x y)) length_weak short other h.rises g.rises (λ z. h.stable z ∙ sym (g.stable z)) in
    one_arrangement other a b (subst (λ l. Arranges l a) same up) down

pub one_printed : (json : Bool) (messages : List ℕ) (members : List Spec) (a b : Outcome) → PrintsLists json messages members a → PrintsLists json messages members b → a ≡ b
one_printed json [] members a b (l, h, is) (m, g, so) = is ∙ ap (set_outcome json) (one_arranged members l m h g) ∙ sym so
one_printed json (c ∷ messages) members a b is so = is ∙ sym so

-- ---- a version in all lists, or none

both : (a b : Bool) → IsTrue a → IsTrue b → IsTrue (a && b)
both true b h k = k
both false b h k = cc h

first_of_both : (a b : Bool) → IsTrue (a && b) → IsTrue a × IsTrue b
first_of_both true b h = (refl, h)
first_of_both false b h = cc h

-- what an outcome says of a list: with status 1 it matches no version, and with status 0 some
record Says (list : List Spec) (o : Outcome) : Type 0 where
  none : o.status ≡ 1 → IsUnsatisfiable list
  some : o.status ≡ 0 → (v : Record) × IsTrue (list_matches_literally list v)

lines_say : (json : Bool) (list : List Spec) (set : Segments) → All IsDenotable list → has_exact list ≡ false → list_set list ≡ set → Says list (lines_outcome json set)
lines_say json list [] all none is = record {
  none = λ e v d h. true≢false (sym h ∙ sym (list_holds list all none v d) ∙ ap (λ q. contains record_cmp q v) is);
  some = λ e. absurd (cc e);
}
lines_say json list (s ∷ set) all none is =
    let found = found_is_in (list_set list) (list_is_set list all) s set is in
    record {
      none = λ e. absurd (cc e);
      some = λ e. (version_between s.0 s.1, sym (list_holds list all none (version_between s.0 s.1) found.0) ∙ found.1);
    }

named_says : (json : Bool) (list : List Spec) (found : Option Record) → All IsDenotable list → common_version list ≡ found → Says list (named_outcome json found)
named_says json list None all is = record { none = λ e. none_in_common list all is; some = λ e. absurd (cc e) }
named_says json list (Some v) all is = record { none = λ e. absurd (cc e); some = λ e. (v, subst (λ o. IfSome o (λ w. IsTrue (list_matches_literally list w))) is (common_matches list all)) }

outcome_says : (json : Bool) (list : List Spec) → All IsDenotable list → Says list (set_outcome json list)
outcome_says json list all = go (has_exact list) refl
  where
    go : (b : Bool) → has_exact list ≡ b → Says list (if b then named_outcome json (common_version list) else lines_outcome json (list_set list))
    go true e = named_says json list (common_version list) all refl
    go false e = lines_say json list (list_set list) all e refl

-- ---- a list and its arrangement match the same versions

all_of : (v : Record) (list : List Spec) → IsTrue (list_matches_literally list v) → All (λ (m : Spec). IsTrue (matches_literally m.operator m.version v)) list
all_of v [] h = none_all (λ (m : Spec). IsTrue (matches_literally m.operator m.version v))
all_of v (m ∷ list) h =
    let two = first_of_both (matches_literally m.operator m.version v) (list_matches_literally list v) h in
    All-cons (λ (m : Spec). IsTrue (matches_literally m.operator m.version v)) m list two.0 (all_of v list two.1)

of_all : (v : Record) (list : List Spec) → All (λ (m : Spec). IsTrue (matches_literally m.operator m.version v)) list → IsTrue (list_matches_literally list v)
of_all v [] h = refl
of_all v (m ∷ list) h =
    both (matches_literally m.operator m.version v) (list_matches_literally list v)
    (All-head (λ (m : Spec). IsTrue (matches_literally m.operator m.version v)) m list h)
    (of_all v list (All-tail (λ (m : Spec). IsTrue (matches_literally m.operator m.version v)) m list h))

arranged_all : (P : Spec → Type 0) (members list : List Spec) → ArrangesAll members list → All P members → All P list
arranged_all P members list (short, h, up) all = All-permutation P short list up.same (All-permutation P members short h.same all)

members_all : (P : Spec → Type 0) (members list : List Spec) → ArrangesAll members list → All P list → All P members
members_all P members list (short, h, up) all = All-permutation P short members (IsPermutation-sym members short h.same) (All-permutation P list short (IsPermutation-sym short list up.same) all)

to_arranged : (v : Record) (members list : List Spec) → ArrangesAll members list → IsTrue (list_matches_literally members v) → IsTrue (list_matches_literally list v)
to_arranged v members list h k = of_all v list (arranged_all (λ (m : Spec). IsTrue (matches_literally m.operator m.version v)) members list h (all_of v members k))

from_arranged : (v : Record) (members list : List Spec) → ArrangesAll members list → IsTrue (list_matches_literally list v) → IsTrue (list_matches_literally members v)
from_arranged v members list h k = of_all v members (members_all (λ (m : Spec). IsTrue (matches_literally m.operator m.version v)) members list h (all_of v list k))

-- without messages the outcome is that of an arrangement of the members
status_left : (json : Bool) (messages : List ℕ) (members : List Spec) (o : Outcome) (n : ℕ) → n < 2 → o.status ≡ n → PrintsLists json messages members o → (messages ≡ []) × ((list : List Spec) × ArrangesAll members list × (o ≡ set_outcome json list))
status_left json [] members o n low e h = (refl, h)
status_left json (b ∷ messages) members o n low e is = let two : 2 ≡ n = sym (ap (λ (q : Outcome). q.status) is) ∙ e in absurd (omega (arith, low, two))

-- the list that a word denotes, which has no message
one_list_in : (word : List ℕ) (x : ListReading) (rest : List ℕ) → ReadsMembers word x → x.message ++ rest ≡ [] → (list : List Spec) × DerivesList word list × (x.members ≡ list) × (rest ≡ [])
one_list_in word x rest (DenotesList l, hl, is) none = (l, hl, ap (λ (y : ListReading). y.members) is, subst (λ (y : ListReading). y.message ++ rest ≡ []) is none)
one_list_in word x rest (ListFails text, (f, r, so), is) none = cc (subst (λ (y : ListReading). y.message ++ rest ≡ []) is none)

-- they can be decided
denotable : (words : List (List ℕ)) (xs : List ListReading) → AllZip ReadsMembers words xs → messages_in xs ≡ [] → All IsDenotable (members_in xs)
denotable [] [] h none = none_all IsDenotable
denotable [] (x ∷ xs) h none = absurd h
denotable (w ∷ words) [] h none = absurd h
denotable (w ∷ words) (x ∷ xs) h none =
    let k = one_list_in w x (messages_in xs) h.0 none in
    All-append IsDenotable x.members (members_in xs)
    (subst (All IsDenotable) (sym k.2) (λ j m lt. is_denotable _ (list_has_texts w k.0 k.1 j m lt)))
    (denotable words xs h.1 k.3)

-- all of them contain what each list contains
all_contain : (v : Record) (words : List (List ℕ)) (xs : List ListReading) → AllZip ReadsMembers words xs → messages_in xs ≡ [] → All (AllowsVersion v) words → IsTrue (list_matches_literally (members_in xs) v)
all_contain v [] [] h none all = refl
all_contain v [] (x ∷ xs) h none all = absurd h
all_contain v (w ∷ words) [] h none all = absurd h
all_contain v (w ∷ words) (x ∷ xs) h none all =
    let k = one_list_in w x (messages_in xs) h.0 none in
    let own = All-head (AllowsVersion v) w words all in
    subst IsTrue (sym (list_all-append (λ (m : Spec). matches_literally m.operator m.version v) x.members (members_in xs)))
    (both (list_matches_literally x.members v) (list_matches_literally (members_in xs) v)
    (subst (λ (l : List Spec). IsTrue (list_matches_literally l v)) (one_list w own.0 k.0 own.1 k.1 ∙ sym k.2) own.2)
    (all_contain v words xs h.1 k.3 (All-tail (AllowsVersion v) w words all)))

-- each list contains what all of them contain
each_contains : (v : Record) (words : List (List ℕ)) (xs : List ListReading) → AllZip ReadsMembers words xs → messages_in xs ≡ [] → IsTrue (list_matches_literally (members_in xs) v) → All (AllowsVersion v) words
each_contains v [] [] h none all = none_all (AllowsVersion v)
each_contains v [] (x ∷ xs) h none all = absurd h
each_contains v (w ∷ words) [] h none all = absurd h
each_contains v (w ∷ words) (x ∷ xs) h none all =
    let k = one_list_in w x (messages_in xs) h.0 none in
    let two = first_of_both (list_matches_literally x.members v) (list_matches_literally (members_in xs) v)
    (subst IsTrue (list_all-append (λ (m : Spec). matches_literally m.operator m.version v) x.members (members_in xs)) all) in
    All-cons (AllowsVersion v) w words (k.0, k.1, subst (λ (l : List Spec). IsTrue (list_matches_literally l v)) k.2 two.0) (each_contains v words xs h.1 k.3 two.1)

pub no_version_is_common : NoVersionIsCommon
no_version_is_common json words o (xs, h, is) ended v d all =
    let left = status_left json (messages_in xs) (members_in xs) o 1 (omega arith) ended is in
    let list = left.1.0 in
    let says = outcome_says json list (arranged_all IsDenotable (members_in xs) list left.1.1 (denotable words xs h left.0)) in
    says.none (sym (ap (λ (q : Outcome). q.status) left.1.2) ∙ ended) v d (to_arranged v (members_in xs) list left.1.1 (all_contain v words xs h left.0 all))

pub version_is_common : VersionIsCommon
version_is_common json words o (xs, h, is) ended =
    let left = status_left json (messages_in xs) (members_in xs) o 0 (omega arith) ended is in
    let list = left.1.0 in
    let says = outcome_says json list (arranged_all IsDenotable (members_in xs) list left.1.1 (denotable words xs h left.0)) in
    let found = says.some (sym (ap (λ (q : Outcome). q.status) left.1.2) ∙ ended) in
    (found.0, each_contains found.0 words xs h left.0 (from_arranged found.0 (members_in xs) list left.1.1 found.1))

-- ---- no other outcome prints `no version`

-- a printed release begins with a digit
release_digit : (release after : List ℕ) → 0 < length release → All Fits release → starts is_ascii_digit (dotted decimal release ++ after) ≡ true
release_digit [] after some fits = absurd (omega (arith, some))
release_digit (n ∷ ns) after some fits =
    ap (starts is_ascii_digit) (append_assoc (decimal n) (flat_map (λ m. codes "." ++ decimal m) ns) after) ∙ number_first (decimal n) _ n (decimal_number n (All-head Fits n ns fits))

-- a printed version does
print_digit : (v : Record) → IsRecord v → (rest : List ℕ) → starts is_ascii_digit (print v ++ rest) ≡ true
print_digit v h rest = elim (cases_Bool (v.epoch == 0)) [
  | inl e ↦ rw e (ap (starts is_ascii_digit) (append_assoc (dotted decimal v.release) _ rest) ∙ release_digit v.release _ h.some h.release)
  | inr e ↦ rw e (ap (starts is_ascii_digit) (append_assoc (decimal v.epoch ++ codes "!") _ rest ∙ append_assoc (decimal v.epoch) (codes "!") _) ∙ number_first (decimal v.epoch) _ v.epoch (decimal_number v.epoch h.epoch))
]

-- the first byte of `no version`
abbrev is_n : ℕ → Bool
is_n b = b == 110

bracket_first : (b : Bool) (x y z : List ℕ) → starts is_n ((((if b then codes "[" else codes "(") ++ x) ++ y) ++ z) ≡ false
bracket_first true x y z = refl
bracket_first false x y z = refl

lines_status : (json : Bool) (set : Segments) → (lines_outcome json set).output ≡ codes "no version\n" → (lines_outcome json set).status ≡ 1
lines_status json [] says = refl
lines_status true (s ∷ set) says = absurd (true≢false (sym (ap (starts is_n) says)))
lines_status false (s ∷ set) says = absurd (true≢false (sym (ap (starts is_n) says) ∙ bracket_first (is_closed_start s.0) _ _ _))

named_status : (json : Bool) (found : Option Record) → IfSome found IsDenoted → (named_outcome json found).output ≡ codes "no version\n" → (named_outcome json found).status ≡ 1
named_status json None d says = refl
named_status true (Some v) d says = absurd (true≢false (sym (ap (starts is_n) says)))
named_status false (Some v) d says = absurd (true≢false (sym (print_digit v (derived_record d.0 v d.1) (codes "\n")) ∙ ap (starts is_ascii_digit) says))

set_status : (json : Bool) (list : List Spec) → All IsDenotable list → (set_outcome json list).output ≡ codes "no version\n" → (set_outcome json list).status ≡ 1
set_status json list all = go (has_exact list)
  where
    go : (b : Bool) → (if b then named_outcome json (common_version list) else lines_outcome json (list_set list)).output ≡ codes "no version\n"
        → (if b then named_outcome json (common_version list) else lines_outcome json (list_set list)).status ≡ 1
    go true says = named_status json (common_version list) (common_is_denoted list all) says
    go false says = lines_status json (list_set list) says

lists_status : (json : Bool) (messages : List ℕ) (members : List Spec) (o : Outcome) → (messages ≡ [] → All IsDenotable members) → PrintsLists json messages members o → o.output ≡ codes "no version\n" → o.status ≡ 1
lists_status json [] members o all (list, h, is) says =
    ap (λ (q : Outcome). q.status) is ∙ set_status json list (arranged_all IsDenotable members list h (all refl)) (sym (ap (λ (q : Outcome). q.output) is) ∙ says)
lists_status json (b ∷ messages) members o all is says = absurd (true≢false (sym (ap (starts is_n) says) ∙ ap (λ (q : Outcome). starts is_n q.output) is))

pub no_version_has_its_status : NoVersionHasItsStatus
no_version_has_its_status json words o (xs, h, is) says = lists_status json (messages_in xs) (members_in xs) o (denotable words xs h) is says
