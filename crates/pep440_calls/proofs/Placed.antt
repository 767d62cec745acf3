-- Many texts, read one after another: versions with their places, marks, as they are written; and sort keys in the order of their first bytes, and then of all.
use Rattle.std.proofs.Common.{Bor, ◌≡◌, ◌<◌, ◌≤◌, ◌+◌, ◌∙◌, drop, set, ℕ, zero, suc, Some, List, [], ◌∷◌, ◌++◌, length, get_or, take, map, refl, sym, ap, subst, arith, ◌⊎◌, ◌||◌, Bool, true, false, Option, inl, inr, not, append-nil, append_assoc, String, Global, Ok, Err, Result, string_bytes, ◌-◌, ◌*◌, ◌&&◌, None, cond}
use Rattle.std.proofs.Math.ListN.{drop_of_length-le}
use Rattle.std.proofs.Math.Seq.{drop-append_seam, drop-cons, set-append_seam, take-append_seam}
use Rattle.std.proofs.lemmas.List.{drop-drop, get_or_default, length-drop, length-map, length-take-le, map-append, take-append-drop, take_more, length-append, get_or-map}
use Rattle.std.proofs.lemmas.List.Elements.{All-from_recursion, recursion_from_All}
use Rattle.std.proofs.lemmas.Slice.Zip.{all_zipped_more}
use Rattle.std.specs.List.{All, AllZip, flat_map, AllByRecursion, enumerate_from, filter}
use Rattle.std.specs.Ordering.{bool_cmp, is_ge, is_lt, ordering_then, nat_cmp, on, ordering_reverse}
use Rattle.std.specs.Prelude.{IsSomeAnd, slice_get, IfOk, Result, Ok, Err}
use Rattle.std.specs.declared.cmp.Ordering.{Ordering}
use Rattle.pep440_version.specs.Key.{record_cmp}
use Rattle.pep440_version.specs.Record.{Record, from_parts}
use Rattle.pep440_version.specs.RoundTrip.{IsParsed}
use Rattle.pep440_calls.specs.Batches.{BatchFaults, IsContainedString, JoinsEncodings, batch_error_at, ArrangesPositions, HasEntries, IsEntryOf, entry_cmp, key_at, padded}
use Rattle.pep440_calls.specs.Statuses.{Faults, Joins, WritesStrings, ends_from, HoldsOrFaults}
use Rattle.pep440_calls.specs.declared.fault.Fault.{Fault}
use Rattle.pep440_calls.specs.declared.fault.Fault.TheVariants.{InvalidVersion, InvalidList, InvalidRight, NoList, NoSet, NumberAtMax, OutOfMemory}
use Rattle.pep440_calls.specs.declared.batch.BatchError.{BatchError}
use Rattle.pep440_calls.specs.CallerBytes.{BytesDenote, RejectsBytes}
use Rattle.std.specs.declared.cmp.Ordering.TheVariants.{Less, Equal, Greater}
use Rattle.std.proofs.lemmas.Bool.{both_ways}
use Rattle.pep440_pick.proofs.Once.{preference_total}
use Rattle.pep440_pick.specs.Newest.{Greatest, is_above, preference}
use Rattle.pep440_rs.specs.LiteralMatching.{list_matches_literally}
use Rattle.pep440_rs.specs.Matching.{any_prerelease}
use Rattle.pep440_rs.specs.Specifiers.{Spec}
use Rattle.pep440_calls.proofs.Once.{never_both, one_version}
use Rattle.pep440_calls.proofs.Forms.{means_parsed}
use Rattle.std.proofs.lemmas.List.Concat.{flat_map-append}
use Rattle.std.specs.declared.ops.Bound.{Bound}
use Rattle.pep440_rs.specs.Bounds.{Segments}
use Rattle.pep440_calls.specs.CallResults.{JoinsBounds, bound_bytes, segment_bounds, ChangesTo, IsEditError, BytesDenoteChange, RejectsChangeWord, RejectsChangeWordAt, EditFaults}
use Rattle.pep440_version.specs.Changes.ChangeWords.{not_a_change_text}
use Rattle.pep440_version.specs.Sentinels.{print_with_sentinels}
use Rattle.pep440_version.specs.Changes.{edit}
use Rattle.pep440_version.specs.ErrorTexts.{change_error_text}
use Rattle.pep440_version.specs.declared.change.Change.{Change}
use Rattle.pep440_version.specs.declared.change.ChangeError.{ChangeError}
use Rattle.pep440_calls.specs.Explanations.{IsErrorOf}
use Rattle.pep440_calls.specs.declared.edits.EditError.{EditError}
use Rattle.std.proofs.lemmas.List.Sorted.{All-permutation, IsPermutation-map, ranks_by, sum_by-IsPermutation, ties_stay_sorted}
use Rattle.std.proofs.lemmas.Cmp.{nat_cmp_total, then_total}
use Rattle.std.specs.Cmp.{IsTotalOrder, on_total}
use Rattle.std.specs.Cmp.Lexicographic.{nat_list_cmp_total, slice_cmp}
use Rattle.std.specs.List.Sorted.{IsPermutation, IsSortedBy, ties}
use Rattle.std.specs.Slice.Scan.{big_endian}
use Rattle.std.specs.FinMap.{nat_cmp-IsAntisymmetric}
use Rattle.std.proofs.lemmas.List.Sums.{sum_by-cons}
use Rattle.std.specs.List.{sum_by}
use Rattle.std.specs.Prelude.{replicate}
use Rattle.pep440_rs.proofs.Arranging.Arranged.{same_by_ties}
use Rattle.pep440_rs.proofs.Arranging.Sorting.{sorted, sorted_same, sorted_stable, sorted_up}
use Rattle.pep440_rs.specs.Arrangement.{ArrangesBy}
use Rattle.pep440_compiled.proofs.Fronts.{itself, keyed}
use Rattle.pep440_keys.proofs.Order.{followed_in_order, same_keys}
use Rattle.pep440_keys.specs.SortKeys.{IsKeyed, key_bytes}
use Rattle.pep440_version.proofs.Ordering.Comparisons.{then_assoc}
use Rattle.pep440_version.proofs.Words.Blocks.{nat_cmp_block}
use Rattle.pep440_version.specs.Key.KeyLaws.{record_total}
use Rattle.pep440_calls.specs.declared.batch.Entry.{Entry}
use Rattle.pep440_pick.proofs.Choosing as greatest
use Rattle.pep440_calls.specs.declared.edits.EditError.TheVariants as error
use Rattle.pep440_calls.specs.declared.messages.BytesKind.TheVariants as kind
use Rattle.pep440_version.proofs.Words.Blocks as blocks

pub each_more : {A : Type 0} (Means : List ℕ → A → Type 0) (texts : List (Bor (List ℕ))) (i : ℕ) (x : Bor (List ℕ)) (found new : List A) (a : A) → i < length texts → x ≡ get_or texts i x → Means x.now a
    → new ≡ found ++ a ∷ [] → AllZip Means (map (λ t. t.now) (take i texts)) found → AllZip Means (map (λ t. t.now) (take (i + 1) texts)) new
each_more {A} Means texts i x found new a inside is means more all =
    let now : Bor (List ℕ) → List ℕ = λ t. t.now in
    let seen : map now (take (i + 1) texts) ≡ map now (take i texts) ++ now x ∷ [] =
    ap (map now) (take_more texts i x inside ∙ ap (λ (y : Bor (List ℕ)). take i texts ++ y ∷ []) (sym is)) ∙ map-append now (take i texts) (x ∷ []) in
    subst (λ (l : List (List ℕ)). AllZip Means l new) (sym seen) (subst (λ (l : List A). AllZip Means (map now (take i texts) ++ now x ∷ []) l) (sym more) (all_zipped_more Means (map now (take i texts)) found (now x) a all means))

-- what stands in one of two lists has its like in the other
each_means : {A : Type 0} (Means : List ℕ → A → Type 0) (texts : List (List ℕ)) (found : List A) → AllZip Means texts found → All (λ text. (a : A) × Means text a) texts
each_means Means [] found h k d lt = absurd (omega (arith, lt))
each_means Means (t ∷ texts) [] h k d lt = absurd h
each_means Means (t ∷ texts) (a ∷ found) h zero d lt = (a, h.0)
each_means Means (t ∷ texts) (a ∷ found) h (suc k) d lt = each_means Means texts found h.1 k d (omega (arith, lt))

-- the item at a position
at_position : {A B : Type 0} (f : A → B) (xs : List A) (i : ℕ) (x : A) → i < length xs → x ≡ get_or xs i x → slice_get (map f xs) i ≡ Some (f x)
at_position f [] i x inside is = absurd (omega (arith, inside))
at_position f (y ∷ xs) zero x inside is = ap (λ a. Some (f a)) (sym is)
at_position f (y ∷ xs) (suc i) x inside is = at_position f xs i x (omega (arith, inside)) is

-- the text at a place is refused, and those before it mean something
pub refused_first : {A : Type 0} (Means : List ℕ → A → Type 0) (Refused : List ℕ → Type 0) (texts : List (Bor (List ℕ))) (i : ℕ) (x : Bor (List ℕ)) (found : List A) → i < length texts
    → Refused (get_or texts i x).now → AllZip Means (map (λ t. t.now) (take i texts)) found
    → IsSomeAnd (slice_get (map (λ (t : Bor (List ℕ)). t.now) texts) i) Refused × All (λ text. (a : A) × Means text a) (take i (map (λ (t : Bor (List ℕ)). t.now) texts))
refused_first {A} Means Refused texts i x found inside why all = (
  rw (at_position (λ t. t.now) texts i (get_or texts i x) inside (get_or_default texts i x (get_or texts i x) inside)) why,
  subst (λ l. All (λ text. (a : A) × Means text a) l) (map_take i texts) (each_means Means (map (λ t. t.now) (take i texts)) found all),
)
  where
    map_take : (i : ℕ) (texts : List (Bor (List ℕ))) → map (λ (t : Bor (List ℕ)). t.now) (take i texts) ≡ take i (map (λ (t : Bor (List ℕ)). t.now) texts)
    map_take zero texts = refl
    map_take (suc i) [] = refl
    map_take (suc i) (t ∷ texts) = ap (λ l. t.now ∷ l) (map_take i texts)

-- the text at a place that is refused is the first, where those before it mean versions
pub stops_at : (texts : List (Bor (List ℕ))) (i : ℕ) (x : Bor (List ℕ)) (f : Fault) (s : BatchError) (versions : List Record) → i < length texts → s ≡ batch_error_at i f
    → Faults (RejectsBytes (get_or texts i x).now) ⊥ ⊥ f → AllZip BytesDenote (map (λ t. t.now) (take i texts)) versions → BatchFaults (map (λ t. t.now) texts) s
stops_at texts i x InvalidVersion s versions inside is why all = subst (λ (t : BatchError). BatchFaults (map (λ (y : Bor (List ℕ)). y.now) texts) t) (sym is)
    (let both = refused_first BytesDenote RejectsBytes texts i x versions inside why all in record { refused = both.0; before = both.1 })
stops_at texts i x InvalidList s versions inside is why all = absurd why
stops_at texts i x NumberAtMax s versions inside is why all = absurd why
stops_at texts i x InvalidRight s versions inside is why all = absurd why
stops_at texts i x NoSet s versions inside is why all = absurd why
stops_at texts i x NoList s versions inside is why all = absurd why
stops_at texts i x OutOfMemory s versions inside is why all = subst (λ (t : BatchError). BatchFaults (map (λ (y : Bor (List ℕ)). y.now) texts) t) (sym is) tt

-- one more mark
pub marked_more : (Marks : List ℕ → ℕ → Type 0) (texts : List (Bor (List ℕ))) (i : ℕ) (x : Bor (List ℕ)) (marks new : List ℕ) (m : ℕ) → i < length texts → Marks (get_or texts i x).now m → new ≡ marks ++ m ∷ []
    → AllZip Marks (map (λ t. t.now) (take i texts)) marks → AllZip Marks (map (λ t. t.now) (take (i + 1) texts)) new
marked_more Marks texts i x marks new m inside is more all =
    each_more Marks texts i (get_or texts i x) marks new m inside (get_or_default texts i x (get_or texts i x) inside) is more all

-- ---- versions as they are written

-- one more version
pub encodings_more : (encode : Record → List ℕ) (texts : List (Bor (List ℕ))) (i : ℕ) (x : Bor (List ℕ)) (bytes new ends new_ends : List ℕ) (v : Record) → i < length texts → BytesDenote (get_or texts i x).now v
    → ((l : List (List ℕ)) → Joins l bytes ends → Joins (l ++ encode v ∷ []) new new_ends) → JoinsEncodings encode (map (λ t. t.now) (take i texts)) bytes ends
    → JoinsEncodings encode (map (λ t. t.now) (take (i + 1) texts)) new new_ends
encodings_more encode texts i x bytes new ends new_ends v inside means more (versions, all, joins) = (
  versions ++ v ∷ [],
  each_more BytesDenote texts i (get_or texts i x) versions (versions ++ v ∷ []) v inside (get_or_default texts i x (get_or texts i x) inside) means refl all,
  subst (λ (l : List (List ℕ)). Joins l new new_ends) (sym (map-append encode versions (v ∷ []))) (more (map encode versions) joins),
)

-- one more version as it is written, as it lies in a text
pub views_more : (encode : Record → List ℕ) (texts : List (Bor (List ℕ))) (i : ℕ) (x : Bor (List ℕ)) (views new : List (Bor (List ℕ))) (view : Bor (List ℕ)) (v : Record) → i < length texts
    → BytesDenote (get_or texts i x).now v → view.now ≡ encode v → new ≡ views ++ view ∷ []
    → ((versions : List Record) × AllZip BytesDenote (map (λ t. t.now) (take i texts)) versions × (map (λ f. f.now) views ≡ map encode versions))
    → (versions : List Record) × AllZip BytesDenote (map (λ t. t.now) (take (i + 1) texts)) versions × (map (λ f. f.now) new ≡ map encode versions)
views_more encode texts i x views new view v inside means is more (versions, all, same) = let now : Bor (List ℕ) → List ℕ = λ k. k.now in (
  versions ++ v ∷ [],
  each_more BytesDenote texts i (get_or texts i x) versions (versions ++ v ∷ []) v inside (get_or_default texts i x (get_or texts i x) inside) means refl all,
  ap (map now) more ∙ map-append now views (view ∷ []) ∙ (λ j. same j ++ is j ∷ []) ∙ sym (map-append encode versions (v ∷ [])),
)

by_order : (a b : Bool) (o : Ordering) → a || not b ≡ true → is_ge o ≡ true → is_lt (ordering_then (bool_cmp a b) o) ≡ false
by_order false true o taken ge = cc taken
by_order false false Less taken ge = cc ge
by_order false false Equal taken ge = refl
by_order false false Greater taken ge = refl
by_order true false o taken ge = refl
by_order true true Less taken ge = cc ge
by_order true true Equal taken ge = refl
by_order true true Greater taken ge = refl

-- nothing is preferred less than a pre-release
least_taken : (takes p r : Bool) → r ≡ true → (takes || not p) || not (takes || not r) ≡ true
least_taken true p r h = refl
least_taken false false r h = refl
least_taken false true true h = refl
least_taken false true false h = cc h

-- a version that is not above one which is taken is not preferred to it
pub not_preferred : (takes : Bool) (p r : Record) → is_ge (record_cmp p r) ≡ true → takes || not (any_prerelease p) ≡ true → is_lt (preference takes p r) ≡ false
not_preferred takes p r ge taken = by_order (takes || not (any_prerelease p)) (takes || not (any_prerelease r)) (record_cmp p r) (ap (λ b. b || not (takes || not (any_prerelease r))) taken) ge

-- nor is a pre-release that is not above another version
pub not_preferred_prerelease : (takes : Bool) (p r : Record) → is_ge (record_cmp p r) ≡ true → any_prerelease r ≡ true → is_lt (preference takes p r) ≡ false
not_preferred_prerelease takes p r ge pre = by_order (takes || not (any_prerelease p)) (takes || not (any_prerelease r)) (record_cmp p r) (least_taken takes (any_prerelease p) (any_prerelease r) pre) ge

module _ (takes : Bool) (list : List Spec) where
  only : (t : List ℕ) (r q : Record) → IsContainedString list t r → IsContainedString list t q → r ≡ q
  only t r q h k = one_version t r q h.0 k.0

  abbrev NewestOf : List (List ℕ) → Option (ℕ × Record) → Type 0
  NewestOf = Greatest (IsContainedString list) (preference takes)

  pub out_of : (t : List ℕ) → RejectsBytes t ⊎ ((r : Record) × BytesDenote t r × (list_matches_literally list r ≡ false)) → (r : Record) → ¬ (IsContainedString list t r)
  out_of t (inl why) r h = never_both t r h.0 why
  out_of t (inr (q, means, out)) r h = both_ways (list_matches_literally list r) (ap (list_matches_literally list) (one_version t r q h.0 means) ∙ out) h.1

  module _ (texts : List (Bor (List ℕ))) (i : ℕ) (x : Bor (List ℕ)) (newest : Option (ℕ × Record)) (inside : i < length texts) where
    abbrev now : Bor (List ℕ) → List ℕ
    now t = t.now

    texts_seen : map now (take (i + 1) texts) ≡ map now (take i texts) ++ (get_or texts i x).now ∷ []
    texts_seen = ap (map now) (take_more texts i x inside) ∙ map-append now (take i texts) (get_or texts i x ∷ [])

    pub found_more : (v : Record) → IsContainedString list (get_or texts i x).now v → is_above (preference takes) newest v ≡ true → NewestOf (map now (take i texts)) newest → NewestOf (map now (take (i + 1) texts)) (Some (i, v))
    found_more v has above n =
        let long : length (map now (take i texts)) ≡ i = length-map (take i texts) now ∙ length-take-le i texts (omega (arith, inside)) in
        subst (λ l. NewestOf l (Some (i, v))) (sym texts_seen)
        (subst (λ k. NewestOf (map now (take i texts) ++ (get_or texts i x).now ∷ []) (Some (k, v))) long
        (greatest.found_more (IsContainedString list) only (preference takes) (preference_total takes) (map now (take i texts)) (get_or texts i x).now v newest n has above))

    pub kept_more : ((r : Record) → IsContainedString list (get_or texts i x).now r → is_above (preference takes) newest r ≡ false) → NewestOf (map now (take i texts)) newest → NewestOf (map now (take (i + 1) texts)) newest
    kept_more out n = subst (λ l. NewestOf l newest) (sym texts_seen) (greatest.kept_more (IsContainedString list) only (preference takes) (preference_total takes) (map now (take i texts)) (get_or texts i x).now newest n out)

    pub below_more : (v : Record) → IsContainedString list (get_or texts i x).now v → is_above (preference takes) newest v ≡ false → NewestOf (map now (take i texts)) newest → NewestOf (map now (take (i + 1) texts)) newest
    below_more v has below = kept_more (λ r h. ap (is_above (preference takes) newest) (only (get_or texts i x).now r v h has) ∙ below)

-- where one more string ends
ends_push : (start : ℕ) (strings : List (List ℕ)) (s : List ℕ) → ends_from start (strings ++ s ∷ []) ≡ ends_from start strings ++ (start + (length (flat_map (λ (t : List ℕ). t) strings) + length s)) ∷ []
ends_push start [] s = ap (λ (n : ℕ). n ∷ []) (omega arith)
ends_push start (t ∷ rest) s =
    let all : length (t ++ flat_map (λ (u : List ℕ). u) rest) ≡ length t + length (flat_map (λ (u : List ℕ). u) rest) = length-append t (flat_map (λ (u : List ℕ). u) rest) in
    ap (λ (l : List ℕ). (start + length t) ∷ l) (ends_push (start + length t) rest s
    ∙ ap (λ (n : ℕ). ends_from (start + length t) rest ++ n ∷ []) (omega (arith, all)))

pub joined_more : (strings : List (List ℕ)) (s bytes new ends new_ends : List ℕ) → new ≡ bytes ++ s → new_ends ≡ ends ++ length new ∷ [] → Joins strings bytes ends → Joins (strings ++ s ∷ []) new new_ends
joined_more strings s bytes new ends new_ends more ended joins =
    let long : length (bytes ++ s) ≡ length bytes + length s = length-append bytes s in
    let count : length new ≡ length (bytes ++ s) = ap length more in
    let same : length bytes ≡ length (flat_map (λ (t : List ℕ). t) strings) = ap length joins.joined in record {
      joined = more ∙ ap (λ (l : List ℕ). l ++ s) joins.joined ∙ ap (λ (l : List ℕ). flat_map (λ (t : List ℕ). t) strings ++ l) (sym (append-nil s))
          ∙ sym (flat_map-append (λ (t : List ℕ). t) strings (s ∷ []));
      ended = ended ∙ ap (λ (l : List ℕ). l ++ length new ∷ []) joins.ended ∙ ap (λ (n : ℕ). ends_from 0 strings ++ n ∷ []) (omega (arith, long, count, same)) ∙ sym (ends_push 0 strings s);
    }

-- the next of borrowed strings
pub next_joined : (strings : List (Bor (List ℕ))) (i : ℕ) (x : Bor (List ℕ)) (bytes new ends new_ends : List ℕ) → i < length strings → new ≡ bytes ++ (get_or strings i x).now → new_ends ≡ ends ++ length new ∷ []
    → Joins (map (λ s. s.now) (take i strings)) bytes ends → Joins (map (λ s. s.now) (take (i + 1) strings)) new new_ends
next_joined strings i x bytes new ends new_ends inside more ended joins =
    let now : Bor (List ℕ) → List ℕ = λ s. s.now in
    let seen : map now (take (i + 1) strings) ≡ map now (take i strings) ++ now (get_or strings i x) ∷ [] =
    ap (map now) (take_more strings i x inside) ∙ map-append now (take i strings) (get_or strings i x ∷ []) in
    subst (λ (l : List (List ℕ)). Joins l new new_ends) (sym seen) (joined_more (map now (take i strings)) (now (get_or strings i x)) bytes new ends new_ends more ended joins)

-- how long the next string is, beside those before it
pub length_more : (strings : List (Bor (List ℕ))) (i : ℕ) (x : Bor (List ℕ)) → i < length strings
    → length (flat_map (λ s. s) (map (λ s. s.now) (take (i + 1) strings))) ≡ length (flat_map (λ s. s) (map (λ s. s.now) (take i strings))) + length (get_or strings i x).now
length_more strings i x inside =
    let now : Bor (List ℕ) → List ℕ = λ s. s.now in
    let all : List (List ℕ) → List ℕ = flat_map (λ s. s) in
    ap (λ l. length (all l)) (ap (map now) (take_more strings i x inside) ∙ map-append now (take i strings) (get_or strings i x ∷ []))
    ∙ ap length (flat_map-append (λ (t : List ℕ). t) (map now (take i strings)) (now (get_or strings i x) ∷ []) ∙ ap (λ l. all (map now (take i strings)) ++ l) (append-nil _))
    ∙ length-append (all (map now (take i strings))) (now (get_or strings i x))

-- those that lead are no longer than all
pub length_front : (strings : List (Bor (List ℕ))) (i : ℕ) → length (flat_map (λ s. s) (map (λ s. s.now) (take i strings))) ≤ length (flat_map (λ s. s) (map (λ s. s.now) strings))
length_front strings i =
    let now : Bor (List ℕ) → List ℕ = λ s. s.now in
    let all : List (List ℕ) → List ℕ = flat_map (λ s. s) in
    let parts : all (map now strings) ≡ all (map now (take i strings)) ++ all (map now (drop i strings)) =
    ap (λ l. all (map now l)) (sym (take-append-drop i strings)) ∙ ap all (map-append now (take i strings) (drop i strings)) ∙ flat_map-append (λ (t : List ℕ). t) (map now (take i strings)) (map now (drop i strings)) in
    omega (arith, ap length parts, length-append (all (map now (take i strings))) (all (map now (drop i strings))))

-- the next string still fits
pub next_inside : (strings : List (Bor (List ℕ))) (i : ℕ) (bytes places out old : List ℕ) (start : ℕ) → i < length strings → length (flat_map (λ s. s) (map (λ s. s.now) strings)) ≤ length old
    → Joins (map (λ s. s.now) (take i strings)) bytes places → start ≡ length bytes → out ≡ bytes ++ drop (length bytes) old
    → (x : Bor (List ℕ)) → start + length (get_or strings i x).now ≤ length out
next_inside strings i bytes places out old start inside fits joins is_start is_out x =
    let now : Bor (List ℕ) → List ℕ = λ s. s.now in
    omega (arith, length_more strings i x inside, length_front strings (i + 1), ap length joins.joined, ap length is_out, length-append bytes (drop (length bytes) old), length-drop (length bytes) old)

-- where one more string ends
placed_more : (places old : List ℕ) (i e : ℕ) → length places ≡ i → i < length old
    → set (places ++ drop (length places) old) i e ≡ (places ++ e ∷ []) ++ drop (length (places ++ e ∷ [])) old
placed_more places old i e count inside =
    let here : length places < length old = omega (arith, count, inside) in
    let next : suc (length places) ≡ length (places ++ e ∷ []) = omega (arith, length-append places (e ∷ [])) in
    (λ j. set (places ++ drop-cons old (length places) 0 here j) (sym count j) e)
    ∙ set-append_seam places (get_or old (length places) 0) (drop (suc (length places)) old) e
    ∙ sym (append_assoc places (e ∷ []) (drop (suc (length places)) old))
    ∙ ap (λ n. (places ++ e ∷ []) ++ drop n old) next

-- one more string is copied, and where it ends
pub copied_more : (strings : List (Bor (List ℕ))) (i : ℕ) (x : Bor (List ℕ)) (bytes places out copied old ends old_ends : List ℕ) (start k : ℕ) → i < length strings
    → length strings ≤ length old_ends → Joins (map (λ s. s.now) (take i strings)) bytes places → start ≡ length bytes → length places ≡ i
    → out ≡ bytes ++ drop (length bytes) old → ends ≡ places ++ drop (length places) old_ends → copied ≡ (get_or strings i x).now → k ≡ length (get_or strings i x).now
    → (b p : List ℕ) × Joins (map (λ s. s.now) (take (i + 1) strings)) b p × (start + length (get_or strings i x).now ≡ length b) × (length p ≡ i + 1)
    × (take start out ++ (copied ++ drop k (drop start out)) ≡ b ++ drop (length b) old) × (set ends i (start + length (get_or strings i x).now) ≡ p ++ drop (length p) old_ends)
copied_more strings i x bytes places out copied old ends old_ends start k inside room joins is_start count is_out is_ends is_copied is_k =
    let s : List ℕ = (get_or strings i x).now in
    let long : start + length s ≡ length (bytes ++ s) = omega (arith, length-append bytes s, is_start) in
    let rest : List ℕ = drop (length bytes) old in
    let left : take start out ≡ bytes = (λ j. take (is_start j) (is_out j)) ∙ take-append_seam bytes rest in
    let right : drop start out ≡ rest = (λ j. drop (is_start j) (is_out j)) ∙ drop-append_seam bytes rest in
    let after : drop k rest ≡ drop (length (bytes ++ s)) old = drop-drop k (length bytes) old ∙ ap (λ n. drop n old) (omega (arith, length-append bytes s, is_k)) in (
      bytes ++ s,
      places ++ length (bytes ++ s) ∷ [],
      next_joined strings i x bytes (bytes ++ s) places (places ++ length (bytes ++ s) ∷ []) inside refl refl joins,
      long,
      omega (arith, length-append places (length (bytes ++ s) ∷ []), count),
      (λ j. left j ++ (is_copied j ++ drop k (right j))) ∙ ap (λ l. bytes ++ (s ++ l)) after ∙ sym (append_assoc bytes s (drop (length (bytes ++ s)) old)),
      (λ j. set (is_ends j) i (long j)) ∙ placed_more places old_ends i (length (bytes ++ s)) count (omega (arith, inside, room)),
    )

length_ends : (start : ℕ) (strings : List (List ℕ)) → length (ends_from start strings) ≡ length strings
length_ends start [] = refl
length_ends start (s ∷ rest) = ap suc (length_ends (start + length s) rest)

-- a buffer is too small for the strings
pub no_bytes_fit : (strings : List (Bor (List ℕ))) (out ends : List ℕ) (written sum : ℕ) → sum ≡ length (flat_map (λ s. s) (map (λ s. s.now) strings)) → length out < sum
    → WritesStrings (map (λ s. s.now) strings) out out ends ends written sum 4
no_bytes_fit strings out ends written sum is short =
    let given : List (List ℕ) = map (λ (s : Bor (List ℕ)). s.now) strings in
    inl (flat_map (λ s. s) given, ends_from 0 given, record { joined = refl; ended = refl }, is, inr (refl, inl (omega (arith, is, short)), refl, refl))

pub no_ends_fit : (strings : List (Bor (List ℕ))) (out ends : List ℕ) (written sum : ℕ) → sum ≡ length (flat_map (λ s. s) (map (λ s. s.now) strings)) → length ends < length strings
    → WritesStrings (map (λ s. s.now) strings) out out ends ends written sum 4
no_ends_fit strings out ends written sum is short =
    let given : List (List ℕ) = map (λ (s : Bor (List ℕ)). s.now) strings in
    inl (
      flat_map (λ s. s) given,
      ends_from 0 given,
      record { joined = refl; ended = refl },
      is,
      inr (refl, inr (omega (arith, short, length_ends 0 given, length-map strings (λ (s : Bor (List ℕ)). s.now))), refl, refl),
    )

-- two strings more
pub pushed : (k l : List ℕ) (strings : List (List ℕ)) (s t b m n e f g : List ℕ) → s ≡ k → t ≡ l → m ≡ b ++ s → f ≡ e ++ length m ∷ []
    → n ≡ m ++ t → g ≡ f ++ length n ∷ [] → Joins strings b e → Joins (strings ++ k ∷ l ∷ []) n g
pushed k l strings s t b m n e f g is_k is_l more ended again behind joins =
    let first : Joins (strings ++ s ∷ []) m f = joined_more strings s b m e f more ended joins in
    let second : Joins ((strings ++ s ∷ []) ++ t ∷ []) n g = joined_more (strings ++ s ∷ []) t m n f g again behind first in
    subst (λ (p : List (List ℕ)). Joins p n g) (append_assoc strings (s ∷ []) (t ∷ []) ∙ (λ j. strings ++ (is_k j ∷ (is_l j ∷ [])))) second

-- the first string is pushed, then the second
pub segment_more : (range : Segments) (low high : Bound Record) (s t b m n e f g : List ℕ) → s ≡ bound_bytes low → t ≡ bound_bytes high → m ≡ b ++ s → f ≡ e ++ length m ∷ []
    → n ≡ m ++ t → g ≡ f ++ length n ∷ [] → JoinsBounds range b e → JoinsBounds (range ++ (low, high) ∷ []) n g
segment_more range low high s t b m n e f g first second more ended again behind joins =
    subst (λ (strings : List (List ℕ)). Joins strings n g) (sym (flat_map-append segment_bounds range ((low, high) ∷ [])))
    (pushed (bound_bytes low) (bound_bytes high) (flat_map segment_bounds range) s t b m n e f g first second more ended again behind joins)

-- the next segment of the range is joined too
pub segments_more : (range left rest : Segments) (low high : Bound Record) (b e n g : List ℕ) → left ≡ (low, high) ∷ rest
    → ((done : Segments) → JoinsBounds done b e → JoinsBounds (done ++ (low, high) ∷ []) n g)
    → ((done : Segments) × JoinsBounds done b e × (done ++ left ≡ range)) → (done : Segments) × JoinsBounds done n g × (done ++ rest ≡ range)
segments_more range left rest low high b e n g next pushes (done, joins, seen) =
    (done ++ (low, high) ∷ [], pushes done joins, append_assoc done ((low, high) ∷ []) rest ∙ ap (λ (l : Segments). done ++ l) (sym next) ∙ seen)

pub joined_parsed : (texts : List (List ℕ)) (versions : List Record) → AllZip BytesDenote texts versions → All IsParsed versions
joined_parsed texts versions all = All-from_recursion IsParsed versions (go texts versions all)
  where
    go : (texts : List (List ℕ)) (versions : List Record) → AllZip BytesDenote texts versions → AllByRecursion IsParsed versions
    go [] [] h = tt
    go [] (v ∷ versions) h = absurd h
    go (t ∷ texts) [] h = absurd h
    go (t ∷ texts) (v ∷ versions) h = (means_parsed t v h.0, go texts versions h.1)

-- ---- Edited versions: changes read one after another, and what is told of an edit that cannot be made

-- one more change
pub changes_more : (words : List (Bor (List ℕ))) (i : ℕ) (x : Bor (List ℕ)) (changes new : List Change) (a : Change) → i < length words → BytesDenoteChange (get_or words i x).now (edit a)
    → new ≡ changes ++ a ∷ [] → AllZip BytesDenoteChange (map (λ t. t.now) (take i words)) (map edit changes) → AllZip BytesDenoteChange (map (λ t. t.now) (take (i + 1) words)) (map edit new)
changes_more words i x changes new a inside means more all =
    each_more BytesDenoteChange words i (get_or words i x) (map edit changes) (map edit new) (edit a) inside (get_or_default words i x (get_or words i x) inside) means
    (ap (map edit) more ∙ map-append edit changes (a ∷ [])) all

-- the word at a place is the first that is none
pub change_refused : (words : List (Bor (List ℕ))) (i : ℕ) (x : Bor (List ℕ)) (changes : List Change) → i < length words → RejectsChangeWord (get_or words i x).now
    → AllZip BytesDenoteChange (map (λ t. t.now) (take i words)) (map edit changes) → RejectsChangeWordAt (map (λ t. t.now) words) (i + 1)
change_refused words i x changes inside why all =
    let both = refused_first BytesDenoteChange RejectsChangeWord words i x (map edit changes) inside why all in (i, record { rejected = both.0; before = both.1 }, refl)

-- what is told of an edit
abbrev pub TellsEdit : List ℕ → List (List ℕ) → Result (String Global) Fault → Type 0
TellsEdit text words = HoldsOrFaults ⊥ ⊥ ⊥ (λ t. IsEditError text words (string_bytes t))

-- nothing, where it is made
pub nothing_told : (text : List ℕ) (words : List (List ℕ)) (t : String Global) (q : Record) → ((r : Record) × BytesDenote text r × ChangesTo r words (Ok q)) → string_bytes t ≡ [] → TellsEdit text words (Ok t)
nothing_told text words t q (r, means, to) none = inl (print_with_sentinels q, (r, q, means, to, refl), none)

-- of a string that is no version what is told of that
pub version_told : (text : List ℕ) (words : List (List ℕ)) (e : EditError) (told : Result (String Global) Fault) → e ≡ error.InvalidVersion → EditFaults text words e
    → HoldsOrFaults ⊥ ⊥ ⊥ (λ t. IsErrorOf kind.Version text (string_bytes t)) told → TellsEdit text words told
version_told text words e (Ok t) is why (inl (r, means, none)) = absurd (never_both text r means (subst (EditFaults text words) is why))
version_told text words e (Ok t) is why (inr tells) = inr (error.InvalidVersion, subst (EditFaults text words) is why, tells)
version_told text words e (Err f) is why h = h

-- which change is none
pub no_change_told : (text : List ℕ) (words : List (List ℕ)) (t : String Global) (e : EditError) (n : ℕ) → e ≡ error.NotAChange n → EditFaults text words e → string_bytes t ≡ not_a_change_text n
    → TellsEdit text words (Ok t)
no_change_told text words t e n is why told = inr (error.NotAChange n, subst (EditFaults text words) is why, told)

-- which change cannot be made
pub no_edit_told : (text : List ℕ) (words : List (List ℕ)) (t : String Global) (e : EditError) (why_not : ChangeError) → e ≡ error.Change why_not → EditFaults text words e
    → string_bytes t ≡ change_error_text why_not → TellsEdit text words (Ok t)
no_edit_told text words t e why_not is why told = inr (error.Change why_not, subst (EditFaults text words) is why, told)

-- ---- positions and versions, sorted by version and then by position

tied : (o p : Ordering) → p ≡ ordering_reverse o → not (is_lt o) && not (is_lt p) ≡ true → o ≡ Equal
tied Less p r e = cc e
tied Equal p r e = refl
tied Greater p r e = let less : not (is_lt p) ≡ false = ap (λ q. not (is_lt q)) r in cc (e, less)

rises_mapped : {E G : Type 0} (g : E → G) (below : E → E → Bool) (order : G → G → Ordering) (P : E → Type 0) → ((x y : E) → P x → P y → below x y ≡ is_lt (order (g x) (g y)))
    → (xs : List E) → All P xs → IsSortedBy below xs → IsSortedBy (λ x y. is_lt (order x y)) (map g xs)
rises_mapped g below order P same [] all up k d le inside = absurd (omega (arith, inside))
rises_mapped g below order P same (x ∷ xs) all up k d le inside =
    let long : length (map g (x ∷ xs)) ≡ length (x ∷ xs) = length-map (x ∷ xs) g in
    let next : k + 1 < length (x ∷ xs) = omega (arith, inside, long) in
    let this : k < length (x ∷ xs) = omega (arith, inside, long) in
    (λ i. is_lt (order (get_or-map g (x ∷ xs) (k + 1) x d next i) (get_or-map g (x ∷ xs) k x d this i)))
    ∙ sym (same (get_or (x ∷ xs) (k + 1) x) (get_or (x ∷ xs) k x) (all (k + 1) x next) (all k x this))
    ∙ up k x le next

abbrev by_version : ℕ × Record → ℕ × Record → Ordering
by_version = on (λ (p : ℕ × Record). p.1) record_cmp

abbrev by_both : ℕ × Record → ℕ × Record → Ordering
by_both p q = ordering_then (record_cmp p.1 q.1) (nat_cmp p.0 q.0)

abbrev below_version : ℕ × Record → ℕ × Record → Bool
below_version p q = is_lt (by_version p q)

abbrev below_both : ℕ × Record → ℕ × Record → Bool
below_both p q = is_lt (by_both p q)

by_both_total : IsTotalOrder by_both
by_both_total = then_total (on_total (λ (p : ℕ × Record). p.1) record_total) (on_total (λ (p : ℕ × Record). p.0) nat_cmp_total)

-- the next pair is not below one, if it is not by version, nor by position where the versions tie
both_rise : (o p n : Ordering) → p ≡ ordering_reverse o → is_lt o ≡ false → (not (is_lt p) && not (is_lt o) ≡ true → is_lt n ≡ false) → is_lt (ordering_then o n) ≡ false
both_rise Less p n r e h = cc e
both_rise Equal p n r e h = h (ap (λ q. not (is_lt q) && not (is_lt Equal)) r)
both_rise Greater p n r e h = refl

last_tied : (o n : Ordering) → ordering_then o n ≡ Equal → n ≡ Equal
last_tied Less n e = cc e
last_tied Equal n e = e
last_tied Greater n e = cc e

enumerated_length : (n : ℕ) (versions : List Record) → length (enumerate_from n versions) ≡ length versions
enumerated_length n [] = refl
enumerated_length n (v ∷ versions) = ap suc (enumerated_length (n + 1) versions)

position_at : (n : ℕ) (versions : List Record) (k : ℕ) (d : ℕ × Record) → k < length versions → (get_or (enumerate_from n versions) k d).0 ≡ n + k
position_at n [] k d inside = absurd (omega (arith, inside))
position_at n (v ∷ versions) zero d inside = omega arith
position_at n (v ∷ versions) (suc k) d inside = let later = position_at (n + 1) versions k d (omega (arith, inside)) in omega (arith, later)

positions_rise : (versions : List Record) → IsSortedBy (λ (p q : ℕ × Record). is_lt (nat_cmp p.0 q.0)) (enumerate_from 0 versions)
positions_rise versions k d low high =
    let long = enumerated_length 0 versions in
    let next : k + 1 < length versions = omega (arith, high, long) in
    let this : k < length versions = omega (arith, next) in
    (λ i. is_lt (nat_cmp (position_at 0 versions (k + 1) d next i) (position_at 0 versions k d this i))) ∙ ap is_lt (blocks.is_above (0 + (k + 1)) (0 + k) (omega arith))

-- how many of a list pass a test
abbrev passing : {X : Type 0} → (X → Bool) → X → ℕ
passing p x = cond (p x) 1 0

-- what passes a test that only one passes
alike : {X : Type 0} (p : X → Bool) (e : X) (xs : List X) → AllByRecursion (λ x. p x ≡ true → x ≡ e) xs → filter p xs ≡ replicate (sum_by (passing p) xs) e
alike p e [] all = refl
alike {X} p e (x ∷ xs) all = go (p x) all.0 (alike p e xs all.1) ∙ ap (λ n. replicate n e) (sym (sum_by-cons (passing p) x xs))
  where
    go : (b : Bool) → (b ≡ true → x ≡ e) → filter p xs ≡ replicate (sum_by (passing p) xs) e → cond b (x ∷ filter p xs) (filter p xs) ≡ replicate (cond b 1 0 + sum_by (passing p) xs) e
    go true same rest = let more : suc (sum_by (passing p) xs) ≡ 1 + sum_by (passing p) xs = omega arith in (λ i. same refl i ∷ rest i) ∙ ap (λ n. replicate n e) more
    go false same rest = let none : sum_by (passing p) xs ≡ 0 + sum_by (passing p) xs = omega arith in rest ∙ ap (λ n. replicate n e) none

alike_moved : {X : Type 0} (p : X → Bool) (e : X) (xs ys : List X) → IsPermutation xs ys → AllByRecursion (λ x. p x ≡ true → x ≡ e) xs → AllByRecursion (λ x. p x ≡ true → x ≡ e) ys → filter p ys ≡ filter p xs
alike_moved p e xs ys moved all after = alike p e ys after ∙ ap (λ n. replicate n e) (sum_by-IsPermutation (passing p) xs ys moved) ∙ sym (alike p e xs all)

-- what is sorted by version and then by position keeps the order of versions that tie
module _ (versions : List Record) (version_at : ℕ → Record) where
  abbrev given : List (ℕ × Record)
  given = enumerate_from 0 versions

  abbrev in_turn : List (ℕ × Record)
  in_turn = sorted below_version given

  turn_rises : IsSortedBy below_both in_turn
  turn_rises k d low high =
      let a = get_or in_turn k d in
      let b = get_or in_turn (k + 1) d in
      let weak = ranks_by record_total (λ (p : ℕ × Record). p.1) in
      both_rise (record_cmp b.1 a.1) (record_cmp a.1 b.1) (nat_cmp b.0 a.0) (record_total.antisymm a.1 b.1) (sorted_up below_version weak given k d low high)
      (ties_stay_sorted (λ (p q : ℕ × Record). is_lt (nat_cmp p.0 q.0)) below_version (ranks_by nat_cmp_total (λ (p : ℕ × Record). p.0)) weak given in_turn (positions_rise versions) (sorted_stable below_version weak given) k d high)

  only_one : (z : ℕ × Record) (xs : List (ℕ × Record)) → All (λ (x : ℕ × Record). x.1 ≡ version_at x.0) xs → AllByRecursion (λ x. ties below_both z x ≡ true → x ≡ (z.0, version_at z.0)) xs
  only_one z xs all = recursion_from_All (λ x. ties below_both z x ≡ true → x ≡ (z.0, version_at z.0)) xs (λ k d inside tie.
      let x = get_or xs k d in
      let same : z.0 ≡ x.0 = nat_cmp-IsAntisymmetric z.0 x.0 (last_tied (record_cmp z.1 x.1) (nat_cmp z.0 x.0) (tied (by_both z x) (by_both x z) (by_both_total.antisymm x z) tie)) in
      λ i. (sym same i, (all k d inside ∙ ap version_at (sym same)) i))

  arranged_by_both : (list : List (ℕ × Record)) → All (λ (x : ℕ × Record). x.1 ≡ version_at x.0) given → IsPermutation given list → IsSortedBy below_both list → ArrangesBy by_version given list
  arranged_by_both list its moved rises =
      let weak = ranks_by record_total (λ (p : ℕ × Record). p.1) in
      let after = All-permutation (λ (x : ℕ × Record). x.1 ≡ version_at x.0) in
      let turned = sorted_same below_version given in
      let same : in_turn ≡ list = same_by_ties below_both (ranks_by by_both_total (λ (p : ℕ × Record). p)) in_turn list turn_rises rises (λ z.
      alike_moved (ties below_both z) (z.0, version_at z.0) given in_turn turned (only_one z given its) (only_one z in_turn (after given in_turn turned its))
      ∙ sym (alike_moved (ties below_both z) (z.0, version_at z.0) given list moved (only_one z given its) (only_one z list (after given list moved its)))) in
      subst (λ l. ArrangesBy by_version given l) same (record { same = turned; rises = sorted_up below_version weak given; stable = sorted_stable below_version weak given })

-- ---- the first bytes, with zeros for those that lack

abbrev AreBytes : List ℕ → Type 0
AreBytes xs = (k : ℕ) → get_or xs k 0 < 256

pub padded_bytes : (count : ℕ) (xs : List ℕ) → AreBytes xs → AreBytes (padded count xs)
padded_bytes zero xs b zero = omega arith
padded_bytes zero xs b (suc k) = omega arith
padded_bytes (suc count) [] b zero = omega arith
padded_bytes (suc count) [] b (suc k) = padded_bytes count [] b k
padded_bytes (suc count) (x ∷ xs) b zero = b 0
padded_bytes (suc count) (x ∷ xs) b (suc k) = padded_bytes count xs (λ j. b (suc j)) k

padded_length : (count : ℕ) (xs : List ℕ) → length (padded count xs) ≡ count
padded_length zero xs = refl
padded_length (suc count) [] = omega (arith, padded_length count [])
padded_length (suc count) (x ∷ xs) = omega (arith, padded_length count xs)

-- bytes of which none lacks
pub padded_whole : (count : ℕ) (xs : List ℕ) → count ≤ length xs → padded count xs ≡ take count xs
padded_whole zero xs few = refl
padded_whole (suc count) [] few = absurd (omega (arith, few))
padded_whole (suc count) (x ∷ xs) few = ap (λ l. x ∷ l) (padded_whole count xs (omega (arith, few)))

zeros_only : (count : ℕ) → padded count [] ≡ replicate count 0
zeros_only zero = refl
zeros_only (suc count) = ap (λ l. 0 ∷ l) (zeros_only count)

-- bytes of which some may lack, and zeros for those
padded_few : (count : ℕ) (xs : List ℕ) → length xs ≤ count → xs ++ drop (length xs) (replicate count 0) ≡ padded count xs
padded_few zero [] few = refl
padded_few zero (x ∷ xs) few = absurd (omega (arith, few))
padded_few (suc count) [] few = sym (zeros_only (suc count))
padded_few (suc count) (x ∷ xs) few = ap (λ l. x ∷ l) (padded_few count xs (omega (arith, few)))

take_padded : (count : ℕ) (xs : List ℕ) → take count (padded count xs) ≡ padded count xs
take_padded zero xs = refl
take_padded (suc count) [] = ap (λ l. 0 ∷ l) (take_padded count [])
take_padded (suc count) (x ∷ xs) = ap (λ l. x ∷ l) (take_padded count xs)

-- a number that is read from eight zeros, of which the first were overwritten
pub padded_read : (xs copied : List ℕ) → length xs ≤ 8 → copied ≡ xs → big_endian 0 (take 8 (copied ++ drop (length xs) (replicate 8 0))) ≡ big_endian 0 (padded 8 xs)
padded_read xs copied few same = ap (λ l. big_endian 0 (take 8 l)) (ap (λ l. l ++ drop (length xs) (replicate 8 0)) same ∙ padded_few 8 xs few) ∙ ap (big_endian 0) (take_padded 8 xs)

-- all bytes, and zeros for those that lack
padded_then : (count : ℕ) (xs : List ℕ) → padded count xs ++ drop count xs ≡ xs ++ replicate (count - length xs) 0
padded_then zero xs = let none : 0 ≡ 0 - length xs = omega arith in sym (append-nil xs) ∙ ap (λ n. xs ++ replicate n 0) none
padded_then (suc count) [] = let all : suc count ≡ suc count - 0 = omega arith in append-nil (padded (suc count) []) ∙ zeros_only (suc count) ∙ ap (λ n. replicate n 0) all
padded_then (suc count) (x ∷ xs) = let left : count - length xs ≡ suc count - length (x ∷ xs) = omega arith in ap (λ l. x ∷ l) (padded_then count xs) ∙ ap (λ n. x ∷ (xs ++ replicate n 0)) left

abbrev zeros : List ℕ → List ℕ
zeros xs = replicate (8 - length xs) 0 ++ replicate (8 - length (drop 8 xs)) 0

laid_out : (xs : List ℕ) → padded 8 xs ++ (padded 8 (drop 8 xs) ++ drop 16 xs) ≡ xs ++ zeros xs
laid_out xs =
    ap (λ l. padded 8 xs ++ (padded 8 (drop 8 xs) ++ l)) (sym (drop-drop 8 8 xs))
    ∙ ap (λ l. padded 8 xs ++ l) (padded_then 8 (drop 8 xs))
    ∙ sym (append_assoc (padded 8 xs) (drop 8 xs) (replicate (8 - length (drop 8 xs)) 0))
    ∙ ap (λ l. l ++ replicate (8 - length (drop 8 xs)) 0) (padded_then 8 xs)
    ∙ append_assoc xs (replicate (8 - length xs) 0) (replicate (8 - length (drop 8 xs)) 0)

-- bytes before others decide, if they are as many
first_decide : (xs ys us vs : List ℕ) → length xs ≡ length ys → slice_cmp nat_cmp (xs ++ us) (ys ++ vs) ≡ ordering_then (slice_cmp nat_cmp xs ys) (slice_cmp nat_cmp us vs)
first_decide [] [] us vs same = refl
first_decide [] (y ∷ ys) us vs same = absurd (omega (arith, same))
first_decide (x ∷ xs) [] us vs same = absurd (omega (arith, same))
first_decide (x ∷ xs) (y ∷ ys) us vs same =
    ap (ordering_then (nat_cmp x y)) (first_decide xs ys us vs (omega (arith, same))) ∙ sym (then_assoc (nat_cmp x y) (slice_cmp nat_cmp xs ys) (slice_cmp nat_cmp us vs))

-- ---- bytes as numbers

step : (m n x y : ℕ) (xs ys : List ℕ) → x < 256 → y < 256
    → ordering_then (nat_cmp m n) (slice_cmp nat_cmp (x ∷ xs) (y ∷ ys)) ≡ ordering_then (nat_cmp (m * 256 + x) (n * 256 + y)) (slice_cmp nat_cmp xs ys)
step m n x y xs ys p q = sym (then_assoc (nat_cmp m n) (nat_cmp x y) (slice_cmp nat_cmp xs ys)) ∙ ap (λ o. ordering_then o (slice_cmp nat_cmp xs ys)) (sym (nat_cmp_block m x n y 256 p q))

no_more : (o : Ordering) → ordering_then o Equal ≡ o
no_more Less = refl
no_more Equal = refl
no_more Greater = refl

read_all : (count m n : ℕ) (xs ys : List ℕ) → length xs ≡ count → length ys ≡ count → AreBytes xs → AreBytes ys
    → ordering_then (nat_cmp m n) (slice_cmp nat_cmp xs ys) ≡ nat_cmp (big_endian m xs) (big_endian n ys)
read_all zero m n [] [] p q b d = no_more (nat_cmp m n)
read_all zero m n [] (y ∷ ys) p q b d = absurd (omega (arith, q))
read_all zero m n (x ∷ xs) ys p q b d = absurd (omega (arith, p))
read_all (suc count) m n [] ys p q b d = absurd (omega (arith, p))
read_all (suc count) m n (x ∷ xs) [] p q b d = absurd (omega (arith, q))
read_all (suc count) m n (x ∷ xs) (y ∷ ys) p q b d =
    step m n x y xs ys (b 0) (d 0) ∙ read_all count (m * 256 + x) (n * 256 + y) xs ys (omega (arith, p)) (omega (arith, q)) (λ k. b (suc k)) (λ k. d (suc k))

dropped_bytes : (k : ℕ) (xs : List ℕ) → AreBytes xs → AreBytes (drop k xs)
dropped_bytes zero xs b = b
dropped_bytes (suc k) [] b = b
dropped_bytes (suc k) (x ∷ xs) b = dropped_bytes k xs (λ j. b (suc j))

in_one : (count : ℕ) (xs ys : List ℕ) → AreBytes xs → AreBytes ys → nat_cmp (big_endian 0 (padded count xs)) (big_endian 0 (padded count ys)) ≡ slice_cmp nat_cmp (padded count xs) (padded count ys)
in_one count xs ys b d = sym (read_all count 0 0 (padded count xs) (padded count ys) (padded_length count xs) (padded_length count ys) (padded_bytes count xs b) (padded_bytes count ys d))

-- ---- entries

abbrev bytes_of : Bor (List ℕ) → List ℕ
bytes_of s = s.now

pub entry_total : (keys : List (List ℕ)) → IsTotalOrder (entry_cmp keys)
entry_total keys =
    then_total (on_total (λ (e : Entry). e.front) nat_cmp_total)
    (then_total (on_total (λ (e : Entry). e.next) nat_cmp_total)
    (then_total (on_total (λ (e : Entry). drop 16 (key_at keys e.position)) nat_list_cmp_total) (on_total (λ (e : Entry). e.position) nat_cmp_total)))

-- keys that have no more bytes tie
pub none_follow : (a b : List ℕ) → length a ≤ 16 → length b ≤ 16 → Equal ≡ slice_cmp nat_cmp (drop 16 a) (drop 16 b)
none_follow a b few as_few = λ i. slice_cmp nat_cmp (sym (drop_of_length-le a few) i) (sym (drop_of_length-le b as_few) i)

-- keys whose versions tie have the same zeros behind them
equal_zeros : (r q : Record) → IsKeyed r → IsKeyed q → (o : Ordering) → record_cmp r q ≡ o → ordering_then o (slice_cmp nat_cmp (zeros (key_bytes r)) (zeros (key_bytes q))) ≡ o
equal_zeros r q h k Less is = refl
equal_zeros r q h k Equal is = ap (λ l. slice_cmp nat_cmp (zeros l) (zeros (key_bytes q))) ((same_keys r q h k).1 is) ∙ itself (zeros (key_bytes q))
equal_zeros r q h k Greater is = refl

by_keys : (r q : Record) (i j : ℕ) (x y : Entry) → IsKeyed r → IsKeyed q → IsEntryOf i (key_bytes r) x → IsEntryOf j (key_bytes q) y
    → ordering_then (nat_cmp x.front y.front) (ordering_then (nat_cmp x.next y.next) (slice_cmp nat_cmp (drop 16 (key_bytes r)) (drop 16 (key_bytes q)))) ≡ record_cmp r q
by_keys r q i j x y keyed_r keyed_q h k =
    let a : List ℕ = key_bytes r in
    let b : List ℕ = key_bytes q in
    let long : (xs ys : List ℕ) → length (padded 8 xs) ≡ length (padded 8 ys) = λ xs ys. padded_length 8 xs ∙ sym (padded_length 8 ys) in
    let fronts : nat_cmp x.front y.front ≡ slice_cmp nat_cmp (padded 8 a) (padded 8 b) = (λ l. nat_cmp (h.front l) (k.front l)) ∙ in_one 8 a b h.bytes k.bytes in
    let nexts : nat_cmp x.next y.next ≡ slice_cmp nat_cmp (padded 8 (drop 8 a)) (padded 8 (drop 8 b)) =
    (λ l. nat_cmp (h.next l) (k.next l)) ∙ in_one 8 (drop 8 a) (drop 8 b) (dropped_bytes 8 a h.bytes) (dropped_bytes 8 b k.bytes) in
    (λ l. ordering_then (fronts l) (ordering_then (nexts l) (slice_cmp nat_cmp (drop 16 a) (drop 16 b))))
    ∙ ap (ordering_then (slice_cmp nat_cmp (padded 8 a) (padded 8 b))) (sym (first_decide (padded 8 (drop 8 a)) (padded 8 (drop 8 b)) (drop 16 a) (drop 16 b) (long (drop 8 a) (drop 8 b))))
    ∙ sym (first_decide (padded 8 a) (padded 8 b) (padded 8 (drop 8 a) ++ drop 16 a) (padded 8 (drop 8 b) ++ drop 16 b) (long a b))
    ∙ (λ l. slice_cmp nat_cmp (laid_out a l) (laid_out b l))
    ∙ followed_in_order r q keyed_r keyed_q (zeros a) (zeros b)
    ∙ equal_zeros r q keyed_r keyed_q (record_cmp r q) refl

-- one more entry
entries_push : (n : ℕ) (keys : List (List ℕ)) (entries : List Entry) (key : List ℕ) (e : Entry) → IsEntryOf (n + length keys) key e → HasEntries n keys entries → HasEntries n (keys ++ key ∷ []) (entries ++ e ∷ [])
entries_push n [] [] key e is all = (subst (λ k. IsEntryOf k key e) (omega arith) is, tt)
entries_push n [] (x ∷ entries) key e is all = absurd all
entries_push n (k ∷ keys) [] key e is all = absurd all
entries_push n (k ∷ keys) (x ∷ entries) key e is all = (all.0, entries_push (n + 1) keys entries key e (subst (λ m. IsEntryOf m key e) (omega arith) is) all.1)

pub entries_more : (keys : List (Bor (List ℕ))) (i : ℕ) (x : Bor (List ℕ)) (entries new : List Entry) (e : Entry) → i < length keys → IsEntryOf i (get_or keys i x).now e → new ≡ entries ++ e ∷ []
    → HasEntries 0 (map (λ k. k.now) (take i keys)) entries → HasEntries 0 (map (λ k. k.now) (take (i + 1) keys)) new
entries_more keys i x entries new e inside is more all =
    let long : length (map bytes_of (take i keys)) ≡ i = length-map (take i keys) bytes_of ∙ length-take-le i keys (omega (arith, inside)) in
    let seen : map bytes_of (take (i + 1) keys) ≡ map bytes_of (take i keys) ++ bytes_of (get_or keys i x) ∷ [] =
    ap (map bytes_of) (take_more keys i x inside) ∙ map-append bytes_of (take i keys) (get_or keys i x ∷ []) in
    subst (λ l. HasEntries 0 l new) (sym seen) (subst (λ l. HasEntries 0 (map bytes_of (take i keys) ++ bytes_of (get_or keys i x) ∷ []) l) (sym more)
    (entries_push 0 (map bytes_of (take i keys)) entries (bytes_of (get_or keys i x)) e (subst (λ m. IsEntryOf m (bytes_of (get_or keys i x)) e) (omega (arith, long)) is) all))

seam : {A : Type 0} (front : List A) (x : A) (rest : List A) (d : A) → get_or (front ++ x ∷ rest) (length front) d ≡ x
seam [] x rest d = refl
seam (y ∷ front) x rest d = seam front x rest d

module _ (versions : List Record) where
  abbrev unversioned : Record
  unversioned = from_parts 0 [] None None None []

  abbrev version_at : ℕ → Record
  version_at position = get_or versions position unversioned

  abbrev with_version : Entry → ℕ × Record
  with_version e = (e.position, version_at e.position)

  abbrev keys : List (List ℕ)
  keys = map key_bytes versions

  -- the entry is that of a version's key
  abbrev HasVersion : Entry → Type 0
  HasVersion e = IsEntryOf e.position (key_bytes (version_at e.position)) e × (key_at keys e.position ≡ key_bytes (version_at e.position)) × IsParsed (version_at e.position)

  laid : (n : ℕ) (front rest : List Record) (entries : List Entry) → length front ≡ n → versions ≡ front ++ rest → AllByRecursion IsParsed rest → HasEntries n (map key_bytes rest) entries
      → (map with_version entries ≡ enumerate_from n rest) × AllByRecursion HasVersion entries
  laid n front [] [] long whole parsed all = (refl, tt)
  laid n front [] (e ∷ entries) long whole parsed all = absurd all
  laid n front (v ∷ rest) [] long whole parsed all = absurd all
  laid n front (v ∷ rest) (e ∷ entries) long whole parsed all =
      let at : e.position ≡ n = all.0.position in
      let here : version_at e.position ≡ v = (λ i. get_or (whole i) ((at ∙ sym long) i) unversioned) ∙ seam front v rest unversioned in
      let inside : e.position < length versions = omega (arith, at, long, ap length whole, length-append front (v ∷ rest)) in
      let longer : length (front ++ v ∷ []) ≡ n + 1 = omega (arith, long, length-append front (v ∷ [])) in
      let more = laid (n + 1) (front ++ v ∷ []) rest entries longer (whole ∙ sym (append_assoc front (v ∷ []) rest)) parsed.1 all.1 in (
        λ i. (at i, here i) ∷ more.0 i,
        (
          (
            subst (λ k. IsEntryOf k (key_bytes (version_at e.position)) e) (sym at) (subst (λ r. IsEntryOf n (key_bytes r) e) (sym here) all.0),
            get_or-map key_bytes versions e.position unversioned [] inside,
            subst IsParsed (sym here) parsed.0,
          ),
          more.1,
        ),
      )

  same_order : (x y : Entry) → HasVersion x → HasVersion y → is_lt (entry_cmp keys x y) ≡ is_lt (by_both (with_version x) (with_version y))
  same_order x y h k =
      let position = nat_cmp x.position y.position in
      let rest = slice_cmp nat_cmp (drop 16 (key_bytes (version_at x.position))) (drop 16 (key_bytes (version_at y.position))) in
      ap is_lt ((λ i. ordering_then (nat_cmp x.front y.front) (ordering_then (nat_cmp x.next y.next) (ordering_then (slice_cmp nat_cmp (drop 16 (h.1 i)) (drop 16 (k.1 i))) position)))
      ∙ ap (ordering_then (nat_cmp x.front y.front)) (sym (then_assoc (nat_cmp x.next y.next) rest position))
      ∙ sym (then_assoc (nat_cmp x.front y.front) (ordering_then (nat_cmp x.next y.next) rest) position)
      ∙ ap (λ o. ordering_then o position) (by_keys (version_at x.position) (version_at y.position) x.position y.position x y (keyed (version_at x.position) h.2) (keyed (version_at y.position) k.2) h.0 k.0))

  positions_same : (entries : List Entry) → map (λ (e : Entry). e.position) entries ≡ map (λ (p : ℕ × Record). p.0) (map with_version entries)
  positions_same [] = refl
  positions_same (e ∷ entries) = ap (λ l. e.position ∷ l) (positions_same entries)

  its_versions : (entries : List Entry) → AllByRecursion (λ (x : ℕ × Record). x.1 ≡ version_at x.0) (map with_version entries)
  its_versions [] = tt
  its_versions (e ∷ entries) = (refl, its_versions entries)

  arranged : (given sorted : List Entry) (places : List ℕ) → All IsParsed versions → HasEntries 0 keys given → IsPermutation given sorted → IsSortedBy (λ x y. is_lt (entry_cmp keys x y)) sorted
      → places ≡ map (λ (e : Entry). e.position) sorted → ArrangesPositions (enumerate_from 0 versions) places
  arranged given sorted places parsed entries moved rises is =
      let lay = laid 0 [] versions given refl refl (recursion_from_All IsParsed versions parsed) entries in
      let all = All-from_recursion HasVersion given lay.1 in (
        map with_version sorted,
        arranged_by_both versions version_at (map with_version sorted)
            (subst (λ l. All (λ (x : ℕ × Record). x.1 ≡ version_at x.0) l) lay.0 (All-from_recursion (λ (x : ℕ × Record). x.1 ≡ version_at x.0) (map with_version given) (its_versions given)))
            (subst (λ l. IsPermutation l (map with_version sorted)) lay.0 (IsPermutation-map with_version given sorted moved))
            (rises_mapped with_version (λ x y. is_lt (entry_cmp keys x y)) by_both HasVersion same_order sorted (All-permutation HasVersion given sorted moved all) rises),
        is ∙ positions_same sorted,
      )

  -- the positions, where memory was found for them
  pub arranged_if : {V E : Type 0} (given_keys : List (List ℕ)) → given_keys ≡ keys → (view : V → List ℕ) (given sorted : List Entry) (result : Result V E) → All IsParsed versions → HasEntries 0 given_keys given
      → IsPermutation given sorted → IsSortedBy (λ x y. is_lt (entry_cmp given_keys x y)) sorted
      → (slice : List Entry) → slice ≡ sorted → IfOk result (λ found. view found ≡ map (λ (e : Entry). e.position) slice)
      → IfOk result (λ found. ArrangesPositions (enumerate_from 0 versions) (view found))
  arranged_if given_keys same view entries sorted (Ok found) parsed laid_keys moved rises slice is told =
      arranged entries sorted (view found) parsed (subst (λ k. HasEntries 0 k entries) same laid_keys) moved
      (subst (λ k. IsSortedBy (λ x y. is_lt (entry_cmp k x y)) sorted) same rises)
      (told ∙ ap (map (λ (e : Entry). e.position)) is)
  arranged_if given_keys same view entries sorted (Err f) parsed laid_keys moved rises slice is told = tt

-- ---- joined strings, one after the other

-- those that were found, and those that are left
pub record IsSplit (strings : List (List ℕ)) (found : List (Bor (List ℕ))) (left : List ℕ) (start : ℕ) (ends : List ℕ) : Type 0 where
  pub rest : List (List ℕ)
  pub all : map bytes_of found ++ rest ≡ strings
  pub bytes : left ≡ flat_map (λ s. s) rest
  pub ended : ends ≡ ends_from start rest

pub split_begun : (strings : List (List ℕ)) (bytes ends : List ℕ) → Joins strings bytes ends → IsSplit strings [] bytes 0 ends
split_begun strings bytes ends joins = record { rest = strings; all = refl; bytes = joins.joined; ended = joins.ended }

-- the first that is left
pub record IsNext (strings : List (List ℕ)) (found : List (Bor (List ℕ))) (left : List ℕ) (start end : ℕ) (later : List ℕ) : Type 0 where
  pub string : List ℕ
  pub more : List (List ℕ)
  pub all : map bytes_of found ++ string ∷ more ≡ strings
  pub bytes : left ≡ string ++ flat_map (λ s. s) more
  pub end_is : end ≡ start + length string
  pub ended : later ≡ ends_from end more

pub next_of : (strings : List (List ℕ)) (found : List (Bor (List ℕ))) (left : List ℕ) (start end : ℕ) (later : List ℕ) → IsSplit strings found left start (end ∷ later) → IsNext strings found left start end later
next_of strings found left start end later at = go at.rest at.all at.bytes at.ended
  where
    go : (rest : List (List ℕ)) → map bytes_of found ++ rest ≡ strings → left ≡ flat_map (λ s. s) rest → end ∷ later ≡ ends_from start rest → IsNext strings found left start end later
    go [] all bytes ended = absurd (omega (arith, ap length ended))
    go (s ∷ more) all bytes ended =
        let end_is : end ≡ start + length s = ap (λ l. get_or l 0 0) ended in
        record { string = s; more = more; all = all; bytes = bytes; end_is = end_is; ended = ap (drop 1) ended ∙ ap (λ n. ends_from n more) (sym end_is) }

pub next_fits : (strings : List (List ℕ)) (found : List (Bor (List ℕ))) (left : List ℕ) (start end : ℕ) (later : List ℕ) → IsNext strings found left start end later → (start ≤ end) × (end - start ≤ length left)
next_fits strings found left start end later n = (omega (arith, n.end_is), omega (arith, n.end_is, ap length n.bytes, length-append n.string (flat_map (λ s. s) n.more)))

pub split_more : (strings : List (List ℕ)) (found new : List (Bor (List ℕ))) (left rest : List ℕ) (start end : ℕ) (later : List ℕ) (s : Bor (List ℕ)) → IsNext strings found left start end later
    → s.now ≡ take (end - start) left → rest ≡ drop (end - start) left → new ≡ found ++ s ∷ [] → IsSplit strings new rest end later
split_more strings found new left rest start end later s n front back more =
    let count : end - start ≡ length n.string = omega (arith, n.end_is) in
    let here : s.now ≡ n.string = front ∙ (λ i. take (count i) (n.bytes i)) ∙ take-append_seam n.string (flat_map (λ t. t) n.more) in
    record {
      rest = n.more;
      all = (λ i. map bytes_of (more i) ++ n.more) ∙ ap (λ l. l ++ n.more) (map-append bytes_of found (s ∷ [])) ∙ append_assoc (map bytes_of found) (s.now ∷ []) n.more
          ∙ (λ i. map bytes_of found ++ here i ∷ n.more) ∙ n.all;
      bytes = back ∙ (λ i. drop (count i) (n.bytes i)) ∙ drop-append_seam n.string (flat_map (λ t. t) n.more);
      ended = n.ended;
    }

pub split_done : (strings : List (List ℕ)) (found : List (Bor (List ℕ))) (left : List ℕ) (start : ℕ) (ends : List ℕ) → length ends ≡ 0 → IsSplit strings found left start ends → map bytes_of found ≡ strings
split_done strings found left start ends none at = go at.rest at.all at.ended
  where
    go : (rest : List (List ℕ)) → map bytes_of found ++ rest ≡ strings → ends ≡ ends_from start rest → map bytes_of found ≡ strings
    go [] all ended = sym (append-nil _) ∙ all
    go (s ∷ more) all ended = absurd (omega (arith, none, ap length ended))
