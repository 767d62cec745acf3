-- Lists: the fold of intersections holds what each member's range holds.
use Rattle.std.proofs.Common.{◌≡◌, ℕ, zero, suc, ◌+◌, ◌≤◌, ◌<◌, Bool, true, false, ◌&&◌, List, [], ◌∷◌, length, Option, Some, None, Result, Ok, Err, option_and_then, cond, slice_index_or, refl, sym, ap, subst, ◌∙◌, arith}
use Rattle.std.proofs.lemmas.List.Elements.{All-tail}
use Rattle.std.proofs.lemmas.List.Sums.{sum_by-append}
use Rattle.std.specs.List.{All, Any, list_all}
use Rattle.std.specs.Option.{option_map_or}
use Rattle.std.specs.Prelude.{IfOk, count_by}
use Rattle.pep440_rs.specs.Agreement.{HasOperand, IsCandidate, IsReleaseComparable, ListAgrees, ConversionsAreRanges, ConversionsHaveFewSegments, HoldsInEach, HasFewSegments, FailsByAMember}
use Rattle.pep440_rs.specs.Operators.{is_exclusion}
use Rattle.pep440_rs.specs.Bounds.{Segments, range_of, release_range_of, range_from, list_range, full}
use Rattle.pep440_rs.specs.Matching.{matches, list_matches}
use Rattle.pep440_rs.specs.Specifiers.{Spec}
use Rattle.pep440_rs.specs.declared.specifier.operator.Operator.{Operator}
use Rattle.pep440_rs.specs.declared.range.error.RangeError.{RangeError}
use Rattle.pep440_ranges.proofs.Laws.{overlaps_are_range, overlaps_hold_both, overlaps_are_few}
use Rattle.pep440_ranges.specs.Intersection.{overlaps}
use Rattle.pep440_ranges.specs.RangeSegments.{contains, IsRange}
use Rattle.pep440_version.specs.Key.{record_cmp}
use Rattle.pep440_version.specs.Key.KeyLaws.{record_total}
use Rattle.pep440_version.specs.Record.{Record}
use Rattle.pep440_rs.proofs.Agreement.Prefix.{some_is}
use Rattle.pep440_rs.proofs.Agreement.Releases.{release_agrees}
use Rattle.pep440_rs.proofs.Agreement.Single.{agrees}

-- v lies in the range of a member, which isn't refused
abbrev pub is_held : Option Segments → Record → Bool
is_held range v = option_map_or (λ r. contains record_cmp r v) range false

abbrev exclusions : List Spec → ℕ
exclusions members = count_by (λ m. is_exclusion m.operator) members

-- what follows a member's range, where it has one
pub bound : {A B : Type 0} (f : A → Option B) (o : Option A) (b : B) → option_and_then f o ≡ Some b → (a : A) × (o ≡ Some a) × (f a ≡ Some b)
bound f None b e = cc
bound f (Some a) b e = (a, refl, e)

some_none : {A : Type 0} (x : A) → Some x ≡ None → ⊥
some_none x h = cc

and_assoc : (a b c : Bool) → (a && b) && c ≡ a && (b && c)
and_assoc true b c = refl
and_assoc false b c = refl

module _ (conversion : Operator → Record → Option Segments) where
  holds_from : (now : Segments) (members : List Spec) (range : Segments) → range_from conversion now members ≡ Some range →
      (v : Record) → contains record_cmp range v ≡ contains record_cmp now v && list_all (λ m. is_held (conversion m.operator m.version) v) members
  holds_from now [] range h v = ap (λ r. contains record_cmp r v) (some_is now range h) ∙ and_true (contains record_cmp now v)
    where
      and_true : (b : Bool) → b ≡ b && true
      and_true true = refl
      and_true false = refl
  holds_from now (m ∷ members) range h v =
      let b = bound (λ r. range_from conversion (overlaps record_cmp now r) members) (conversion m.operator m.version) range h in
      holds_from (overlaps record_cmp now b.0) members range b.2 v
      ∙ ap (λ x. x && list_all (λ m. is_held (conversion m.operator m.version) v) members) (overlaps_hold_both record_total now b.0 v)
      ∙ and_assoc (contains record_cmp now v) (contains record_cmp b.0 v) _
      ∙ ap (λ o. contains record_cmp now v && (is_held o v && list_all (λ m. is_held (conversion m.operator m.version) v) members)) (sym b.1)

  pub holds_in_each : (members : List Spec) (range : Segments) → list_range conversion members ≡ Some range → HoldsInEach conversion members range
  holds_in_each members range h v = holds_from full members range h v

  -- where each member's range agrees with matching, so does the list's
  agrees_each : (Comparable : Spec → Type 0) (v : Record) →
      ((op : Operator) (s : Record) (range : Segments) → conversion op s ≡ Some range → Comparable (record { operator = op; version = s }) → contains record_cmp range v ≡ matches op s v) →
      (now : Segments) (members : List Spec) (range : Segments) → range_from conversion now members ≡ Some range → All Comparable members →
      list_all (λ m. is_held (conversion m.operator m.version) v) members ≡ list_matches members v
  agrees_each Comparable v single now [] range h all = refl
  agrees_each Comparable v single now (m ∷ members) range h all =
      let b = bound (λ r. range_from conversion (overlaps record_cmp now r) members) (conversion m.operator m.version) range h in
      ap (λ o. is_held o v && list_all (λ m. is_held (conversion m.operator m.version) v) members) b.1
      ∙ ap (λ x. x && list_all (λ m. is_held (conversion m.operator m.version) v) members) (single m.operator m.version b.0 b.1 (all 0 m (omega arith)))
      ∙ ap (λ x. matches m.operator m.version v && x) (agrees_each Comparable v single (overlaps record_cmp now b.0) members range b.2 (All-tail Comparable m members all))

  counted : (m : Spec) (members : List Spec) → exclusions (m ∷ members) ≡ cond (is_exclusion m.operator) 1 0 + exclusions members
  counted m members = sum_by-append (λ x. cond (is_exclusion x.operator) 1 0) (m ∷ []) members ∙ ap (λ n. n + exclusions members) (from_zero (cond (is_exclusion m.operator) 1 0))
    where
      from_zero : (n : ℕ) → 0 + n ≡ n
      from_zero n = omega arith

  one_more : (b : Bool) → cond b 2 1 ≡ 1 + cond b 1 0
  one_more true = refl
  one_more false = refl

  few_from : ConversionsAreRanges conversion → ConversionsHaveFewSegments conversion → (now : Segments) (members : List Spec) (range : Segments) → IsRange record_cmp now →
      range_from conversion now members ≡ Some range → length range ≤ length now + exclusions members
  few_from apart few now [] range k h = rw (some_is now range h) (omega arith)
  few_from apart few now (m ∷ members) range k h =
      let b = bound (λ r. range_from conversion (overlaps record_cmp now r) members) (conversion m.operator m.version) range h in
      let valid = apart m.operator m.version b.0 b.1 in
      let rest = few_from apart few (overlaps record_cmp now b.0) members range (overlaps_are_range record_total now b.0 k valid) b.2 in
      omega (arith, rest, overlaps_are_few record_total now b.0 k valid, few m.operator m.version b.0 b.1, one_more (is_exclusion m.operator), counted m members)

  pub has_few_segments : ConversionsAreRanges conversion → ConversionsHaveFewSegments conversion → (members : List Spec) (range : Segments) → list_range conversion members ≡ Some range → HasFewSegments members range
  has_few_segments apart few members range h = few_from apart few full members range (refl, tt) h

  -- the range so far makes no difference to a refusal
  refused_some : (now : Segments) (members : List Spec) → range_from conversion now members ≡ None → Any (λ m. conversion m.operator m.version ≡ None) members
  refused_some now [] h = absurd (some_none now h)
  refused_some now (m ∷ members) h = go (conversion m.operator m.version) refl h (λ r e. refused_some (overlaps record_cmp now r) members e)
    where
      go : (o : Option Segments) → conversion m.operator m.version ≡ o → option_and_then (λ r. range_from conversion (overlaps record_cmp now r) members) o ≡ None →
          ((r : Segments) → range_from conversion (overlaps record_cmp now r) members ≡ None → Any (λ m. conversion m.operator m.version ≡ None) members) →
          Any (λ m. conversion m.operator m.version ≡ None) (m ∷ members)
      go None e h rest = (0, m, omega arith, refl, e)
      go (Some r) e h rest = let a = rest r h in (suc a.0, a.1, omega (arith, a.2), a.3, a.4)

  some_refused : (now : Segments) (members : List Spec) → Any (λ m. conversion m.operator m.version ≡ None) members → range_from conversion now members ≡ None
  some_refused now [] a = absurd (omega (arith, a.2))
  some_refused now (m ∷ members) a = go (conversion m.operator m.version) refl a.0 a.2 a.3 (λ r b. some_refused (overlaps record_cmp now r) members b)
    where
      go : (o : Option Segments) → conversion m.operator m.version ≡ o → (k : ℕ) → k < length (m ∷ members) → slice_index_or (m ∷ members) k a.1 ≡ a.1 →
          ((r : Segments) → Any (λ m. conversion m.operator m.version ≡ None) members → range_from conversion (overlaps record_cmp now r) members ≡ None) →
          option_and_then (λ r. range_from conversion (overlaps record_cmp now r) members) o ≡ None
      go None e k l i rest = refl
      go (Some r) e zero l i rest = absurd (some_none r (sym e ∙ ap (λ (x : Spec). conversion x.operator x.version) i ∙ a.4))
      go (Some r) e (suc k) l i rest = rest r (k, a.1, omega (arith, l), i, a.4)

  pub refused_by_a_member : (members : List Spec) → FailsByAMember conversion members
  refused_by_a_member members = (refused_some full members, some_refused full members)

-- what follows from being the list's range, as a call answers it; given are the members as they were taken out
pub each_range : (conversion : Operator → Record → Option Segments) (members given : List Spec) → given ≡ members → (result : Result Segments RangeError) (P : Segments → Type 0) →
    ((range : Segments) → list_range conversion members ≡ Some range → P range) → IfOk result (λ r. list_range conversion given ≡ Some r) → IfOk result P
each_range conversion members given same (Ok range) P all is = all range (subst (λ m. list_range conversion m ≡ Some range) same is)
each_range conversion members given same (Err e) P all is = tt

pub list_agrees : (members : List Spec) (range : Segments) → list_range range_of members ≡ Some range → All HasOperand members → ListAgrees IsCandidate members range
list_agrees members range h given v all =
    holds_in_each range_of members range h v
    ∙ agrees_each range_of (λ m. HasOperand m × IsCandidate m v) v (λ op s r e p. agrees (record { operator = op; version = s }) r e p.0 v p.1) full members range h
    (λ k m lt. (given k m lt, all k m lt))

pub release_list_agrees : (members : List Spec) (range : Segments) → list_range release_range_of members ≡ Some range → ListAgrees IsReleaseComparable members range
release_list_agrees members range h v all =
    holds_in_each release_range_of members range h v
    ∙ agrees_each release_range_of (λ m. IsReleaseComparable m v) v (λ op s r e p. release_agrees (record { operator = op; version = s }) r e v p) full members range h all
