-- Versions, and those of their first two numbers.
use Rattle.std.proofs.Common.{◌≡◌, ◌∙◌, ◌==◌, ◌&&◌, ◌||◌, ◌-◌, ◌<◌, ◌≤◌, ℕ, List, [], ◌∷◌, Bool, true, false, not, Option, Some, None, ap, arith, drop, get_or, length, refl, subst, sym, take}
use Rattle.std.proofs.lemmas.Bool.Decides.{nat_tests}
use Rattle.std.proofs.lemmas.Bool.{and_from, and_parts, false_from_ne_true, true≢false}
use Rattle.std.proofs.lemmas.List.Elements.{All-cons, All-head, All-nil, All-tail}
use Rattle.std.specs.List.{All}
use Rattle.std.specs.Ordering.{is_eq, is_ge, is_gt, is_le, is_lt, nat_cmp, on, ordering_then, then_cmp}
use Rattle.std.specs.Prelude.{codes, if◌then◌else◌, is_some, map}
use Rattle.std.specs.declared.cmp.Ordering.{Ordering}
use Rattle.std.specs.declared.cmp.Ordering.TheVariants as order
use Rattle.pep440_ranges.specs.RangeSegments.{contains}
use Rattle.pep440_rs.specs.Bounds.{Segments}
use Rattle.pep440_rs.specs.Denoted.{IsDenotable, IsDenoted}
use Rattle.pep440_rs.specs.LiteralMatching.{is_before, is_postrelease_of, is_prerelease_of, matches_literally, same_pre}
use Rattle.pep440_rs.specs.Matching.{any_prerelease, begins_with, candidate, has_local, has_prefix, same_release, without_last}
use Rattle.pep440_rs.specs.Specifiers.{Spec}
use Rattle.pep440_rs.specs.declared.specifier.operator.Operator.{Operator}
use Rattle.pep440_rs.specs.declared.specifier.operator.Operator.TheVariants.{Equal, EqualStar, ExactEqual, NotEqual, NotEqualStar, TildeEqual, LessThan, LessThanEqual, GreaterThan, GreaterThanEqual}
use Rattle.pep440_sets.proofs.Lists.{parsed_denoted}
use Rattle.pep440_sets.proofs.Parsed.{parts_parsed}
use Rattle.pep440_sets.proofs.SetBoundaries.{denoted_parsed}
use Rattle.pep440_sets.specs.Emptiness.{HasNoVersion}
use Rattle.pep440_sets.specs.Sets.{is_exact}
use Rattle.pep440_version.specs.Key.{Key, dev_rank, key, local_cmp, post_rank, rank_cmp, record_cmp, release_cmp, stage_rank}
use Rattle.pep440_version.specs.Record.{Fits, Record, epoch_and_release}
use Rattle.pyver_markers.proofs.BoxLaws.{first_and_rest}
use Rattle.pyver_markers.proofs.Versions.{is_denoted, met_so, unwanted_so, wanted_so}
use Rattle.pyver_markers.specs.Boxes.{Box, Condition, in_box, meets}
use Rattle.pyver_markers.specs.Conditions.{ComparesAs, HasAllowed, HasPython, HoldsMatchesOf, HoldsShortMatchesOf, HoldsShortMet, HoldsVersionsOf, IsAllowed, NarrowsByAllShort, NarrowsByShort, first_two, setting_version, short_version}
use Rattle.pyver_markers.specs.Environments.{Environment, Text}
use Rattle.pyver_markers.specs.MarkerComparisons.{ascii_version, compare, compare_left, is_version_variable}

-- ---- the first numbers

-- two versions by their epochs and the first two numbers of each
abbrev front_cmp : Record → Record → Ordering
front_cmp v s = ordering_then (nat_cmp v.epoch s.epoch) (ordering_then (nat_cmp (get_or v.release 0 0) (get_or s.release 0 0)) (nat_cmp (get_or v.release 1 0) (get_or s.release 1 0)))

first_two_is : (r : List ℕ) → first_two r ≡ get_or r 0 0 ∷ get_or r 1 0 ∷ []
first_two_is [] = refl
first_two_is (a ∷ []) = refl
first_two_is (a ∷ b ∷ rest) = refl

first_of_two : (r : List ℕ) → get_or (first_two r) 0 0 ≡ get_or r 0 0
first_of_two [] = refl
first_of_two (a ∷ []) = refl
first_of_two (a ∷ b ∷ rest) = refl

second_of_two : (r : List ℕ) → get_or (first_two r) 1 0 ≡ get_or r 1 0
second_of_two [] = refl
second_of_two (a ∷ []) = refl
second_of_two (a ∷ b ∷ rest) = refl

same_front : (w s : Record) → front_cmp (short_version w) s ≡ front_cmp w s
same_front w s =
    ap (λ n. ordering_then (nat_cmp w.epoch s.epoch) (ordering_then (nat_cmp n (get_or s.release 0 0)) (nat_cmp (get_or (first_two w.release) 1 0) (get_or s.release 1 0)))) (first_of_two w.release)
    ∙ ap (λ n. ordering_then (nat_cmp w.epoch s.epoch) (ordering_then (nat_cmp (get_or w.release 0 0) (get_or s.release 0 0)) (nat_cmp n (get_or s.release 1 0)))) (second_of_two w.release)

release_steps : (r q : List ℕ) → release_cmp r q ≡ ordering_then (nat_cmp (get_or r 0 0) (get_or q 0 0)) (ordering_then (nat_cmp (get_or r 1 0) (get_or q 1 0)) (release_cmp (drop 2 r) (drop 2 q)))
release_steps [] [] = refl
release_steps [] (c ∷ []) = refl
release_steps [] (c ∷ d ∷ q) = refl
release_steps (a ∷ []) [] = refl
release_steps (a ∷ []) (c ∷ []) = refl
release_steps (a ∷ []) (c ∷ d ∷ q) = refl
release_steps (a ∷ b ∷ r) [] = refl
release_steps (a ∷ b ∷ r) (c ∷ []) = refl
release_steps (a ∷ b ∷ r) (c ∷ d ∷ q) = refl

begins_steps : (r : List ℕ) (c d : ℕ) (q : List ℕ) → begins_with r (c ∷ d ∷ q) ≡ ((get_or r 0 0 == c) && ((get_or r 1 0 == d) && begins_with (drop 2 r) q))
begins_steps [] c d q = refl
begins_steps (a ∷ []) c d q = refl
begins_steps (a ∷ b ∷ r) c d q = refl

-- ---- orders

equal_is : (a b : ℕ) → (a == b) ≡ is_eq (nat_cmp a b)
equal_is a b = grind (arith, nat_tests)

equal_numbers : (a b : ℕ) → is_eq (nat_cmp a b) ≡ true → a ≡ b
equal_numbers a b is = grind (arith, nat_tests)

then_decides : (a b c t z : Ordering) → is_eq (ordering_then a (ordering_then b c)) ≡ false → ordering_then a (ordering_then (ordering_then b (ordering_then c t)) z) ≡ ordering_then a (ordering_then b c)
then_decides order.Less b c t z is = refl
then_decides order.Greater b c t z is = refl
then_decides order.Equal order.Less c t z is = refl
then_decides order.Equal order.Greater c t z is = refl
then_decides order.Equal order.Equal order.Less t z is = refl
then_decides order.Equal order.Equal order.Greater t z is = refl
then_decides order.Equal order.Equal order.Equal t z is = absurd (true≢false is)

then_differs : (a b c t : Ordering) → is_eq (ordering_then a (ordering_then b c)) ≡ false → (is_eq a && is_eq (ordering_then b (ordering_then c t))) ≡ false
then_differs order.Less b c t is = refl
then_differs order.Greater b c t is = refl
then_differs order.Equal order.Less c t is = refl
then_differs order.Equal order.Greater c t is = refl
then_differs order.Equal order.Equal order.Less t is = refl
then_differs order.Equal order.Equal order.Greater t is = refl
then_differs order.Equal order.Equal order.Equal t is = absurd (true≢false is)

each_equal : (a b c : Ordering) (x : Bool) → (is_eq a && (is_eq b && (is_eq c && x))) ≡ (is_eq (ordering_then a (ordering_then b c)) && x)
each_equal order.Less b c x = refl
each_equal order.Greater b c x = refl
each_equal order.Equal order.Less c x = refl
each_equal order.Equal order.Greater c x = refl
each_equal order.Equal order.Equal order.Less x = refl
each_equal order.Equal order.Equal order.Greater x = refl
each_equal order.Equal order.Equal order.Equal x = refl

all_equal : (a b c : Ordering) → is_eq (ordering_then a (ordering_then b c)) ≡ true → (is_eq a ≡ true) × (is_eq b ≡ true) × (is_eq c ≡ true)
all_equal order.Less b c is = absurd (true≢false (sym is))
all_equal order.Greater b c is = absurd (true≢false (sym is))
all_equal order.Equal order.Less c is = absurd (true≢false (sym is))
all_equal order.Equal order.Greater c is = absurd (true≢false (sym is))
all_equal order.Equal order.Equal order.Less is = absurd (true≢false (sym is))
all_equal order.Equal order.Equal order.Greater is = absurd (true≢false (sym is))
all_equal order.Equal order.Equal order.Equal is = (refl, refl, refl)

-- ---- versions of other first numbers

-- the version begins with three such numbers exactly if the fronts are equal and the rest follows
prefix_is : (s w : Record) (c d : ℕ) (q : List ℕ) → get_or s.release 0 0 ≡ c → get_or s.release 1 0 ≡ d
    → has_prefix s (c ∷ d ∷ q) w ≡ (is_eq (front_cmp w s) && begins_with (drop 2 w.release) q)
prefix_is s w c d q first second =
    ap (λ b. (w.epoch == s.epoch) && b) (begins_steps w.release c d q)
    ∙ ap (λ n. (w.epoch == s.epoch) && ((get_or w.release 0 0 == n) && ((get_or w.release 1 0 == d) && begins_with (drop 2 w.release) q))) (sym first)
    ∙ ap (λ n. (w.epoch == s.epoch) && ((get_or w.release 0 0 == get_or s.release 0 0) && ((get_or w.release 1 0 == n) && begins_with (drop 2 w.release) q))) (sym second)
    ∙ ap (λ b. b && ((get_or w.release 0 0 == get_or s.release 0 0) && ((get_or w.release 1 0 == get_or s.release 1 0) && begins_with (drop 2 w.release) q))) (equal_is w.epoch s.epoch)
    ∙ ap (λ b. is_eq (nat_cmp w.epoch s.epoch) && (b && ((get_or w.release 1 0 == get_or s.release 1 0) && begins_with (drop 2 w.release) q))) (equal_is (get_or w.release 0 0) (get_or s.release 0 0))
    ∙ ap (λ b. is_eq (nat_cmp w.epoch s.epoch) && (is_eq (nat_cmp (get_or w.release 0 0) (get_or s.release 0 0)) && (b && begins_with (drop 2 w.release) q))) (equal_is (get_or w.release 1 0) (get_or s.release 1 0))
    ∙ each_equal (nat_cmp w.epoch s.epoch) (nat_cmp (get_or w.release 0 0) (get_or s.release 0 0)) (nat_cmp (get_or w.release 1 0) (get_or s.release 1 0)) (begins_with (drop 2 w.release) q)

-- two versions by what follows their releases
abbrev tail_cmp : Record → Record → Ordering
tail_cmp x y = then_cmp (on (λ (k : Key). stage_rank k.stage) rank_cmp) (then_cmp (on (λ (k : Key). post_rank k.post) rank_cmp)
    (then_cmp (on (λ (k : Key). dev_rank k.dev) rank_cmp) (on (λ (k : Key). k.local) local_cmp))) (key x) (key y)

-- the order of versions is that of their fronts
decided : (x y : Record) → is_eq (front_cmp x y) ≡ false → record_cmp x y ≡ front_cmp x y
decided x y differ =
    ap (λ r. ordering_then (nat_cmp x.epoch y.epoch) (ordering_then r (tail_cmp x y))) (release_steps x.release y.release)
    ∙ then_decides (nat_cmp x.epoch y.epoch) (nat_cmp (get_or x.release 0 0) (get_or y.release 0 0)) (nat_cmp (get_or x.release 1 0) (get_or y.release 1 0)) (release_cmp (drop 2 x.release) (drop 2 y.release)) (tail_cmp x y) differ

candidate_decided : (s w : Record) → is_eq (front_cmp w s) ≡ false → record_cmp (candidate s w) s ≡ front_cmp w s
candidate_decided s w differ = by_local (has_local s)
  where
    by_local : (b : Bool) → record_cmp (if b then w else record w { local = [] }) s ≡ front_cmp w s
    by_local true = decided w s differ
    by_local false = decided (record w { local = [] }) s differ

other_release : (s w : Record) → is_eq (front_cmp w s) ≡ false → same_release s w ≡ false
other_release s w differ =
    ap (λ b. b && is_eq (release_cmp w.release s.release)) (equal_is w.epoch s.epoch)
    ∙ ap (λ r. is_eq (nat_cmp w.epoch s.epoch) && is_eq r) (release_steps w.release s.release)
    ∙ then_differs (nat_cmp w.epoch s.epoch) (nat_cmp (get_or w.release 0 0) (get_or s.release 0 0)) (nat_cmp (get_or w.release 1 0) (get_or s.release 1 0)) (release_cmp (drop 2 w.release) (drop 2 s.release)) differ

and_false : (a : Bool) → (a && false) ≡ false
and_false true = refl
and_false false = refl

no_prerelease : (s w : Record) → same_release s w ≡ false → is_prerelease_of s w ≡ false
no_prerelease s w other = ap (λ b. not (any_prerelease s) && (b && is_before s.post w)) other ∙ and_false (not (any_prerelease s))

no_postrelease : (s w : Record) → same_release s w ≡ false → is_postrelease_of s w ≡ false
no_postrelease s w other =
    ap (λ b. not (is_some s.post || is_some s.dev) && (b && (same_pre w.pre s.pre && is_some w.post))) other ∙ and_false (not (is_some s.post || is_some s.dev))

begins_with_one : (r : List ℕ) (c : ℕ) → begins_with r (c ∷ []) ≡ ((get_or r 0 0 == c) && true)
begins_with_one [] c = refl
begins_with_one (a ∷ r) c = refl

-- a version of other first numbers matches as these numbers do
module _ (s w : Record) (differ : is_eq (front_cmp w s) ≡ false) where
  short_differs : is_eq (front_cmp (short_version w) s) ≡ false
  short_differs = ap is_eq (same_front w s) ∙ differ

  same_order : record_cmp (candidate s w) s ≡ record_cmp (candidate s (short_version w)) s
  same_order = candidate_decided s w differ ∙ sym (same_front w s) ∙ sym (candidate_decided s (short_version w) short_differs)

  one_number : (c : ℕ) → has_prefix s (c ∷ []) w ≡ has_prefix s (c ∷ []) (short_version w)
  one_number c =
      ap (λ b. (w.epoch == s.epoch) && b) (
      begins_with_one w.release c ∙ ap (λ n. (n == c) && true) (sym (first_of_two w.release)) ∙ sym (begins_with_one (first_two w.release) c))

  two_numbers : (c d : ℕ) (q : List ℕ) → get_or s.release 0 0 ≡ c → get_or s.release 1 0 ≡ d → has_prefix s (c ∷ d ∷ q) w ≡ has_prefix s (c ∷ d ∷ q) (short_version w)
  two_numbers c d q first second =
      prefix_is s w c d q first second ∙ ap (λ b. b && begins_with (drop 2 w.release) q) differ
      ∙ sym (prefix_is s (short_version w) c d q first second ∙ ap (λ b. b && begins_with (drop 2 (first_two w.release)) q) short_differs)

  same_star : (q : List ℕ) → s.release ≡ q → has_prefix s q w ≡ has_prefix s q (short_version w)
  same_star [] is = refl
  same_star (c ∷ []) is = one_number c
  same_star (c ∷ d ∷ q) is = two_numbers c d q (ap (λ r. get_or r 0 0) is) (ap (λ r. get_or r 1 0) is)

  same_compatible : (q : List ℕ) → s.release ≡ q → has_prefix s (without_last q) w ≡ has_prefix s (without_last q) (short_version w)
  same_compatible [] is = refl
  same_compatible (c ∷ []) is = refl
  same_compatible (c ∷ d ∷ []) is = one_number c
  same_compatible (c ∷ d ∷ f ∷ q) is = two_numbers c d (without_last (f ∷ q)) (ap (λ r. get_or r 0 0) is) (ap (λ r. get_or r 1 0) is)

  same_early : is_prerelease_of s w ≡ is_prerelease_of s (short_version w)
  same_early = no_prerelease s w (other_release s w differ) ∙ sym (no_prerelease s (short_version w) (other_release s (short_version w) short_differs))

  same_late : is_postrelease_of s w ≡ is_postrelease_of s (short_version w)
  same_late = no_postrelease s w (other_release s w differ) ∙ sym (no_postrelease s (short_version w) (other_release s (short_version w) short_differs))

  same_match : (o : Operator) → is_exact o ≡ false → matches_literally o s w ≡ matches_literally o s (short_version w)
  same_match Equal plain = ap is_eq same_order
  same_match NotEqual plain = ap (λ c. not (is_eq c)) same_order
  same_match GreaterThanEqual plain = ap is_ge same_order
  same_match LessThanEqual plain = ap is_le same_order
  same_match EqualStar plain = same_star s.release refl
  same_match NotEqualStar plain = ap not (same_star s.release refl)
  same_match ExactEqual plain = absurd (true≢false plain)
  same_match TildeEqual plain = (λ j. same_compatible s.release refl j && is_ge (same_order j))
  same_match LessThan plain = (λ j. is_lt (same_order j) && not (same_early j))
  same_match GreaterThan plain = (λ j. is_gt (same_order j) && not (same_late j))

-- ---- versions of the same first numbers

-- a version begins with the two numbers exactly if the fronts are equal
own_is : (s w : Record) → matches_literally EqualStar (short_version s) w ≡ is_eq (front_cmp w s)
own_is s w =
    ap (λ q. has_prefix s q w) (first_two_is s.release) ∙ prefix_is s w (get_or s.release 0 0) (get_or s.release 1 0) [] refl refl ∙ and_true (is_eq (front_cmp w s))
  where
    and_true : (b : Bool) → (b && true) ≡ b
    and_true true = refl
    and_true false = refl

same_short : (s w : Record) → is_eq (front_cmp w s) ≡ true → short_version w ≡ short_version s
same_short s w is =
    let (epochs, first, second) = all_equal (nat_cmp w.epoch s.epoch) (nat_cmp (get_or w.release 0 0) (get_or s.release 0 0)) (nat_cmp (get_or w.release 1 0) (get_or s.release 1 0)) is in
    let a = equal_numbers w.epoch s.epoch epochs in
    let b = equal_numbers (get_or w.release 0 0) (get_or s.release 0 0) first in
    let c = equal_numbers (get_or w.release 1 0) (get_or s.release 1 0) second in
    ap (epoch_and_release w.epoch) (first_two_is w.release) ∙ (λ j. epoch_and_release (a j) (b j ∷ c j ∷ [])) ∙ sym (ap (epoch_and_release s.epoch) (first_two_is s.release))

-- ---- sets

-- the specifier of all versions that begin with the first two numbers
abbrev pub own_spec : Spec → Spec
own_spec s = record { operator = EqualStar; version = short_version s.version }

pub is_own : (s star : Spec) (held short : Record) → held ≡ s.version → short ≡ short_version held → star ≡ record { operator = EqualStar; version = short } → star ≡ own_spec s
is_own s star held short is so also = cc (is, so, also)

pub own_match : (s : Spec) (held short : Record) (at : Bool) → held ≡ s.version → short ≡ short_version held → at ≡ matches_literally s.operator s.version short
    → at ≡ matches_literally s.operator s.version (short_version s.version)
own_match s held short at is so also = also ∙ ap (matches_literally s.operator s.version) (so ∙ ap short_version is)

module _ (s : Spec) (plain : is_exact s.operator ≡ false) (at : Bool) (at_is : at ≡ matches_literally s.operator s.version (short_version s.version)) where
  -- whether the specifier matches the first two numbers, by whether they are its own
  chosen : (w : Record) (own : Bool) → own ≡ is_eq (front_cmp w s.version) → (if own then at else matches_literally s.operator s.version w) ≡ matches_literally s.operator s.version (short_version w)
  chosen w true own = at_is ∙ ap (matches_literally s.operator s.version) (sym (same_short s.version w (sym own)))
  chosen w false own = same_match s.version w (sym own) s.operator plain

  module _ (set own : Segments) (holds : HoldsMatchesOf s set) (star : Spec) (star_is : star ≡ own_spec s) (holds_own : HoldsMatchesOf star own) where
    own_holds : (w : Record) → IsDenoted w → contains record_cmp own w ≡ is_eq (front_cmp w s.version)
    own_holds w d = holds_own w d ∙ ap (λ (t : Spec). matches_literally t.operator t.version w) star_is ∙ own_is s.version w

    joined : (a b : Bool) → at ≡ true → (a || b) ≡ (if b then at else a)
    joined true true is = sym is
    joined false true is = sym is
    joined true false is = refl
    joined false false is = refl

    removed : (a b : Bool) → at ≡ false → (a && not b) ≡ (if b then at else a)
    removed true true is = sym is
    removed false true is = sym is
    removed true false is = refl
    removed false false is = refl

    pub with_own : (all : Segments) → at ≡ true → ((w : Record) → contains record_cmp all w ≡ contains record_cmp set w || contains record_cmp own w) → HoldsShortMatchesOf s all
    with_own all is both w d =
        both w ∙ joined (contains record_cmp set w) (contains record_cmp own w) is ∙ ap (λ b. if contains record_cmp own w then at else b) (holds w d)
        ∙ chosen w (contains record_cmp own w) (own_holds w d)

    pub without_own : (all : Segments) → at ≡ false → ((w : Record) → contains record_cmp all w ≡ contains record_cmp set w && not (contains record_cmp own w)) → HoldsShortMatchesOf s all
    without_own all is both w d =
        both w ∙ removed (contains record_cmp set w) (contains record_cmp own w) is ∙ ap (λ b. if contains record_cmp own w then at else b) (holds w d)
        ∙ chosen w (contains record_cmp own w) (own_holds w d)

-- ---- conditions

pub holds_short_met : (name right : List ℕ) (c : Condition) (s : Spec) (set : Segments) → is_version_variable name ≡ true
    → ((e : Environment) → compare e c.left c.operator c.right ≡ compare_left name c.operator right (e name)) → ComparesAs c.operator right s
    → HoldsShortMatchesOf s set → c.wanted ≡ true → HoldsShortMet name c set
holds_short_met name right c s set is asks as_spec holds wanted e x w has reads d =
    wanted_so c.wanted (meets e c) (matches_literally s.operator s.version (short_version w)) (contains record_cmp set w) wanted
    (met_so name right c s is asks as_spec e x (short_version w) has reads) (holds w d)

pub holds_short_unmet : (name right : List ℕ) (c : Condition) (s : Spec) (set without : Segments) → is_version_variable name ≡ true
    → ((e : Environment) → compare e c.left c.operator c.right ≡ compare_left name c.operator right (e name)) → ComparesAs c.operator right s
    → HoldsShortMatchesOf s set → c.wanted ≡ false → ((v : Record) → contains record_cmp without v ≡ not (contains record_cmp set v)) → HoldsShortMet name c without
holds_short_unmet name right c s set without is asks as_spec holds wanted other e x w has reads d =
    unwanted_so c.wanted (meets e c) (matches_literally s.operator s.version (short_version w)) (contains record_cmp set w) (contains record_cmp without w) wanted
    (met_so name right c s is asks as_spec e x (short_version w) has reads) (holds w d) (other w)

pub narrows_by_short : (name : List ℕ) (c : Condition) (set met narrowed : Segments) → HoldsShortMet name c met
    → ((v : Record) → contains record_cmp narrowed v ≡ contains record_cmp set v && contains record_cmp met v) → NarrowsByShort name c set narrowed
narrows_by_short name c set met narrowed holds both e x w has reads d is within =
    both w ∙ and_from (contains record_cmp set w) (contains record_cmp met w) within (sym (holds e x w has reads d) ∙ is)

-- ---- boxes

-- the second set has what is in the first one where all conditions are met, and those that are left are met there
abbrev pub NarrowsSoFar : List ℕ → Box → Box → Segments → Segments → Type 0
NarrowsSoFar name all rest set narrowed = (e : Environment) (x : List ℕ) (w : Record) → e name ≡ Some (Text x) → ascii_version x ≡ Some (short_version w) → IsDenoted w
    → in_box e all ≡ true → contains record_cmp set w ≡ true → (contains record_cmp narrowed w ≡ true) × (in_box e rest ≡ true)

narrowed_so_far : (name : List ℕ) (all : Box) (c : Condition) (rest : Box) (set narrowed more : Segments) → NarrowsSoFar name all (c ∷ rest) set narrowed
    → NarrowsByShort name c narrowed more → NarrowsSoFar name all rest set more
narrowed_so_far name all c rest set narrowed more so_far narrows_it e x w has reads d is within =
    let (inside, met) = so_far e x w has reads d is within in
    let (first, later) = and_parts (meets e c) (in_box e rest) met in
    (narrows_it e x w has reads d first inside, later)

pub one_more_narrowed : {W : Type 0} (f : W → Condition) (name : List ℕ) (all : Box) (rest : List W) (c : W) (set narrowed more : Segments) → 1 ≤ length rest
    → NarrowsSoFar name all (map f rest) set narrowed → NarrowsByShort name (f (get_or rest 0 c)) narrowed more
    → NarrowsSoFar name all (map f (take (length rest - 1) (drop 1 rest))) set more
one_more_narrowed f name all rest c set narrowed more long so_far narrows_it =
    let later = take (length rest - 1) (drop 1 rest) in
    narrowed_so_far name all (f (get_or rest 0 c)) (map f later) set narrowed more
    (subst (λ r. NarrowsSoFar name all r set narrowed) (ap (map f) (first_and_rest rest c long)) so_far) narrows_it

pub no_python : (short full : List ℕ) (all : Box) (allowed : Option Segments) (set within narrowed : Segments) → short ≡ codes "python_version"
    → full ≡ codes "python_full_version" → HoldsVersionsOf full all set
    → ((v : Record) → IsAllowed allowed v → contains record_cmp set v ≡ true → contains record_cmp within v ≡ true) → NarrowsByAllShort short all within narrowed
    → HasNoVersion narrowed → (e : Environment) → HasPython e → HasAllowed allowed e → in_box e all ≡ false
no_python short full all allowed set within narrowed is so holds keeps narrows none e known may =
    let (x, v, has, reads) = known.short in
    let (y, w, has_full, reads_full) = known.full in
    let linked : v ≡ short_version w = known.linked v w (ap setting_version has ∙ reads) (ap setting_version has_full ∙ reads_full) in
    let d = is_denoted y w reads_full in
    false_from_ne_true (in_box e all) (λ inside.
    let kept = keeps w (may w (ap setting_version has_full ∙ reads_full)) (holds e y w (ap e so ∙ has_full) reads_full inside) in
    true≢false (sym (narrows e x w (ap e is ∙ has) (reads ∙ ap Some linked) d inside kept) ∙ none w d))

-- ---- specifiers

-- the version of the first two numbers is one that a string denotes
short_denoted : (v : Record) → IsDenoted v → IsDenoted (short_version v)
short_denoted v denoted =
    let valid = (denoted_parsed v denoted).valid in
    parsed_denoted (short_version v) (parts_parsed v.epoch (first_two v.release) None None None (record { epoch = valid.epoch; some = some v.release; release = fit v.release valid.release }) tt tt tt)
  where
    some : (r : List ℕ) → 0 < length (first_two r)
    some [] = omega arith
    some (a ∷ []) = omega arith
    some (a ∷ b ∷ r) = omega arith

    fit : (r : List ℕ) → All Fits r → All Fits (first_two r)
    fit [] all = All-cons Fits 0 (0 ∷ []) (omega arith) (All-cons Fits 0 [] (omega arith) (All-nil Fits))
    fit (a ∷ []) all = All-cons Fits a (0 ∷ []) (All-head Fits a [] all) (All-cons Fits 0 [] (omega arith) (All-nil Fits))
    fit (a ∷ b ∷ r) all =
        All-cons Fits a (b ∷ []) (All-head Fits a (b ∷ r) all) (All-cons Fits b [] (All-head Fits b r (All-tail Fits a (b ∷ r) all)) (All-nil Fits))

-- so is the specifier of all that begins with them
pub own_denotable : (s star : Spec) → star ≡ own_spec s → IsDenotable s → IsDenotable star
own_denotable s star is denotable = subst IsDenotable (sym is) (record { star = λ _. refl; plain = λ _. record { local = refl; min = refl; max = refl } }, short_denoted s.version denotable.1)
