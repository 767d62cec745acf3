-- The range of each specifier agrees with matching.
use Rattle.std.proofs.Common.{◌≡◌, ◌≢◌, Bool, true, false, cond, not, ◌&&◌, ◌||◌, IsTrue, Some, refl, sym, ap, ◌∙◌, subst}
use Rattle.std.specs.Ordering.{ordering_reverse, is_lt, is_le, is_eq}
use Rattle.std.specs.declared.cmp.Ordering.{Ordering}
use Rattle.std.specs.declared.cmp.Ordering.TheVariants as ord
use Rattle.pep440_rs.proofs.Agreement.Greater.{greater_agrees, greater_around}
use Rattle.pep440_rs.proofs.Agreement.Less.{less_agrees, less_within}
use Rattle.pep440_rs.proofs.Agreement.VersionOrder.{plain, is_plain, turn_le, ge_not_lt, only_start, only_end}
use Rattle.pep440_rs.proofs.Agreement.Prefix.{some_is}
use Rattle.pep440_rs.proofs.Agreement.Star.{star_agrees, not_star_agrees, tilde_agrees}
use Rattle.pep440_rs.specs.Agreement.{HasOperand, IsCandidate, HasNoLocalOrSentinel, IsSuffixComparable, Agrees, HoldsOnlyMatches, HoldsAllMatches}
use Rattle.pep440_rs.specs.Bounds.{Segments, range_of, alone, greater}
use Rattle.pep440_rs.specs.Matching.{matches, candidate, has_local}
use Rattle.pep440_rs.specs.Operators.{allows_local}
use Rattle.pep440_rs.specs.Specifiers.{Spec}
use Rattle.pep440_rs.specs.declared.specifier.operator.Operator.{Operator}
use Rattle.pep440_rs.specs.declared.specifier.operator.Operator.TheVariants.{Equal, EqualStar, ExactEqual, NotEqual, NotEqualStar, TildeEqual, LessThan, LessThanEqual, GreaterThan, GreaterThanEqual}
use Rattle.pep440_ranges.specs.Complement.{gaps}
use Rattle.pep440_ranges.specs.RangeSegments.{contains}
use Rattle.pep440_version.specs.Key.{record_cmp}
use Rattle.pep440_version.specs.Key.KeyLaws.{record_total}
use Rattle.pep440_version.specs.Record.{Record, epoch_and_release}

-- a candidate without local part is compared as it is
pub own : (s v : Record) → candidate s (plain v) ≡ plain v
own s v = go (has_local s)
  where
    go : (b : Bool) → cond b (plain v) (plain v) ≡ plain v
    go true = refl
    go false = refl

-- ---- `==` and `!=`

alone_table : (r : Ordering) → (is_le (ordering_reverse r) && is_le r) || false ≡ is_eq r
alone_table ord.Less = refl
alone_table ord.Equal = refl
alone_table ord.Greater = refl

pub alone_holds : (s v : Record) → contains record_cmp (alone s) v ≡ is_eq (record_cmp v s)
alone_holds s v = ap (λ r. (is_le r && is_le (record_cmp v s)) || false) (record_total.antisymm s v) ∙ alone_table (record_cmp v s)

others_table : (r : Ordering) → is_lt r || ((is_lt (ordering_reverse r) && true) || false) ≡ not (is_eq r)
others_table ord.Less = refl
others_table ord.Equal = refl
others_table ord.Greater = refl

pub others_hold : (s v : Record) → contains record_cmp (gaps (alone s)) v ≡ not (is_eq (record_cmp v s))
others_hold s v = ap (λ r. is_lt (record_cmp v s) || ((is_lt r && true) || false)) (record_total.antisymm s v) ∙ others_table (record_cmp v s)

-- ---- all operators

-- what is to be shown of a range of op
abbrev For : Operator → Record → Record → Type 0
For op s v = IsSuffixComparable op s v → (range : Segments) → range_of op s ≡ Some range → contains record_cmp range v ≡ matches op s v

-- it is enough to show it of versions by their parts
taken : (op : Operator) (s s' v : Record) → s ≡ s' → HasNoLocalOrSentinel v → For op s' (plain v) → For op s v
taken op s s' v p q h = subst (λ t. For op t v) (sym p) (subst (For op s') (sym (is_plain v q)) h)

each : (op : Operator) (s v : Record) → HasOperand (record { operator = op; version = s }) → op ≢ ExactEqual → HasNoLocalOrSentinel v → For op s v
each Equal s v p o q = taken Equal s s v refl q (λ c range h. rw (some_is _ range h) (alone_holds s (plain v) ∙ ap (λ w. is_eq (record_cmp w s)) (sym (own s v))))
each ExactEqual s v p o q = absurd (o refl)
each NotEqual s v p o q = taken NotEqual s s v refl q (λ c range h. rw (some_is _ range h) (others_hold s (plain v) ∙ ap (λ w. not (is_eq (record_cmp w s))) (sym (own s v))))
each EqualStar s v p o q = taken EqualStar s (epoch_and_release s.epoch s.release) v (p.star refl) q (λ c range h. star_agrees s.epoch s.release v range h)
each NotEqualStar s v p o q = taken NotEqualStar s (epoch_and_release s.epoch s.release) v (p.star refl) q (λ c range h. not_star_agrees s.epoch s.release v range h)
each TildeEqual s v p o q = taken TildeEqual s (plain s) v (is_plain s (p.plain refl)) q (λ c range h. tilde_agrees s v range h)
each LessThan s v p o q = taken LessThan s (plain s) v (is_plain s (p.plain refl)) q (λ c range h. rw (some_is _ range h) (less_agrees s v c))
each LessThanEqual s v p o q = taken LessThanEqual s (plain s) v (is_plain s (p.plain refl)) q (λ c range h. rw (some_is _ range h) (only_end (is_le (record_cmp (plain v) (plain s)))))
each GreaterThan s v p o q = taken GreaterThan s (plain s) v (is_plain s (p.plain refl)) q (greater_agrees s.epoch s.release s.pre s.post s.dev v)
each GreaterThanEqual s v p o q = taken GreaterThanEqual s (plain s) v (is_plain s (p.plain refl)) q (λ c range h.
    rw (some_is _ range h) (only_start (is_le (record_cmp (plain s) (plain v))) ∙ turn_le (plain s) (plain v) ∙ sym (ge_not_lt (record_cmp (plain v) (plain s)))))

pub agrees : (s : Spec) (range : Segments) → range_of s.operator s.version ≡ Some range → HasOperand s → Agrees IsCandidate s range
agrees s range h given v p = each s.operator s.version v given p.operator p.plain p.suffixes range h

-- ---- the inclusions that hold whatever the suffixes

abbrev Within : Operator → Record → Record → Type 0
Within op s v = (range : Segments) → range_of op s ≡ Some range → IsTrue (contains record_cmp range v) → IsTrue (matches op s v)

abbrev Around : Operator → Record → Record → Type 0
Around op s v = (range : Segments) → range_of op s ≡ Some range → IsTrue (matches op s v) → IsTrue (contains record_cmp range v)

less_only : (s v : Record) → HasNoLocalOrSentinel s → HasNoLocalOrSentinel v → Within LessThan s v
less_only s v p q =
    subst (λ t. Within LessThan t v) (sym (is_plain s p)) (subst (Within LessThan (plain s)) (sym (is_plain v q)) (λ range h. rw (some_is _ range h) (less_within s v)))

greater_all : (s v : Record) → HasNoLocalOrSentinel s → HasNoLocalOrSentinel v → Around GreaterThan s v
greater_all s v p q =
    subst (λ t. Around GreaterThan t v) (sym (is_plain s p)) (subst (Around GreaterThan (plain s)) (sym (is_plain v q)) (greater_around s.epoch s.release s.pre s.post s.dev v))

-- the version of a `<` and of a `>` is plain
is_plain_for : (s : Spec) (o : Operator) → s.operator ≡ o → IsTrue (not (allows_local o)) → HasOperand s → HasNoLocalOrSentinel s.version
is_plain_for s o same none given = given.plain (ap (λ x. not (allows_local x)) same ∙ none)

pub holds_only_matches : (s : Spec) (range : Segments) → range_of s.operator s.version ≡ Some range → HasOperand s → HoldsOnlyMatches s range
holds_only_matches s range h given less v q = subst (λ o. Within o s.version v) (sym less) (less_only s.version v (is_plain_for s LessThan less refl given) q) range h

pub holds_all_matches : (s : Spec) (range : Segments) → range_of s.operator s.version ≡ Some range → HasOperand s → HoldsAllMatches s range
holds_all_matches s range h given greater v q = subst (λ o. Around o s.version v) (sym greater) (greater_all s.version v (is_plain_for s GreaterThan greater refl given) q) range h
