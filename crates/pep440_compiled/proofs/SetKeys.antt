-- The set of a list as bytes: what its intervals are, and that they hold the keys of the versions that match literally.
use Rattle.std.proofs.Common.{◌≡◌, ◌≢◌, ◌∙◌, ◌==◌, ◌&&◌, ◌||◌, ℕ, zero, suc, ◌<◌, ◌≤◌, Bool, true, false, true≢false, not, if◌then◌else◌, nat_lt, take, is_none, Option, Some, None, List, [], ◌∷◌, ◌++◌, inl, inr, append_assoc, arith, length, map, refl, sym, ap, subst}
use Rattle.std.proofs.Math.Dec.{eqb-suc-zero}
use Rattle.std.proofs.lemmas.Bool.{eqb-false, lt-ltb, ne_eqb, or_from, or_parts}
use Rattle.std.proofs.lemmas.Bool.Decides.{nat_tests}
use Rattle.std.proofs.lemmas.List.{append-nil}
use Rattle.std.proofs.lemmas.List.Elements.{All-from_recursion, All-weaker, recursion_from_All}
use Rattle.std.specs.List.{All, AllByRecursion, list_all, list_any}
use Rattle.std.specs.Option.{option_map_or}
use Rattle.std.specs.Prelude.{unwrap_or}
use Rattle.std.specs.Ordering.{is_lt, nat_cmp}
use Rattle.std.specs.Slice.Scan.{big_endian}
use Rattle.std.specs.declared.cmp.Ordering.TheVariants as order
use Rattle.std.specs.declared.ops.Bound.{Bound}
use Rattle.std.specs.declared.ops.Bound.TheVariants.{Included, Excluded, Unbounded}
use Rattle.pep440_compiled.proofs.ByteOrder.{AreBytes, other_words}
use Rattle.pep440_compiled.proofs.Fronts.{keyed}
use Rattle.pep440_compiled.specs.Lists.{IsParsedMember, has_set, is_bare, may_stand}
use Rattle.pep440_compiled.specs.SetBytes.{AreOthers, HasBothFronts, HasFronts, HasLongKeys, IsFront, IsLong, IsSized, high_bytes, low_bytes, set_bytes, sized_bytes}
use Rattle.pep440_keys.proofs.Order.{in_range}
use Rattle.pep440_keys.specs.RangeKeys.{HasKeys, IsKeyedBound, IsKeyedSegment, high_key, is_below_key, is_within, low_key, segment_interval}
use Rattle.pep440_keys.specs.SortKeys.{HasNoZero, IsKeyed, key_bytes}
use Rattle.pep440_ranges.specs.RangeSegments.{Segment, contains}
use Rattle.pep440_rs.specs.Agreement.{HasNoLocalOrSentinel, HasOperand}
use Rattle.pep440_rs.specs.Bounds.{Segments}
use Rattle.pep440_rs.specs.Denoted.{IsDenotable}
use Rattle.pep440_rs.specs.LiteralMatching.{list_matches_literally}
use Rattle.pep440_rs.specs.Matching.{has_local}
use Rattle.pep440_rs.specs.Specifiers.{Spec}
use Rattle.pep440_rs.specs.declared.specifier.operator.Operator.{Operator}
use Rattle.pep440_rs.specs.declared.specifier.operator.Operator.TheVariants.{Equal, EqualStar, ExactEqual, NotEqual, NotEqualStar, TildeEqual, LessThan, LessThanEqual, GreaterThan, GreaterThanEqual}
use Rattle.pep440_sets.proofs.Lists.{list_holds, parsed_denoted}
use Rattle.pep440_sets.specs.Boundaries.{IsAbovePosts, IsBelowVersion, IsEnd, IsInterval, IsStart, IsVersionSet}
use Rattle.pep440_sets.specs.Sets.{has_exact, list_set}
use Rattle.pep440_version.specs.Key.{record_cmp}
use Rattle.pep440_version.specs.Record.{LocalSegmentValue, Record, epoch_and_release}
use Rattle.pep440_version.specs.RoundTrip.{IsParsed}

-- ---- the first interval

-- bytes that are not empty begin with an interval
pub record First (left : List ℕ) (set : Segments) : Type 0 where
  pub segment : Segment Record
  pub more : Segments
  pub sized : IsSized segment
  pub all : AllByRecursion IsSized more
  pub split : set ≡ segment ∷ more
  pub bytes : left ≡ sized_bytes (low_bytes (segment_interval segment)) ++ (sized_bytes (high_bytes (segment_interval segment)) ++ set_bytes more)

pub first_interval : (left : List ℕ) (set : Segments) → 0 < length left → AllByRecursion IsSized set → left ≡ set_bytes set → First left set
first_interval left [] some all e = absurd (omega (arith, some, ap length e))
first_interval left (s ∷ set) some all e = record {
  segment = s;
  more = set;
  sized = all.0;
  all = all.1;
  split = refl;
  bytes = e ∙ append_assoc (sized_bytes (low_bytes (segment_interval s))) (sized_bytes (high_bytes (segment_interval s))) (set_bytes set);
}

-- no bytes, no interval
pub none_left : (left : List ℕ) (set : Segments) → length left ≡ 0 → left ≡ set_bytes set → set ≡ []
none_left left [] none e = refl
none_left left (s ∷ set) none e = absurd (omega (arith, none, ap length e))

-- ---- what an interval holds

at_least_none : (key : List ℕ) → not (is_below_key key []) ≡ true
at_least_none [] = refl
at_least_none (b ∷ key) = refl

low_tells : (start : Bound Record) (key : List ℕ) → not (is_below_key key (unwrap_or (low_key start) [])) ≡ option_map_or (λ low. not (is_below_key key low)) (low_key start) true
low_tells Unbounded key = at_least_none key
low_tells (Included v) key = refl
low_tells (Excluded v) key = refl

high_tells : (end : Bound Record) (key : List ℕ) →
    (length (unwrap_or (high_key end) []) == 0) || is_below_key key (unwrap_or (high_key end) []) ≡ option_map_or (λ high. is_below_key key high) (high_key end) true
high_tells Unbounded key = refl
high_tells (Included v) key = ap (λ b. b || is_below_key key (key_bytes v ++ 0 ∷ [])) (eqb-suc-zero _)
high_tells (Excluded v) key = ap (λ b. b || is_below_key key (key_bytes v)) (eqb-suc-zero _)

pub tells : (s : Segment Record) (key : List ℕ) →
    not (is_below_key key (low_bytes (segment_interval s))) && ((length (high_bytes (segment_interval s)) == 0) || is_below_key key (high_bytes (segment_interval s))) ≡ is_within (segment_interval s) key
tells s key = λ i. low_tells s.0 key i && high_tells s.1 key i

pub decided : (s : Segment Record) (key low high : List ℕ) (b : Bool) → low ≡ low_bytes (segment_interval s) → high ≡ high_bytes (segment_interval s) →
    b ≡ not (is_below_key key low) && ((length high == 0) || is_below_key key high) → is_within (segment_interval s) key ≡ b
decided s key low high b l h is = sym (tells s key) ∙ sym (λ i. not (is_below_key key (l i)) && ((length (h i) == 0) || is_below_key key (h i))) ∙ sym is

-- ---- by the first eight bytes of keys

lt_is : (m n : ℕ) → is_lt (nat_cmp m n) ≡ nat_lt m n
lt_is m n = go (nat_lt m n) (m == n)
  where
    go : (a b : Bool) → is_lt (if a then order.Less else if b then order.Equal else order.Greater) ≡ a
    go true b = refl
    go false true = refl
    go false false = refl

turned_lt : (m n : ℕ) → (m ≡ n → ⊥) → not (nat_lt m n) ≡ nat_lt n m
turned_lt m n other = grind (arith, nat_tests)

above_low : (key low : List ℕ) (front l : ℕ) → 8 ≤ length key → AreBytes key → front ≡ big_endian 0 (take 8 key) → IsFront 0 l low → (front ≡ l → ⊥)
    → nat_lt l front ≡ not (is_below_key key low)
above_low key low front l some bytes f (inl e) other =
    let more : 0 < front = omega (arith, other, e.1) in
    ap (λ n. nat_lt n front) e.1 ∙ lt-ltb 0 front more ∙ sym (ap (λ k. not (is_below_key key k)) e.0 ∙ at_least_none key)
above_low key low front l some bytes f (inr e) other =
    sym (ap not (ap is_lt (sym (other_words front l key low some e.0 bytes e.1 f e.2 other)) ∙ lt_is front l) ∙ turned_lt front l other)

no_length : (n : ℕ) → 8 ≤ n → n == 0 ≡ false
no_length zero h = absurd (omega (arith, h))
no_length (suc n) h = eqb-suc-zero n

below_high : (key high : List ℕ) (front h : ℕ) → 8 ≤ length key → AreBytes key → front ≡ big_endian 0 (take 8 key) → front ≤ 18446744073709551615 → IsFront 18446744073709551615 h high → (front ≡ h → ⊥)
    → nat_lt front h ≡ (length high == 0) || is_below_key key high
below_high key high front h some bytes f fits (inl e) other =
    lt-ltb front h (omega (arith, other, e.1, fits)) ∙ sym (ap (λ k. (length k == 0) || is_below_key key k) e.0)
below_high key high front h some bytes f fits (inr e) other =
    sym (ap (λ b. b || is_below_key key high) (no_length (length high) e.0) ∙ ap is_lt (sym (other_words front h key high some e.0 bytes e.1 f e.2 other)) ∙ lt_is front h)

-- where the front of a key is neither that of the low key nor that of the high one, the fronts decide
pub fronts_decide : (s : Segment Record) (key : List ℕ) (fronts : ℕ × ℕ) (front : ℕ) → HasBothFronts fronts s → 8 ≤ length key → AreBytes key → front ≡ big_endian 0 (take 8 key) → front ≤ 18446744073709551615
    → (front ≡ fronts.0 → ⊥) → (front ≡ fronts.1 → ⊥) → is_within (segment_interval s) key ≡ nat_lt fronts.0 front && nat_lt front fronts.1
fronts_decide s key fronts front both some bytes f fits low high =
    sym (tells s key)
    ∙ sym (λ i. above_low key (low_bytes (segment_interval s)) front fronts.0 some bytes f both.0 low i && below_high key (high_bytes (segment_interval s)) front fronts.1 some bytes f fits both.1 high i)

-- the first of the fronts are those of the first interval
pub record FirstFronts (fronts : ℕ × ℕ) (rest : List (ℕ × ℕ)) (set : Segments) : Type 0 where
  pub segment : Segment Record
  pub more : Segments
  pub split : set ≡ segment ∷ more
  pub both : HasBothFronts fronts segment
  pub others : HasFronts rest more

pub first_fronts : (left rest : List (ℕ × ℕ)) (f : ℕ × ℕ) (set : Segments) → left ≡ f ∷ rest → HasFronts left set → FirstFronts f rest set
first_fronts left rest f set e h = go set (subst (λ l. HasFronts l set) e h)
  where
    go : (set : Segments) → HasFronts (f ∷ rest) set → FirstFronts f rest set
    go [] h = absurd h
    go (s ∷ set) h = record { segment = s; more = set; split = refl; both = h.0; others = h.1 }

pub no_fronts : (left : List (ℕ × ℕ)) (set : Segments) → length left ≡ 0 → HasFronts left set → set ≡ []
no_fronts [] [] none h = refl
no_fronts [] (s ∷ set) none h = absurd h
no_fronts (f ∷ left) set none h = absurd (omega (arith, none))

-- the fronts of the intervals that were read, and the others
pub record ReadFronts (set : Segments) (fronts : List (ℕ × ℕ)) (left : List ℕ) : Type 0 where
  pub seen : Segments
  pub more : Segments
  pub split : set ≡ seen ++ more
  pub sized : AllByRecursion IsSized more
  pub bytes : left ≡ set_bytes more
  pub read : HasFronts fronts seen

one_more : (fronts : List (ℕ × ℕ)) (seen : Segments) (f : ℕ × ℕ) (s : Segment Record) → HasFronts fronts seen → HasBothFronts f s → HasFronts (fronts ++ f ∷ []) (seen ++ s ∷ [])
one_more [] [] f s all both = (both, tt)
one_more [] (x ∷ seen) f s all both = absurd all
one_more (g ∷ fronts) [] f s all both = absurd all
one_more (g ∷ fronts) (x ∷ seen) f s all both = (all.0, one_more fronts seen f s all.1 both)

pub read_next : (set : Segments) (fronts new : List (ℕ × ℕ)) (left rest : List ℕ) (f : ℕ × ℕ) (at : ReadFronts set fronts left) (first : First left at.more) → HasBothFronts f first.segment
    → rest ≡ set_bytes first.more → new ≡ fronts ++ f ∷ [] → ReadFronts set new rest
read_next set fronts new left rest f at first both bytes e = record {
  seen = at.seen ++ first.segment ∷ [];
  more = first.more;
  split = at.split ∙ ap (λ l. at.seen ++ l) first.split ∙ sym (append_assoc at.seen (first.segment ∷ []) first.more);
  sized = first.all;
  bytes = bytes;
  read = subst (λ l. HasFronts l (at.seen ++ first.segment ∷ [])) (sym e) (one_more fronts at.seen f first.segment at.read both);
}

pub all_fronts : (set : Segments) (fronts : List (ℕ × ℕ)) (left : List ℕ) → length left ≡ 0 → ReadFronts set fronts left → HasFronts fronts set
all_fronts set fronts left none at =
    subst (HasFronts fronts) (sym (at.split ∙ ap (λ l. at.seen ++ l) (none_left left at.more none at.bytes) ∙ append-nil at.seen)) at.read

-- ---- where fronts must decide

pub off_front : (n a b : ℕ) → (n == a) || (n == b) ≡ false → (n ≡ a → ⊥) × (n ≡ b → ⊥)
off_front n a b e =
    let parts = or_parts (n == a) (n == b) e in
    (eqb-false n a parts.0, eqb-false n b parts.1)

pub at_front : (n a b : ℕ) → (n == a) || (n == b) ≡ true → (n ≢ a) × (n ≢ b) → ⊥
at_front n a b e other = true≢false (sym e ∙ or_from (n == a) (n == b) (ne_eqb n a other.0) (ne_eqb n b other.1))

pub other_first : (front : ℕ) (left rest : List (ℕ × ℕ)) (f : ℕ × ℕ) → left ≡ f ∷ rest → AreOthers front left → ((front ≢ f.0) × (front ≢ f.1)) × AreOthers front rest
other_first front left rest f e others = subst (AreOthers front) e others

long_more : (seen more : Segments) → HasLongKeys (seen ++ more) → HasLongKeys more
long_more [] more h = h
long_more (s ∷ seen) more h = long_more seen more h.1

as_many : (fronts : List (ℕ × ℕ)) (seen : Segments) → HasFronts fronts seen → length fronts ≡ length seen
as_many [] [] h = refl
as_many [] (s ∷ seen) h = absurd h
as_many (f ∷ fronts) [] h = absurd h
as_many (f ∷ fronts) (s ∷ seen) h = ap suc (as_many fronts seen h.1)

longer : (seen more : Segments) (s : Segment Record) → length seen < length (seen ++ s ∷ more)
longer [] more s = omega arith
longer (t ∷ seen) more s = omega (arith, longer seen more s)

module _ (set : Segments) (fronts : List (ℕ × ℕ)) (left : List ℕ) (at : ReadFronts set fronts left) (first : First left at.more) where
  pub first_long : HasLongKeys set → IsLong (low_bytes (segment_interval first.segment)) × IsLong (high_bytes (segment_interval first.segment))
  first_long h = (subst HasLongKeys first.split (long_more at.seen at.more (subst HasLongKeys at.split h))).0

  pub has_room : length set ≤ 8 → length fronts < 8
  has_room few = omega (arith, few, ap length (at.split ∙ ap (λ l. at.seen ++ l) first.split), longer at.seen first.more first.segment, as_many fronts at.seen at.read)

-- ---- the set of a list

parsed_keyed : (v : Record) → IsParsed v → IsKeyed v
parsed_keyed v p = keyed v p

no_local : (local : List LocalSegmentValue) → local ≡ [] → All HasNoZero local
no_local local e = subst (All HasNoZero) (sym e) (λ k s lt. absurd (omega (arith, lt)))

posts_keyed : (v : Record) → IsAbovePosts v → IsKeyed v
posts_keyed v p = record { valid = p.valid; local = no_local v.local (ap (λ (r : Record). r.local) p.same) }

below_keyed : (v : Record) → IsBelowVersion v → IsKeyed v
below_keyed v (inl h) = parsed_keyed v h.parsed
below_keyed v (inr h) = posts_keyed v h

start_keyed : (start : Bound Record) → IsStart start → IsKeyedBound start
start_keyed Unbounded h = tt
start_keyed (Included v) h = below_keyed v h
start_keyed (Excluded v) h = parsed_keyed v h.parsed

end_keyed : (end : Bound Record) → IsEnd end → IsKeyedBound end
end_keyed Unbounded h = tt
end_keyed (Included v) h = parsed_keyed v h.parsed
end_keyed (Excluded v) h = below_keyed v h

pub set_has_keys : (set : Segments) → IsVersionSet set → HasKeys set
set_has_keys set h = All-weaker IsInterval IsKeyedSegment (λ s is. (start_keyed s.0 is.0, end_keyed s.1 is.1)) set h.intervals

pub any_map : (key : List ℕ) (range : Segments) → list_any (λ s. is_within (segment_interval s) key) range ≡ list_any (λ interval. is_within interval key) (map segment_interval range)
any_map key [] = refl
any_map key (s ∷ range) = ap (λ (b : Bool). is_within (segment_interval s) key || b) (any_map key range)

-- the key of a version lies in an interval of a set exactly if the set has the version
pub set_tells : (set : Segments) (r : Record) → IsVersionSet set → IsParsed r → list_any (λ s. is_within (segment_interval s) (key_bytes r)) set ≡ contains record_cmp set r
set_tells set r h p = any_map (key_bytes r) set ∙ in_range set (set_has_keys set h) r (keyed r p)

pub set_tells_by : (set : Segments) (r : Record) (key : List ℕ) → IsVersionSet set → IsParsed r → key ≡ key_bytes r
    → list_any (λ s. is_within (segment_interval s) key) set ≡ contains record_cmp set r
set_tells_by set r key h p e = ap (λ k. list_any (λ s. is_within (segment_interval s) k) set) e ∙ set_tells set r h p

left_true : (a b : Bool) → a && b ≡ true → a ≡ true
left_true true b h = refl
left_true false b h = h

right_true : (a b : Bool) → a && b ≡ true → b ≡ true
right_true true b h = h
right_true false b h = absurd (true≢false (sym h))

turned : (a : Bool) → not a ≡ true → a ≡ false
turned true h = absurd (true≢false (sym h))
turned false h = refl

is_none_is : {A : Type 0} (o : Option A) → is_none o ≡ true → o ≡ None
is_none_is None h = refl
is_none_is (Some x) h = absurd (true≢false (sym h))

no_local_is : (v : Record) → not (has_local v) ≡ true → v.local ≡ []
no_local_is v h = go v.local h
  where
    go : (l : List LocalSegmentValue) → not (has_local (record v { local = l })) ≡ true → l ≡ []
    go [] h = refl
    go (x ∷ l) h = absurd (true≢false (sym h ∙ ap (λ b. not (not b)) (eqb-suc-zero (length l))))

without_local : (v : Record) → IsParsed v → not (has_local v) ≡ true → HasNoLocalOrSentinel v
without_local v p h = record { local = no_local_is v h; min = p.round_trips.no_min; max = p.round_trips.no_max }

bare_is : (v : Record) → IsParsed v → is_bare v ≡ true → v ≡ epoch_and_release v.epoch v.release
bare_is v p h =
    let pre = is_none_is v.pre (left_true (is_none v.pre) _ h) in
    let after_pre = right_true (is_none v.pre) _ h in
    let post = is_none_is v.post (left_true (is_none v.post) _ after_pre) in
    let after_post = right_true (is_none v.post) _ after_pre in
    let dev = is_none_is v.dev (left_true (is_none v.dev) _ after_post) in
    let local = no_local_is v (right_true (is_none v.dev) _ after_post) in
    (λ i. record v { pre = pre i; post = post i; dev = dev i; local = local i; min = p.round_trips.no_min i; max = p.round_trips.no_max i })

bare_local : (v : Record) → is_bare v ≡ true → not (has_local v) ≡ true
bare_local v h = right_true (is_none v.dev) _ (right_true (is_none v.post) _ (right_true (is_none v.pre) _ h))

operand : (o : Operator) (v : Record) → IsParsed v → may_stand o v ≡ true → HasOperand (record { operator = o; version = v })
operand EqualStar v p h = record { star = λ e. bare_is v p h; plain = λ e. without_local v p (bare_local v h) }
operand NotEqualStar v p h = record { star = λ e. bare_is v p h; plain = λ e. without_local v p (bare_local v h) }
operand Equal v p h = record { star = λ e. absurd (true≢false (sym e)); plain = λ e. absurd (true≢false (sym e)) }
operand NotEqual v p h = record { star = λ e. absurd (true≢false (sym e)); plain = λ e. absurd (true≢false (sym e)) }
operand ExactEqual v p h = record { star = λ e. absurd (true≢false (sym e)); plain = λ e. absurd (true≢false (sym e)) }
operand TildeEqual v p h = record { star = λ e. absurd (true≢false (sym e)); plain = λ e. without_local v p h }
operand LessThan v p h = record { star = λ e. absurd (true≢false (sym e)); plain = λ e. without_local v p h }
operand LessThanEqual v p h = record { star = λ e. absurd (true≢false (sym e)); plain = λ e. without_local v p h }
operand GreaterThan v p h = record { star = λ e. absurd (true≢false (sym e)); plain = λ e. without_local v p h }
operand GreaterThanEqual v p h = record { star = λ e. absurd (true≢false (sym e)); plain = λ e. without_local v p h }

abbrev stands : Spec → Bool
stands s = may_stand s.operator s.version

each_denotable : (list : List Spec) → AllByRecursion IsParsedMember list → list_all stands list ≡ true → AllByRecursion IsDenotable list
each_denotable [] all h = tt
each_denotable (s ∷ list) all h =
    ((operand s.operator s.version all.0.version (left_true (stands s) (list_all stands list) h), parsed_denoted s.version all.0.version), each_denotable list all.1 (right_true (stands s) (list_all stands list) h))

pub denotable : (list : List Spec) → All IsParsedMember list → has_set list ≡ true → All IsDenotable list
denotable list all given = All-from_recursion IsDenotable list (each_denotable list (recursion_from_All IsParsedMember list all) (right_true (not (has_exact list)) (list_all stands list) given))

pub not_exact : (list : List Spec) → has_set list ≡ true → has_exact list ≡ false
not_exact list given = turned (has_exact list) (left_true (not (has_exact list)) (list_all stands list) given)

-- the set of a list has what the list matches literally
pub set_matches : (list : List Spec) (r : Record) → All IsParsedMember list → has_set list ≡ true → IsParsed r → contains record_cmp (list_set list) r ≡ list_matches_literally list r
set_matches list r parsed given p =
    let all = denotable list parsed given in
    list_holds list all (not_exact list given) r (parsed_denoted r p)
