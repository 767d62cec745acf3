-- The literal rule beside matching and beside the ranges of specifiers.
use Rattle.std.proofs.Common.{◌≡◌, ◌≢◌, ℕ, Bool, true, false, not, ◌&&◌, ◌||◌, List, [], ◌∷◌, Option, Some, None, is_some, refl, sym, ap, ◌∙◌, subst}
use Rattle.std.proofs.lemmas.Bool.{true≢false}
use Rattle.std.specs.Option.{option_map_or}
use Rattle.std.specs.Ordering.{nat_cmp, ordering_then, is_eq, is_gt, is_le, is_lt}
use Rattle.std.specs.Prelude.{is_none}
use Rattle.std.specs.declared.cmp.Ordering.{Ordering}
use Rattle.std.specs.declared.cmp.Ordering.TheVariants as ord
use Rattle.std.specs.declared.ops.Bound.TheVariants.{Included, Unbounded}
use Rattle.pep440_ranges.specs.RangeSegments.{contains}
use Rattle.pep440_rs.proofs.Agreement.Prefix.{mapped, some_is}
use Rattle.pep440_rs.proofs.Agreement.Single.{agrees}
use Rattle.pep440_rs.proofs.Agreement.VersionOrder.{by_parts, is_plain, only_start, plain, same_base, turn_le, turn_lt}
use Rattle.pep440_rs.specs.Agreement.{HasNoLocalOrSentinel, HasOperand}
use Rattle.pep440_rs.specs.Bounds.{Segments, greater, next_number, range_of}
use Rattle.pep440_rs.specs.LiteralMatching.{is_before, is_postrelease_of, is_prerelease_of, matches_literally, same_pre}
use Rattle.pep440_rs.specs.Matching.{any_prerelease, candidate, has_local, is_early, is_late, matches, same_release}
use Rattle.pep440_rs.specs.declared.specifier.operator.Operator.{Operator}
use Rattle.pep440_rs.specs.declared.specifier.operator.Operator.TheVariants.{Equal, EqualStar, ExactEqual, NotEqual, NotEqualStar, TildeEqual, LessThan, LessThanEqual, GreaterThan, GreaterThanEqual}
use Rattle.pep440_version.proofs.RoundTrip.PrintIsRead.{derived_record}
use Rattle.pep440_version.specs.Key.{Final, NoDev, NoPost, PostTop, Pre, base_cmp, dev_cmp, dev_of, local_cmp, post_cmp, post_of, record_cmp, release_cmp, stage_cmp, stage_of, suffix_cmp}
use Rattle.pep440_version.specs.Record.{Record, from_parts}
use Rattle.pep440_version.specs.declared.prerelease.Prerelease.{Prerelease}
use Rattle.pep440_version.specs.declared.prerelease.PrereleaseKind.{PrereleaseKind}
use Rattle.pep440_version.specs.declared.prerelease.PrereleaseKind.TheVariants.{Alpha, Beta, Rc}
use Rattle.pep440_sets.proofs.AfterParts.{HasSuffixesThatFit, past_posts}
use Rattle.pep440_sets.proofs.Exclusive.{greater_holds}
use Rattle.pep440_sets.proofs.Intervals.{posts_base}
use Rattle.pep440_sets.proofs.Matches.{has_fits}
use Rattle.pep440_sets.specs.LiteralLaws.{AgreesElsewhere, IsWider, RangeAgreesLiterally, is_below_post, may_differ}
use Rattle.pep440_sets.specs.NextVersions.{after_dev_releases, after_posts}
use Rattle.pep440_sets.specs.Sets.{above_start}

-- ---- what `contains` has, the literal rule matches

before_any : (post : Option ℕ) (v : Record) → is_before post v ≡ true → any_prerelease v ≡ true
before_any None v h = h
before_any (Some p) v h = go (is_some v.pre) (is_none v.pre) (is_some v.dev) _ h
  where
    go : (p n d q : Bool) → n && (d && q) ≡ true → p || d ≡ true
    go true n d q h = refl
    go false true true q h = refl
    go false true false q h = h
    go false false d q h = absurd (true≢false (sym h))

fewer : (a b c : Bool) → (c ≡ true → b ≡ true) → a && not b ≡ true → a && not c ≡ true
fewer true true c f h = absurd (true≢false (sym h))
fewer true false true f h = absurd (true≢false (sym (f refl)))
fewer true false false f h = refl
fewer false b c f h = h

early_both : (any_s same any_v before : Bool) → (before ≡ true → any_v ≡ true) → not any_s && (same && before) ≡ true → (same && not any_s) && any_v ≡ true
early_both true same any_v before f h = absurd (true≢false (sym h))
early_both false true any_v before f h = f h
early_both false false any_v before f h = absurd (true≢false (sym h))

late_both : (post dev same pre post_v local : Bool) → not (post || dev) && (same && (pre && post_v)) ≡ true → same && ((post_v && not post) || local) ≡ true
late_both true dev same pre post_v local h = absurd (true≢false (sym h))
late_both false true same pre post_v local h = absurd (true≢false (sym h))
late_both false false true true true local h = refl
late_both false false true true false local h = absurd (true≢false (sym h))
late_both false false true false post_v local h = absurd (true≢false (sym h))
late_both false false false pre post_v local h = h

pub is_wider : IsWider
is_wider LessThan s v h = fewer (is_lt (record_cmp (candidate s v) s)) (is_early s v) (is_prerelease_of s v) (early_both (any_prerelease s) (same_release s v) (any_prerelease v) (is_before s.post v) (before_any s.post v)) h
is_wider GreaterThan s v h = fewer (is_gt (record_cmp (candidate s v) s)) (is_late s v) (is_postrelease_of s v) (late_both (is_some s.post) (is_some s.dev) (same_release s v) (same_pre v.pre s.pre) (is_some v.post) (has_local (candidate s v))) h
is_wider Equal s v h = h
is_wider NotEqual s v h = h
is_wider GreaterThanEqual s v h = h
is_wider LessThanEqual s v h = h
is_wider EqualStar s v h = h
is_wider NotEqualStar s v h = h
is_wider ExactEqual s v h = h
is_wider TildeEqual s v h = h

-- ---- elsewhere both agree

less_table : (lt any_s same any_v post before : Bool) → (before ≡ true → any_v ≡ true) → (post ≡ false → before ≡ any_v) → same && ((post && not any_s) && any_v) ≡ false →
    lt && not (not any_s && (same && before)) ≡ lt && not ((same && not any_s) && any_v)
less_table false any_s same any_v post before f g h = refl
less_table true true true any_v post before f g h = refl
less_table true true false any_v post before f g h = refl
less_table true false false any_v post before f g h = refl
less_table true false true true true before f g h = absurd (true≢false h)
less_table true false true false true true f g h = absurd (true≢false (sym (f refl)))
less_table true false true false true false f g h = refl
less_table true false true any_v false before f g h = ap not (g refl)

no_post_before : (post : Option ℕ) (v : Record) → is_some post ≡ false → is_before post v ≡ any_prerelease v
no_post_before None v h = refl
no_post_before (Some p) v h = absurd (true≢false h)

less_agrees : (s v : Record) → may_differ LessThan s v ≡ false → matches_literally LessThan s v ≡ matches LessThan s v
less_agrees s v h = less_table (is_lt (record_cmp (candidate s v) s)) (any_prerelease s) (same_release s v) (any_prerelease v) (is_some s.post) (is_before s.post v) (before_any s.post v) (no_post_before s.post v) h

-- of a final release nothing of the same release with a pre-release is above
pre_not_above : (e : ℕ) (r : List ℕ) (v : Record) (p : Prerelease) → v.pre ≡ Some p → base_cmp v (from_parts e r None None None []) ≡ ord.Equal → is_gt (record_cmp (record v { local = [] }) (from_parts e r None None None [])) ≡ false
pre_not_above e r v p is base = ap is_gt (by_parts (record v { local = [] }) (from_parts e r None None None [])) ∙ table _ _ base (staged v.min v.pre is)
  where
    below : (k : PrereleaseKind) (n : ℕ) (t : Ordering) → is_gt (ordering_then (ordering_then (stage_cmp (Pre k n) Final) t) ord.Equal) ≡ false
    below Alpha n t = refl
    below Beta n t = refl
    below Rc n t = refl

    staged : (min : Option ℕ) (pre : Option Prerelease) → pre ≡ Some p → is_gt (ordering_then (ordering_then (stage_cmp (stage_of min pre v.dev v.post v.max) Final) (ordering_then (post_cmp (post_of v.max v.post) NoPost) (dev_cmp (dev_of v.min v.dev) NoDev))) ord.Equal) ≡ false
    staged (Some n) pre h = refl
    staged None None h = absurd (cc)
    staged None (Some q) h = below q.kind q.number _

    table : (B S : Ordering) → B ≡ ord.Equal → is_gt (ordering_then S ord.Equal) ≡ false → is_gt (ordering_then B (ordering_then S ord.Equal)) ≡ false
    table B S b h = ap (λ o. is_gt (ordering_then o (ordering_then S ord.Equal))) b ∙ h

final_table : (gt same pn vp : Bool) → (pn ≡ false → same ≡ true → gt ≡ false) → gt && not (true && (same && (pn && vp))) ≡ gt && not (same && ((vp && true) || false))
final_table gt same true true f = refl
final_table gt same true false f = refl
final_table true true false vp f = absurd (true≢false (f refl refl))
final_table false true false vp f = refl
final_table true false false vp f = refl
final_table false false false vp f = refl

other_table : (gt same sp vp : Bool) → same && (true && vp) ≡ false → gt && not (not false && (same && (sp && vp))) ≡ gt && not (same && ((vp && true) || false))
other_table gt true sp true h = absurd (true≢false h)
other_table gt true true false h = refl
other_table gt true false false h = refl
other_table gt false sp vp h = refl

dev_table : (gt same vp : Bool) → same && (true && vp) ≡ false → gt && true ≡ gt && not (same && ((vp && true) || false))
dev_table gt true true h = absurd (true≢false h)
dev_table gt true false h = refl
dev_table gt false vp h = refl

post_table : (gt same vp : Bool) → gt && true ≡ gt && not (same && ((vp && false) || false))
post_table gt true true = refl
post_table gt true false = refl
post_table gt false vp = refl

equal_base : (o : Ordering) → is_eq o ≡ true → o ≡ ord.Equal
equal_base ord.Less h = absurd (true≢false (sym h))
equal_base ord.Equal h = refl
equal_base ord.Greater h = absurd (true≢false (sym h))

none_or_pre : (pre : Option Prerelease) → same_pre pre None ≡ false → (p : Prerelease) × (pre ≡ Some p)
none_or_pre None h = absurd (true≢false h)
none_or_pre (Some p) h = (p, refl)

greater_agrees : (e : ℕ) (r : List ℕ) (pre : Option Prerelease) (post dev : Option ℕ) (v : Record) → may_differ GreaterThan (from_parts e r pre post dev []) v ≡ false →
    matches_literally GreaterThan (from_parts e r pre post dev []) v ≡ matches GreaterThan (from_parts e r pre post dev []) v
greater_agrees e r pre (Some w) dev v h = post_table (is_gt (record_cmp (record v { local = [] }) (from_parts e r pre (Some w) dev []))) (same_release (from_parts e r pre (Some w) dev []) v) (is_some v.post)
greater_agrees e r (Some p) None None v h = other_table (is_gt (record_cmp (record v { local = [] }) (from_parts e r (Some p) None None []))) (same_release (from_parts e r (Some p) None None []) v) (same_pre v.pre (Some p)) (is_some v.post) h
greater_agrees e r (Some p) None (Some d) v h = dev_table (is_gt (record_cmp (record v { local = [] }) (from_parts e r (Some p) None (Some d) []))) (same_release (from_parts e r (Some p) None (Some d) []) v) (is_some v.post) h
greater_agrees e r None None (Some d) v h = dev_table (is_gt (record_cmp (record v { local = [] }) (from_parts e r None None (Some d) []))) (same_release (from_parts e r None None (Some d) []) v) (is_some v.post) h
greater_agrees e r None None None v h =
    let s = from_parts e r None None None [] in
    final_table (is_gt (record_cmp (record v { local = [] }) s)) (same_release s v) (same_pre v.pre None) (is_some v.post)
    (λ pre same. let is = none_or_pre v.pre pre in pre_not_above e r v is.0 is.1 (equal_base (base_cmp v s) (sym (same_base s v) ∙ same)))

each_agrees : (o : Operator) (s v : Record) → HasOperand (record { operator = o; version = s }) → may_differ o s v ≡ false → matches_literally o s v ≡ matches o s v
each_agrees LessThan s v h d = less_agrees s v d
each_agrees GreaterThan s v h d =
    let is = is_plain s (h.plain refl) in
    subst (λ t. matches_literally GreaterThan t v ≡ matches GreaterThan t v) (sym is) (greater_agrees s.epoch s.release s.pre s.post s.dev v (ap (λ t. may_differ GreaterThan t v) (sym is) ∙ d))
each_agrees Equal s v h d = refl
each_agrees NotEqual s v h d = refl
each_agrees GreaterThanEqual s v h d = refl
each_agrees LessThanEqual s v h d = refl
each_agrees EqualStar s v h d = refl
each_agrees NotEqualStar s v h d = refl
each_agrees ExactEqual s v h d = refl
each_agrees TildeEqual s v h d = refl

pub agrees_elsewhere : AgreesElsewhere
agrees_elsewhere s v h d = each_agrees s.operator s.version v h d

-- ---- ranges

-- above the sentinel max are the greater stages
above_top : (e : ℕ) (r : List ℕ) (pre : Option Prerelease) (v : Record) → HasSuffixesThatFit v →
    is_gt (record_cmp (plain v) (record (from_parts e r pre None None []) { max = Some 0 })) ≡ not (is_lt (record_cmp (plain v) (after_posts e r pre)))
above_top e r pre v f =
    let next = after_posts e r pre in
    let base = posts_base e r pre in
    let top = record (from_parts e r pre None None []) { max = Some 0 } in
    ap is_gt (by_parts (plain v) top)
    ∙ table (ordering_then (nat_cmp v.epoch e) (release_cmp v.release r)) (suffix_cmp (plain v) top) (suffix_cmp (plain v) next) _ (stages pre v.post v.dev) (past_posts e r pre v f)
    ∙ (λ i. not (is_lt (ordering_then (ordering_then (nat_cmp v.epoch (sym base.epoch i)) (release_cmp v.release (sym base.release i))) (ordering_then (suffix_cmp (plain v) next) (local_cmp [] (sym base.local i))))))
    ∙ ap (λ o. not (is_lt o)) (sym (by_parts (plain v) next))
  where
    table : (B X S : Ordering) (g : Bool) → is_gt (ordering_then X ord.Equal) ≡ g → not (is_lt (ordering_then S ord.Equal)) ≡ g → is_gt (ordering_then B (ordering_then X ord.Equal)) ≡ not (is_lt (ordering_then B (ordering_then S ord.Equal)))
    table ord.Less X S g h k = refl
    table ord.Greater X S g h k = refl
    table ord.Equal X S g h k = h ∙ sym k

    lower : (O : Ordering) (t : Ordering) → is_gt (ordering_then (ordering_then O (ordering_then ord.Less t)) ord.Equal) ≡ is_gt O
    lower ord.Less t = refl
    lower ord.Equal t = refl
    lower ord.Greater t = refl

    stages : (pre : Option Prerelease) (post dev : Option ℕ) →
        is_gt (ordering_then (ordering_then (stage_cmp (stage_of None v.pre v.dev v.post None) (stage_of None pre None None (Some 0))) (ordering_then (post_cmp (post_of None post) (PostTop 0)) (dev_cmp (dev_of None dev) NoDev))) ord.Equal)
        ≡ is_gt (stage_cmp (stage_of None v.pre v.dev v.post None) (stage_of None pre None None None))
    stages None None dev = lower (stage_cmp (stage_of None v.pre v.dev v.post None) Final) (dev_cmp (dev_of None dev) NoDev)
    stages None (Some w) dev = lower (stage_cmp (stage_of None v.pre v.dev v.post None) Final) (dev_cmp (dev_of None dev) NoDev)
    stages (Some p) None dev = lower (stage_cmp (stage_of None v.pre v.dev v.post None) (Pre p.kind p.number)) (dev_cmp (dev_of None dev) NoDev)
    stages (Some p) (Some w) dev = lower (stage_cmp (stage_of None v.pre v.dev v.post None) (Pre p.kind p.number)) (dev_cmp (dev_of None dev) NoDev)

-- from a version on
from_holds : (x v : Record) → contains record_cmp ((Included x, Unbounded) ∷ []) v ≡ not (is_lt (record_cmp v x))
from_holds x v = only_start (is_le (record_cmp x v)) ∙ turn_le x v

greater_range : (e : ℕ) (r : List ℕ) (pre : Option Prerelease) (post dev : Option ℕ) (v : Record) (range : Segments) → HasSuffixesThatFit v → greater (from_parts e r pre post dev []) dev post ≡ Some range →
    contains record_cmp range (plain v) ≡ not (is_lt (record_cmp (plain v) (above_start (from_parts e r pre post dev []))))
greater_range e r pre (Some w) (Some d) v range f h =
    let m = mapped _ (next_number d) range h in
    ap (λ q. contains record_cmp q (plain v)) m.2 ∙ from_holds (from_parts e r pre (Some w) (Some m.0) []) (plain v)
    ∙ ap (λ o. not (is_lt (record_cmp (plain v) (option_map_or (λ n. from_parts e r pre (Some w) (Some n) []) o (after_dev_releases e r pre (Some w)))))) (sym m.1)
greater_range e r pre None (Some d) v range f h =
    let m = mapped _ (next_number d) range h in
    ap (λ q. contains record_cmp q (plain v)) m.2 ∙ from_holds (from_parts e r pre None (Some m.0) []) (plain v)
    ∙ ap (λ o. not (is_lt (record_cmp (plain v) (option_map_or (λ n. from_parts e r pre None (Some n) []) o (after_dev_releases e r pre None))))) (sym m.1)
greater_range e r pre (Some w) None v range f h =
    let m = mapped _ (next_number w) range h in
    ap (λ q. contains record_cmp q (plain v)) m.2 ∙ from_holds (from_parts e r pre (Some m.0) (Some 0) []) (plain v)
    ∙ ap (λ o. not (is_lt (record_cmp (plain v) (option_map_or (λ n. from_parts e r pre (Some n) (Some 0) []) o (after_posts e r pre))))) (sym m.1)
greater_range e r pre None None v range f h =
    ap (λ q. contains record_cmp q (plain v)) (some_is _ range h)
    ∙ only_start (is_lt (record_cmp (record (from_parts e r pre None None []) { max = Some 0 }) (plain v))) ∙ turn_lt (record (from_parts e r pre None None []) { max = Some 0 }) (plain v)
    ∙ above_top e r pre v f

above_range : (s v : Record) (range : Segments) → s ≡ plain s → v ≡ plain v → HasSuffixesThatFit v → range_of GreaterThan s ≡ Some range → contains record_cmp range v ≡ matches_literally GreaterThan s v
above_range s v range p q f h =
    subst (λ w. contains record_cmp range w ≡ matches_literally GreaterThan s w) (sym q)
    (subst (λ t. range_of GreaterThan t ≡ Some range → contains record_cmp range (plain v) ≡ matches_literally GreaterThan t (plain v)) (sym p)
    (λ g. greater_range s.epoch s.release s.pre s.post s.dev v range f g ∙ greater_holds s (plain v) (record { pre = f.pre; post = f.post; dev = f.dev })) h)

no_dev_below : (same post any any_v : Bool) → post && not any ≡ false → same && ((post && not any) && any_v) ≡ false
no_dev_below true post any any_v h = ap (λ b. b && any_v) h
no_dev_below false post any any_v h = refl

comparable : (same post any : Bool) → post && not any ≡ false → not same || not post || any ≡ true
comparable false post any h = refl
comparable true false any h = refl
comparable true true true h = refl
comparable true true false h = absurd (true≢false h)

each_range : (o : Operator) (s v : Record) (range : Segments) → range_of o s ≡ Some range → HasOperand (record { operator = o; version = s }) → o ≢ ExactEqual → is_below_post o s ≡ false →
    HasNoLocalOrSentinel v → HasSuffixesThatFit v → contains record_cmp range v ≡ matches_literally o s v
each_range Equal s v range h k n b p f = agrees (record { operator = Equal; version = s }) range h k v (record { operator = n; plain = p; suffixes = tt })
each_range NotEqual s v range h k n b p f = agrees (record { operator = NotEqual; version = s }) range h k v (record { operator = n; plain = p; suffixes = tt })
each_range EqualStar s v range h k n b p f = agrees (record { operator = EqualStar; version = s }) range h k v (record { operator = n; plain = p; suffixes = tt })
each_range NotEqualStar s v range h k n b p f = agrees (record { operator = NotEqualStar; version = s }) range h k v (record { operator = n; plain = p; suffixes = tt })
each_range TildeEqual s v range h k n b p f = agrees (record { operator = TildeEqual; version = s }) range h k v (record { operator = n; plain = p; suffixes = tt })
each_range GreaterThanEqual s v range h k n b p f = agrees (record { operator = GreaterThanEqual; version = s }) range h k v (record { operator = n; plain = p; suffixes = tt })
each_range LessThanEqual s v range h k n b p f = agrees (record { operator = LessThanEqual; version = s }) range h k v (record { operator = n; plain = p; suffixes = tt })
each_range LessThan s v range h k n b p f =
    agrees (record { operator = LessThan; version = s }) range h k v (record { operator = n; plain = p; suffixes = comparable (same_release s v) (is_some s.post) (any_prerelease s) b })
    ∙ sym (less_agrees s v (no_dev_below (same_release s v) (is_some s.post) (any_prerelease s) (any_prerelease v) b))
each_range GreaterThan s v range h k n b p f = above_range s v range (is_plain s (k.plain refl)) (is_plain v p) f h
each_range ExactEqual s v range h k n b p f = absurd (n refl)

pub range_agrees_literally : RangeAgreesLiterally
range_agrees_literally s range h k n b v (text, d) none =
    each_range s.operator s.version v range h k n b (record { local = none; min = d.no_min; max = d.no_max }) (has_fits v (derived_record text v d)).suffixes
