-- The set of a list holds what its members match, and is a set; it is empty exactly if no version is in it.
use Rattle.std.proofs.Common.{◌≡◌, ◌≢◌, ◌<◌, ◌≤◌, ◌++◌, ◌&&◌, ◌||◌, Bool, true, false, List, [], ◌∷◌, IfSome, None, arith, fold, length, map, refl, sym, ap, ◌∙◌, subst}
use Rattle.std.proofs.lemmas.Bool.{true≢false}
use Rattle.std.proofs.lemmas.List.{map-append}
use Rattle.std.proofs.lemmas.List.Elements.{All-head, All-tail}
use Rattle.std.proofs.lemmas.List.Sums.{fold-append}
use Rattle.std.specs.List.{All}
use Rattle.pep440_ranges.proofs.Laws.{overlaps_hold_both}
use Rattle.pep440_ranges.specs.Intersection.{overlaps}
use Rattle.pep440_ranges.specs.RangeSegments.{contains}
use Rattle.pep440_rs.proofs.Intersecting.Associates.{overlaps_assoc}
use Rattle.pep440_rs.proofs.Intersecting.WholeLine.{kept}
use Rattle.pep440_rs.specs.Bounds.{Segments, full}
use Rattle.pep440_rs.specs.Conversions.{IsUnchangedByFull}
use Rattle.pep440_rs.specs.Denoted.{IsDenotable, IsDenoted}
use Rattle.pep440_rs.specs.LiteralMatching.{list_matches_literally, matches_literally}
use Rattle.pep440_rs.specs.Specifiers.{Spec}
use Rattle.pep440_rs.specs.declared.specifier.operator.Operator.{Operator}
use Rattle.pep440_rs.specs.declared.specifier.operator.Operator.TheVariants.{Equal, EqualStar, ExactEqual, NotEqual, NotEqualStar, TildeEqual, LessThan, LessThanEqual, GreaterThan, GreaterThanEqual}
use Rattle.pep440_version.proofs.RoundTrip.PrintIsRead.{reread}
use Rattle.pep440_version.specs.Key.{record_cmp}
use Rattle.pep440_version.specs.Key.KeyLaws.{record_total}
use Rattle.pep440_version.specs.Print.{print}
use Rattle.pep440_version.specs.Record.{Record}
use Rattle.pep440_sets.proofs.Matches.{holds_matches, set_is_range}
use Rattle.pep440_sets.proofs.SetBoundaries.{full_set, overlaps_set, set_of_set}
use Rattle.pep440_sets.proofs.VersionsBetween.{found_in}
use Rattle.pep440_sets.specs.Boundaries.{IsVersionSet}
use Rattle.pep440_version.specs.RoundTrip.{IsParsed}
use Rattle.pep440_sets.specs.Emptiness.{HasNoVersion, IsVersionOf}
use Rattle.pep440_sets.specs.Sets.{HoldsListMatches, has_exact, is_exact, list_set, specifier_set}
use Rattle.pep440_sets.specs.Witnesses.{version_between, version_in}

abbrev set_of_member : Spec → Segments
set_of_member m = specifier_set m.operator m.version

-- ---- lists

fold_set : (now : Segments) (members : List Spec) → IsVersionSet now → All IsDenotable members → IsVersionSet (fold (overlaps record_cmp) now (map set_of_member members))
fold_set now [] h all = h
fold_set now (m ∷ members) h all =
    fold_set (overlaps record_cmp now (set_of_member m)) members (overlaps_set now (set_of_member m) h (set_of_set m (All-head IsDenotable m members all))) (All-tail IsDenotable m members all)

pub list_is_set : (members : List Spec) → All IsDenotable members → IsVersionSet (list_set members)
list_is_set members all = fold_set full members full_set all

not_exact : (o : Operator) → is_exact o ≡ false → o ≢ ExactEqual
not_exact Equal h = λ e. cc e
not_exact EqualStar h = λ e. cc e
not_exact ExactEqual h = absurd (true≢false h)
not_exact NotEqual h = λ e. cc e
not_exact NotEqualStar h = λ e. cc e
not_exact TildeEqual h = λ e. cc e
not_exact LessThan h = λ e. cc e
not_exact LessThanEqual h = λ e. cc e
not_exact GreaterThan h = λ e. cc e
not_exact GreaterThanEqual h = λ e. cc e

neither : (a b : Bool) → a || b ≡ false → (a ≡ false) × (b ≡ false)
neither true b h = absurd (true≢false h)
neither false b h = (refl, h)

and_assoc : (a b c : Bool) → (a && b) && c ≡ a && (b && c)
and_assoc true b c = refl
and_assoc false b c = refl

fold_holds : (now : Segments) (members : List Spec) (v : Record) → All IsDenotable members → has_exact members ≡ false → IsDenoted v →
    contains record_cmp (fold (overlaps record_cmp) now (map set_of_member members)) v ≡ contains record_cmp now v && list_matches_literally members v
fold_holds now [] v all none d = and_true (contains record_cmp now v)
  where
    and_true : (b : Bool) → b ≡ b && true
    and_true true = refl
    and_true false = refl
fold_holds now (m ∷ members) v all none d =
    let both = neither (is_exact m.operator) (has_exact members) none in
    fold_holds (overlaps record_cmp now (set_of_member m)) members v (All-tail IsDenotable m members all) both.1 d
    ∙ ap (λ b. b && list_matches_literally members v) (overlaps_hold_both record_total now (set_of_member m) v ∙ ap (λ b. contains record_cmp now v && b) (holds_matches m (All-head IsDenotable m members all) (not_exact m.operator both.0) v d))
    ∙ and_assoc (contains record_cmp now v) (matches_literally m.operator m.version v) (list_matches_literally members v)

pub list_holds : (members : List Spec) → All IsDenotable members → has_exact members ≡ false → HoldsListMatches members (list_set members)
list_holds members all none v d = fold_holds full members v all none d

-- ---- emptiness

pub parsed_denoted : (v : Record) → IsParsed v → IsDenoted v
parsed_denoted v p = (print v, reread v p.valid p.round_trips)

pub found_is_in : (set : Segments) → IsVersionSet set → (s : _) (rest : Segments) → set ≡ s ∷ rest → IsVersionOf set (version_between s.0 s.1)
found_is_in set h s rest e =
    let found = found_in s rest (subst IsVersionSet e h) in
    (parsed_denoted _ found.0, ap (λ l. contains record_cmp l (version_between s.0 s.1)) e ∙ found.1)

pub empty_has_none : (set : Segments) → set ≡ [] → HasNoVersion set
empty_has_none set e v d = ap (λ l. contains record_cmp l v) e

pub none_is_empty : (set : Segments) → IsVersionSet set → HasNoVersion set → set ≡ []
none_is_empty [] h none = refl
none_is_empty (s ∷ rest) h none =
    let found = found_in s rest h in
    absurd (true≢false (sym found.1 ∙ none (version_between s.0 s.1) (parsed_denoted (version_between s.0 s.1) found.0)))

-- a version of the set, if it has intervals
pub first_is_in : (set : Segments) → IsVersionSet set → IfSome (version_in set) (IsVersionOf set)
first_is_in [] h = tt
first_is_in (s ∷ rest) h = found_is_in (s ∷ rest) h s rest refl

pub without_first : (set : Segments) → version_in set ≡ None → HasNoVersion set
without_first [] e = λ v d. refl
without_first (s ∷ rest) e = absurd (cc)

pub first_is_none : (set : Segments) → set ≡ [] → version_in set ≡ None
first_is_none set e = ap version_in e

-- ---- halves of a list

-- each member's set is a range
member_kept : (m : Spec) → IsUnchangedByFull (set_of_member m)
member_kept m = kept (set_of_member m) (set_is_range m.operator m.version)

pub one_member : (members others : List Spec) (m : Spec) (set : Segments) → members ≡ m ∷ others → length members ≤ 1 → set ≡ set_of_member m → set ≡ list_set members
one_member members [] m set e few is = is ∙ sym (ap list_set e ∙ member_kept m)
one_member members (x ∷ others) m set e few is = absurd (omega (arith, few, ap length e))

from_later : (now next : Segments) (sets : List Segments) → fold (overlaps record_cmp) (overlaps record_cmp now next) sets ≡ overlaps record_cmp now (fold (overlaps record_cmp) next sets)
from_later now next [] = refl
from_later now next (s ∷ sets) = ap (λ x. fold (overlaps record_cmp) x sets) (overlaps_assoc record_total now next s) ∙ from_later now (overlaps record_cmp next s) sets

-- what both halves share
pub halves : (members left right : List Spec) → members ≡ left ++ right → 0 < length right → list_set members ≡ overlaps record_cmp (list_set left) (list_set right)
halves members left [] e some = absurd (omega (arith, some))
halves members left (m ∷ right) e some =
    ap list_set e
    ∙ ap (fold (overlaps record_cmp) full) (map-append set_of_member left (m ∷ right))
    ∙ fold-append (overlaps record_cmp) full (map set_of_member left) (map set_of_member (m ∷ right))
    ∙ from_later (list_set left) (set_of_member m) (map set_of_member right)
    ∙ ap (λ x. overlaps record_cmp (list_set left) (fold (overlaps record_cmp) x (map set_of_member right))) (sym (member_kept m))
