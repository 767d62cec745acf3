-- The version that is found for a list matches it, and where none is found the list matches none.
use Rattle.std.proofs.Common.{◌≡◌, ◌&&◌, ◌||◌, Bool, true, false, cond, IsTrue, List, [], ◌∷◌, Option, Some, None, IfSome, refl, sym, ap, ◌∙◌, subst}
use Rattle.std.proofs.lemmas.Bool.{true≢false}
use Rattle.std.proofs.lemmas.List.Elements.{All-head, All-tail}
use Rattle.std.specs.Cmp.Lexicographic.{same_text}
use Rattle.std.specs.List.{All, find}
use Rattle.std.specs.Option.{option_map_or}
use Rattle.pep440_ranges.specs.RangeSegments.{contains}
use Rattle.pep440_rs.specs.Bounds.{Segments}
use Rattle.pep440_rs.specs.Denoted.{IsDenotable, IsDenoted}
use Rattle.pep440_rs.specs.LiteralMatching.{list_matches_literally, matches_literally}
use Rattle.pep440_rs.specs.Specifiers.{Spec}
use Rattle.pep440_rs.specs.declared.specifier.operator.Operator.{Operator}
use Rattle.pep440_rs.specs.declared.specifier.operator.Operator.TheVariants.{Equal, EqualStar, ExactEqual, NotEqual, NotEqualStar, TildeEqual, LessThan, LessThanEqual, GreaterThan, GreaterThanEqual}
use Rattle.pep440_version.proofs.Reading.Agreement.{one_record}
use Rattle.pep440_version.proofs.RoundTrip.PrintIsRead.{derived_again}
use Rattle.pep440_version.specs.Grammar.{Derives}
use Rattle.pep440_version.specs.Key.{record_cmp}
use Rattle.pep440_version.specs.Print.{print}
use Rattle.pep440_version.specs.Record.{Record}
use Rattle.pep440_sets.proofs.Lists.{found_is_in, list_holds, list_is_set}
use Rattle.pep440_sets.specs.Common.{common_version, named_version}
use Rattle.pep440_sets.specs.Emptiness.{IsUnsatisfiable, IsVersionOf}
use Rattle.pep440_sets.specs.Sets.{has_exact, is_exact, list_set}
use Rattle.pep440_sets.specs.Witnesses.{version_between, version_in}

abbrev exact_member : Spec → Bool
exact_member m = is_exact m.operator

-- ---- the first `===`

none_exact : (members : List Spec) → find exact_member members ≡ None → has_exact members ≡ false
none_exact [] h = refl
none_exact (m ∷ members) h = go (is_exact m.operator) refl h (none_exact members)
  where
    go : (b : Bool) → is_exact m.operator ≡ b → cond b (Some m) (find exact_member members) ≡ None → (find exact_member members ≡ None → has_exact members ≡ false) → is_exact m.operator || has_exact members ≡ false
    go true e h f = absurd (cc)
    go false e h f = ap (λ b. b || has_exact members) e ∙ f h

operator_is : (o : Operator) → is_exact o ≡ true → o ≡ ExactEqual
operator_is Equal h = absurd (true≢false (sym h))
operator_is EqualStar h = absurd (true≢false (sym h))
operator_is ExactEqual h = refl
operator_is NotEqual h = absurd (true≢false (sym h))
operator_is NotEqualStar h = absurd (true≢false (sym h))
operator_is TildeEqual h = absurd (true≢false (sym h))
operator_is LessThan h = absurd (true≢false (sym h))
operator_is LessThanEqual h = absurd (true≢false (sym h))
operator_is GreaterThan h = absurd (true≢false (sym h))
operator_is GreaterThanEqual h = absurd (true≢false (sym h))

-- the member that is found: it is denotable, it is `===`, and what the list matches it matches
record IsFoundExact (members : List Spec) (m : Spec) : Type 0 where
  denotable : IsDenotable m
  exact : m.operator ≡ ExactEqual
  matches : (v : Record) → IsTrue (list_matches_literally members v) → IsTrue (matches_literally m.operator m.version v)

left_of : (a b : Bool) → a && b ≡ true → a ≡ true
left_of true b h = refl
left_of false b h = h

right_of : (a b : Bool) → a && b ≡ true → b ≡ true
right_of true b h = h
right_of false b h = absurd (true≢false (sym h))

found_exact : (members : List Spec) (m : Spec) → All IsDenotable members → find exact_member members ≡ Some m → IsFoundExact members m
found_exact [] m all h = absurd (cc)
found_exact (n ∷ members) m all h = go (is_exact n.operator) refl h (found_exact members m (All-tail IsDenotable n members all))
  where
    first : n ≡ m → is_exact n.operator ≡ true → IsFoundExact (n ∷ members) m
    first e x = subst (IsFoundExact (n ∷ members)) e (record {
      denotable = All-head IsDenotable n members all;
      exact = operator_is n.operator x;
      matches = λ v h. left_of (matches_literally n.operator n.version v) (list_matches_literally members v) h;
    })

    go : (b : Bool) → is_exact n.operator ≡ b → cond b (Some n) (find exact_member members) ≡ Some m → (find exact_member members ≡ Some m → IsFoundExact members m) → IsFoundExact (n ∷ members) m
    go true e h f = first (cc) e
    go false e h f =
        let later = f h in
        record { denotable = later.denotable; exact = later.exact; matches = λ v h. later.matches v (right_of (matches_literally n.operator n.version v) (list_matches_literally members v) h) }

-- a version that `===` matches is its own
same_version : (s v : Record) → IsDenoted s → IsDenoted v → IsTrue (matches_literally ExactEqual s v) → v ≡ s
same_version s v (st, sd) (vt, vd) h = one_record (print v) v s (derived_again vt v vd) (subst (λ t. Derives t s) (same_text (print s) (print v) (sym h)) (derived_again st s sd))

-- ---- what is found

named_matches : (members : List Spec) (v : Record) (P : Record → Type 0) → (list_matches_literally members v ≡ true → P v) → IfSome (named_version members v) P
named_matches members v P f = go (list_matches_literally members v) refl
  where
    go : (b : Bool) → list_matches_literally members v ≡ b → IfSome (cond b (Some v) None) P
    go true e = f e
    go false e = tt

-- what is found in the set of a list without `===`
in_set : (members : List Spec) (P : Record → Type 0) → All IsDenotable members → ((v : Record) → IsVersionOf (list_set members) v → P v) → IfSome (version_in (list_set members)) P
in_set members P all f = go (list_set members) refl
  where
    go : (set : Segments) → list_set members ≡ set → IfSome (version_in set) P
    go [] e = tt
    go (s ∷ rest) e = f (version_between s.0 s.1) (found_is_in (list_set members) (list_is_set members all) s rest e)

by_found : (members : List Spec) (P : Record → Type 0) → All IsDenotable members →
    ((m : Spec) → IsFoundExact members m → list_matches_literally members m.version ≡ true → P m.version) →
    (has_exact members ≡ false → (v : Record) → IsVersionOf (list_set members) v → P v) → IfSome (common_version members) P
by_found members P all named other = go (find exact_member members) refl
  where
    go : (o : Option Spec) → find exact_member members ≡ o → IfSome (option_map_or (λ (m : Spec). named_version members m.version) o (version_in (list_set members))) P
    go (Some m) e = named_matches members m.version P (named m (found_exact members m all e))
    go None e = in_set members P all (other (none_exact members e))

pub common_matches : (members : List Spec) → All IsDenotable members → IfSome (common_version members) (λ v. IsTrue (list_matches_literally members v))
common_matches members all = by_found members (λ v. IsTrue (list_matches_literally members v)) all (λ m found h. h) (λ none v h. sym (list_holds members all none v h.0) ∙ h.1)

pub common_is_denoted : (members : List Spec) → All IsDenotable members → IfSome (common_version members) IsDenoted
common_is_denoted members all = by_found members IsDenoted all (λ m found h. found.denotable.1) (λ none v h. h.0)

pub none_in_common : (members : List Spec) → All IsDenotable members → common_version members ≡ None → IsUnsatisfiable members
none_in_common members all none v d h = go (find exact_member members) refl none
  where
    unnamed : (m : Spec) → IsFoundExact members m → (b : Bool) → list_matches_literally members m.version ≡ b → cond b (Some m.version) None ≡ None → ⊥
    unnamed m found true e k = cc k
    unnamed m found false e k =
        let exact = subst (λ o. IsTrue (matches_literally o m.version v)) found.exact (found.matches v h) in
        true≢false (sym h ∙ ap (list_matches_literally members) (same_version m.version v found.denotable.1 d exact) ∙ e)

    without : (set : Segments) → list_set members ≡ set → has_exact members ≡ false → version_in set ≡ None → ⊥
    without (s ∷ rest) e x k = cc k
    without [] e x k = true≢false (sym h ∙ sym (list_holds members all x v d) ∙ ap (λ l. contains record_cmp l v) e)

    go : (o : Option Spec) → find exact_member members ≡ o → option_map_or (λ (m : Spec). named_version members m.version) o (version_in (list_set members)) ≡ None → ⊥
    go (Some m) e k = unnamed m (found_exact members m all e) (list_matches_literally members m.version) refl k
    go None e k = without (list_set members) refl (none_exact members e) k
