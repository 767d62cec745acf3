-- `<`: its range agrees with matching, and lies within it whatever the suffixes.
use Rattle.std.proofs.Common.{◌≡◌, Bool, true, false, cond, not, ◌&&◌, ◌||◌, IsTrue, [], ◌∷◌, Some, is_some, refl, sym, ap, ◌∙◌}
use mathlib.Core.Bool.{true≢false}
use Rattle.std.specs.Ordering.{ordering_then, is_lt, is_eq}
use Rattle.std.specs.declared.cmp.Ordering.{Ordering}
use Rattle.std.specs.declared.cmp.Ordering.TheVariants as ord
use Rattle.std.specs.declared.ops.Bound.TheVariants.{Excluded, Unbounded}
use Rattle.pep440_rs.proofs.Agreement.VersionOrder.{by_parts, same_base, plain, only_end}
use Rattle.pep440_rs.proofs.Agreement.Suffixes.{above_min, early}
use Rattle.pep440_rs.specs.Agreement.{IsSuffixComparable}
use Rattle.pep440_rs.specs.Bounds.{less}
use Rattle.pep440_rs.specs.Matching.{matches, same_release, any_prerelease}
use Rattle.pep440_rs.specs.declared.specifier.operator.Operator.TheVariants.{LessThan}
use Rattle.pep440_ranges.specs.RangeSegments.{contains}
use Rattle.pep440_version.specs.Key.{base_cmp, suffix_cmp, record_cmp}
use Rattle.pep440_version.specs.Record.{Record}

-- the test of the suffixes, under an equal base
pub in_equal : (B : Ordering) (x y : Bool) → not (is_eq B) || x || y ≡ true → B ≡ ord.Equal → x || y ≡ true
in_equal B x y h e = rw e at h

-- below the mark, by base B, order X to the mark and Y to s
lt_table : (B X Y : Ordering) (p : Bool) → (B ≡ ord.Equal → X ≡ ord.Greater) → (B ≡ ord.Equal → is_lt Y ≡ true → p ≡ true) →
    is_lt (ordering_then B (ordering_then X ord.Equal)) ≡ is_lt (ordering_then B (ordering_then Y ord.Equal)) && not (is_eq B && p)
lt_table ord.Less X Y p h k = refl
lt_table ord.Greater X Y p h k = refl
lt_table ord.Equal X Y p h k = rw (h refl) (go Y (k refl))
  where
    go : (Y : Ordering) → (is_lt Y ≡ true → p ≡ true) → false ≡ is_lt (ordering_then Y ord.Equal) && not p
    go ord.Less k = ap not (sym (k refl))
    go ord.Equal k = refl
    go ord.Greater k = refl

abbrev pub marked : Record → Record
marked s = record (plain s) { min = Some 0 }

below_agrees : (s v : Record) → any_prerelease (plain s) ≡ false → not (is_eq (base_cmp (plain v) (plain s))) || not (is_some s.post) || any_prerelease (plain s) ≡ true →
    is_lt (record_cmp (plain v) (marked s)) ≡ is_lt (record_cmp (plain v) (plain s)) && not (is_eq (base_cmp (plain v) (plain s)) && any_prerelease (plain v))
below_agrees s v n h =
    ap is_lt (by_parts (plain v) (marked s))
    ∙ lt_table (base_cmp (plain v) (plain s)) (suffix_cmp (plain v) (marked s)) (suffix_cmp (plain v) (plain s)) (any_prerelease (plain v))
    (λ e. rw (above_min v.pre v.post v.dev) refl)
    (λ e. early s v n (in_equal _ _ _ h e))
    ∙ ap (λ o. is_lt o && not (is_eq (base_cmp (plain v) (plain s)) && any_prerelease (plain v))) (sym (by_parts (plain v) (plain s)))

pub less_agrees : (s v : Record) → IsSuffixComparable LessThan (plain s) (plain v) → contains record_cmp (less (plain s)) (plain v) ≡ matches LessThan (plain s) (plain v)
less_agrees s v c = go (any_prerelease (plain s)) refl
  where
    pass : (b e p : Bool) → b || false ≡ b && not (e && false && p)
    pass true true p = refl
    pass true false p = refl
    pass false e p = refl

    stay : (b e f p : Bool) → e ≡ f → b && not (e && p) ≡ b && not (f && true && p)
    stay b true f p h = ap (λ f. b && not (f && true && p)) h
    stay b false f p h = ap (λ f. b && not (f && true && p)) h

    go : (b : Bool) → any_prerelease (plain s) ≡ b →
        contains record_cmp (cond b ((Unbounded, Excluded (plain s)) ∷ []) ((Unbounded, Excluded (marked s)) ∷ [])) (plain v)
        ≡ is_lt (record_cmp (plain v) (plain s)) && not (same_release (plain s) (plain v) && not b && any_prerelease (plain v))
    go true e = pass (is_lt (record_cmp (plain v) (plain s))) (same_release (plain s) (plain v)) (any_prerelease (plain v))
    go false e =
        only_end (is_lt (record_cmp (plain v) (marked s)))
        ∙ below_agrees s v e (ap (λ b. not b || not (is_some s.post) || any_prerelease (plain s)) (sym (same_base (plain s) (plain v))) ∙ c)
        ∙ stay (is_lt (record_cmp (plain v) (plain s))) _ (same_release (plain s) (plain v)) (any_prerelease (plain v)) (sym (same_base (plain s) (plain v)))

within_table : (B X Y : Ordering) (p : Bool) → (B ≡ ord.Equal → X ≡ ord.Greater) →
    is_lt (ordering_then B (ordering_then X ord.Equal)) ≡ true → is_lt (ordering_then B (ordering_then Y ord.Equal)) && not (is_eq B && p) ≡ true
within_table ord.Less X Y p h k = refl
within_table ord.Greater X Y p h k = k
within_table ord.Equal X Y p h k = absurd (true≢false (sym k ∙ ap (λ x. is_lt (ordering_then x ord.Equal)) (h refl)))

pub less_within : (s v : Record) → IsTrue (contains record_cmp (less (plain s)) (plain v)) → IsTrue (matches LessThan (plain s) (plain v))
less_within s v = go (any_prerelease (plain s)) refl
  where
    pass : (b e p : Bool) → b || false ≡ true → b && not (e && false && p) ≡ true
    pass true true p h = refl
    pass true false p h = refl
    pass false e p h = h

    stay : (b e f p : Bool) → e ≡ f → b && not (f && true && p) ≡ b && not (e && p)
    stay b true f p h = ap (λ f. b && not (f && true && p)) (sym h)
    stay b false f p h = ap (λ f. b && not (f && true && p)) (sym h)

    go : (b : Bool) → any_prerelease (plain s) ≡ b →
        contains record_cmp (cond b ((Unbounded, Excluded (plain s)) ∷ []) ((Unbounded, Excluded (marked s)) ∷ [])) (plain v) ≡ true →
        is_lt (record_cmp (plain v) (plain s)) && not (same_release (plain s) (plain v) && not b && any_prerelease (plain v)) ≡ true
    go true e h = pass (is_lt (record_cmp (plain v) (plain s))) (same_release (plain s) (plain v)) (any_prerelease (plain v)) h
    go false e h =
        stay (is_lt (record_cmp (plain v) (plain s))) _ (same_release (plain s) (plain v)) (any_prerelease (plain v)) (sym (same_base (plain s) (plain v)))
        ∙ ap (λ o. is_lt o && not (is_eq (base_cmp (plain v) (plain s)) && any_prerelease (plain v))) (by_parts (plain v) (plain s))
        ∙ within_table (base_cmp (plain v) (plain s)) (suffix_cmp (plain v) (marked s)) (suffix_cmp (plain v) (plain s)) (any_prerelease (plain v))
        (λ e. rw (above_min v.pre v.post v.dev) refl)
        (ap is_lt (sym (by_parts (plain v) (marked s))) ∙ sym (only_end (is_lt (record_cmp (plain v) (marked s)))) ∙ h)
