-- Stars and `~=`: a release begins with the numbers exactly if it lies from them on and below the next that does not.
use Rattle.std.proofs.Common.{◌≡◌, ◌==◌, ◌+◌, ◌<◌, ◌^◌, ℕ, Bool, true, false, not, ◌&&◌, List, [], ◌∷◌, Option, Some, None, option_map, refl, sym, ap, ◌∙◌, subst, arith}
use mathlib.Core.Bool.{true≢false}
use Rattle.std.proofs.lemmas.Bool.Decides.{nat_tests}
use Rattle.std.specs.List.{AllByRecursion}
use Rattle.std.specs.Option.{option_map_or}
use Rattle.std.specs.Ordering.{nat_cmp, ordering_then, is_ge, is_lt}
use Rattle.std.specs.declared.cmp.Ordering.{Ordering}
use Rattle.std.specs.declared.cmp.Ordering.TheVariants as ord
use Rattle.pep440_rs.proofs.Agreement.Prefix.{below_prefix, next_is, step_more}
use Rattle.pep440_rs.proofs.Agreement.Star.{below_first_dev}
use Rattle.pep440_rs.proofs.Agreement.VersionOrder.{by_parts, ge_not_lt, plain}
use Rattle.pep440_rs.proofs.PublicParts.{below_bare, unmarked}
use Rattle.pep440_rs.specs.Bounds.{next_number}
use Rattle.pep440_rs.specs.Matching.{begins_with, has_prefix, without_last}
use Rattle.pep440_version.specs.Key.{record_cmp, release_cmp}
use Rattle.pep440_version.specs.Record.{Fits, Record}
use Rattle.pep440_sets.proofs.AfterParts.{none_is}
use Rattle.pep440_sets.proofs.Intervals.{never_below_zero}
use Rattle.pep440_sets.specs.NextVersions.{after_epoch, after_release_prefix, first_dev, raised_release}

-- ---- releases

never_less : (ys : List ℕ) → is_lt (release_cmp ys []) ≡ false
never_less [] = refl
never_less (y ∷ ys) = go y (release_cmp ys []) (never_less ys)
  where
    go : (y : ℕ) (t : Ordering) → is_lt t ≡ false → is_lt (ordering_then (nat_cmp y 0) t) ≡ false
    go y t h = grind (arith, nat_tests)

-- below the raised release; where there is none, below nothing is asked
abbrev below_raised : Option (List ℕ) → List ℕ → Bool
below_raised end rs = option_map_or (λ qs. is_lt (release_cmp rs qs)) end true

raise_here : (y x m : ℕ) (t u : Ordering) (b : Bool) → m ≡ x + 1 → is_lt u ≡ false → not (is_lt t) && true ≡ b → not (is_lt (ordering_then (nat_cmp y x) t)) && is_lt (ordering_then (nat_cmp y m) u) ≡ (y == x) && b
raise_here y x m t u b e h k = grind (arith, nat_tests)

at_most : (y : ℕ) (t : Ordering) (b : Bool) → y < 2 ^ 64 → not (is_lt t) && true ≡ b → not (is_lt (ordering_then (nat_cmp y 18446744073709551615) t)) && true ≡ (y == 18446744073709551615) && b
at_most y t b f k = grind (arith, nat_tests)

-- one number more, y of the version and x of the prefix
raise_step : (y x : ℕ) (ys xs : List ℕ) → Fits y → not (is_lt (release_cmp ys xs)) && below_raised (raised_release xs) ys ≡ begins_with ys xs →
    not (is_lt (ordering_then (nat_cmp y x) (release_cmp ys xs))) && option_map_or (λ qs. is_lt (ordering_then (nat_cmp y x) (release_cmp ys qs))) (raised_release xs) (option_map_or (λ m. is_lt (ordering_then (nat_cmp y m) (release_cmp ys []))) (next_number x) true)
    ≡ (y == x) && begins_with ys xs
raise_step y x ys xs f h = go (raised_release xs) refl h
  where
    here : (o : Option ℕ) → next_number x ≡ o → not (is_lt (release_cmp ys xs)) && true ≡ begins_with ys xs →
        not (is_lt (ordering_then (nat_cmp y x) (release_cmp ys xs))) && option_map_or (λ m. is_lt (ordering_then (nat_cmp y m) (release_cmp ys []))) o true ≡ (y == x) && begins_with ys xs
    here (Some m) e k = raise_here y x m (release_cmp ys xs) (release_cmp ys []) (begins_with ys xs) (next_is x m e) (never_less ys) k
    here None e k = subst (λ n. not (is_lt (ordering_then (nat_cmp y n) (release_cmp ys xs))) && true ≡ (y == n) && begins_with ys xs) (sym (none_is x e)) (at_most y (release_cmp ys xs) (begins_with ys xs) f k)

    go : (o : Option (List ℕ)) → raised_release xs ≡ o → not (is_lt (release_cmp ys xs)) && below_raised o ys ≡ begins_with ys xs →
        not (is_lt (ordering_then (nat_cmp y x) (release_cmp ys xs))) && option_map_or (λ qs. is_lt (ordering_then (nat_cmp y x) (release_cmp ys qs))) o (option_map_or (λ m. is_lt (ordering_then (nat_cmp y m) (release_cmp ys []))) (next_number x) true)
        ≡ (y == x) && begins_with ys xs
    go (Some qs) e k = step_more y x (release_cmp ys xs) (release_cmp ys qs) ∙ ap (λ b. (y == x) && b) k
    go None e k = here (next_number x) refl k

-- what is below the release in which x, or a later number, is raised
split_raised : (P : List ℕ → Bool) (x : ℕ) (more : Option (List ℕ)) (here : Option ℕ) →
    option_map_or P (option_map_or (λ rest. Some (x ∷ rest)) more (option_map (λ m. m ∷ []) here)) true
    ≡ option_map_or (λ qs. P (x ∷ qs)) more (option_map_or (λ m. P (m ∷ [])) here true)
split_raised P x (Some qs) here = refl
split_raised P x None (Some m) = refl
split_raised P x None None = refl

zero_fits : Fits 0
zero_fits = grind arith

pub prefix_holds : (xs rs : List ℕ) → AllByRecursion Fits rs → not (is_lt (release_cmp rs xs)) && below_raised (raised_release xs) rs ≡ begins_with rs xs
prefix_holds [] rs f = ap (λ b. not b && true) (never_less rs)
prefix_holds (x ∷ xs) [] f =
    ap (λ b. not (is_lt (ordering_then (nat_cmp 0 x) (release_cmp [] xs))) && b) (split_raised (λ qs. is_lt (release_cmp [] qs)) x (raised_release xs) (next_number x))
    ∙ raise_step 0 x [] xs zero_fits (prefix_holds xs [] tt)
prefix_holds (x ∷ xs) (r ∷ rs) f =
    ap (λ b. not (is_lt (ordering_then (nat_cmp r x) (release_cmp rs xs))) && b) (split_raised (λ qs. is_lt (release_cmp (r ∷ rs) qs)) x (raised_release xs) (next_number x))
    ∙ raise_step r x rs xs f.0 (prefix_holds xs rs f.1)

-- ---- versions

pub below_dev : (e : ℕ) (r : List ℕ) (v : Record) → is_lt (record_cmp (unmarked v) (first_dev e r)) ≡ is_lt (ordering_then (nat_cmp v.epoch e) (release_cmp v.release r))
below_dev e r v = below_bare (unmarked v) (first_dev e r) ∙ below_first_dev e r v

-- below the version that ends the prefix
abbrev pub is_below_end : Option Record → Record → Bool
is_below_end end v = option_map_or (λ n. is_lt (record_cmp (unmarked v) n)) end true

in_epoch : (y e n : ℕ) (t u : Ordering) (b : Bool) → n ≡ e + 1 → is_lt u ≡ false → not (is_lt t) && true ≡ b → not (is_lt (ordering_then (nat_cmp y e) t)) && is_lt (ordering_then (nat_cmp y n) u) ≡ (y == e) && b
in_epoch y e n t u b h k l = grind (arith, nat_tests)

pub star_holds : (e : ℕ) (r : List ℕ) (v : Record) → Fits v.epoch → AllByRecursion Fits v.release →
    not (is_lt (ordering_then (nat_cmp v.epoch e) (release_cmp v.release r))) && is_below_end (after_release_prefix e r) v ≡ (v.epoch == e) && begins_with v.release r
star_holds e r v fe fr = go (raised_release r) refl (prefix_holds r v.release fr)
  where
    here : (o : Option ℕ) → next_number e ≡ o → not (is_lt (release_cmp v.release r)) && true ≡ begins_with v.release r →
        not (is_lt (ordering_then (nat_cmp v.epoch e) (release_cmp v.release r))) && is_below_end (option_map (λ n. first_dev n (0 ∷ [])) o) v ≡ (v.epoch == e) && begins_with v.release r
    here (Some n) h k =
        ap (λ b. not (is_lt (ordering_then (nat_cmp v.epoch e) (release_cmp v.release r))) && b) (below_dev n (0 ∷ []) v)
        ∙ in_epoch v.epoch e n (release_cmp v.release r) (release_cmp v.release (0 ∷ [])) (begins_with v.release r) (next_is e n h) (never_below_zero v.release) k
    here None h k = subst (λ n. not (is_lt (ordering_then (nat_cmp v.epoch n) (release_cmp v.release r))) && true ≡ (v.epoch == n) && begins_with v.release r) (sym (none_is e h)) (at_most v.epoch (release_cmp v.release r) (begins_with v.release r) fe k)

    go : (o : Option (List ℕ)) → raised_release r ≡ o → not (is_lt (release_cmp v.release r)) && below_raised o v.release ≡ begins_with v.release r →
        not (is_lt (ordering_then (nat_cmp v.epoch e) (release_cmp v.release r))) && is_below_end (option_map_or (λ release. Some (first_dev e release)) o (after_epoch e)) v ≡ (v.epoch == e) && begins_with v.release r
    go (Some q) h k =
        ap (λ b. not (is_lt (ordering_then (nat_cmp v.epoch e) (release_cmp v.release r))) && b) (below_dev e q v)
        ∙ step_more v.epoch e (release_cmp v.release r) (release_cmp v.release q)
        ∙ ap (λ b. (v.epoch == e) && b) k
    go None h k = here (next_number e) refl k

-- ---- `~=`

-- where from s on is from the prefix on
tilde_table : (a g end p : Bool) → (a ≡ false → g ≡ false) → not g && end ≡ p → not a && end ≡ p && not a
tilde_table true g end true f h = refl
tilde_table true g end false f h = refl
tilde_table false g end p f h = ap (λ b. not b && end) (sym (f refl)) ∙ h ∙ and_true p
  where
    and_true : (b : Bool) → b ≡ b && true
    and_true true = refl
    and_true false = refl

-- what is below the shorter prefix is below the whole release
below_shorter : (y x : ℕ) (rs xs : List ℕ) → is_lt (ordering_then (nat_cmp y x) (release_cmp rs (without_last xs))) ≡ true → is_lt (ordering_then (nat_cmp y x) (release_cmp rs xs)) ≡ true
below_shorter y x rs xs h = go (nat_cmp y x) h
  where
    go : (o : Ordering) → is_lt (ordering_then o (release_cmp rs (without_last xs))) ≡ true → is_lt (ordering_then o (release_cmp rs xs)) ≡ true
    go ord.Less h = refl
    go ord.Equal h = below_prefix rs xs h
    go ord.Greater h = h

base_below : (B X : Ordering) → is_lt B ≡ true → is_lt (ordering_then B X) ≡ true
base_below ord.Less X h = refl
base_below ord.Equal X h = absurd (cc)
base_below ord.Greater X h = absurd (cc)

pub tilde_holds : (s v : Record) → Fits v.epoch → AllByRecursion Fits v.release →
    not (is_lt (record_cmp (unmarked v) (plain s))) && is_below_end (after_release_prefix s.epoch (without_last s.release)) v
    ≡ has_prefix (plain s) (without_last s.release) (unmarked v) && is_ge (record_cmp (plain v) (plain s))
tilde_holds s v fe fr =
    tilde_table (is_lt (record_cmp (unmarked v) (plain s))) (is_lt (ordering_then (nat_cmp v.epoch s.epoch) (release_cmp v.release (without_last s.release)))) _ _ from (star_holds s.epoch (without_last s.release) v fe fr)
    ∙ ap (λ b. has_prefix (plain s) (without_last s.release) (unmarked v) && b) (ap not (below_bare (unmarked v) (plain s)) ∙ sym (ge_not_lt (record_cmp (plain v) (plain s))))
  where
    lower : is_lt (ordering_then (nat_cmp v.epoch s.epoch) (release_cmp v.release (without_last s.release))) ≡ true → is_lt (record_cmp (unmarked v) (plain s)) ≡ true
    lower h = below_bare (unmarked v) (plain s) ∙ ap is_lt (by_parts (plain v) (plain s)) ∙ base_below _ _ (below_shorter v.epoch s.epoch v.release s.release h)

    turn : (a g : Bool) → (g ≡ true → a ≡ true) → a ≡ false → g ≡ false
    turn a true f h = absurd (true≢false (sym (f refl) ∙ h))
    turn a false f h = refl

    from : is_lt (record_cmp (unmarked v) (plain s)) ≡ false → is_lt (ordering_then (nat_cmp v.epoch s.epoch) (release_cmp v.release (without_last s.release))) ≡ false
    from = turn _ _ lower
