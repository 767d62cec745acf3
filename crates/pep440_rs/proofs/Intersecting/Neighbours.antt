-- A fold of intersections whose neighbours are intersected first.
use Rattle.std.proofs.Common.{◌≡◌, ◌≤◌, ◌+◌, ◌-◌, ℕ, suc, List, [], ◌∷◌, ◌++◌, length, sym, ap, ◌∙◌, arith}
use Rattle.std.proofs.lemmas.List.Sums.{fold-append}
use Rattle.std.proofs.lemmas.List.{append_assoc, length_push}
use Rattle.std.specs.Prelude.{fold}
use Rattle.pep440_ranges.specs.Intersection.{overlaps}
use Rattle.pep440_rs.specs.Bounds.{Segments}
use Rattle.pep440_rs.proofs.Intersecting.Associates.{overlaps_assoc}
use Rattle.pep440_version.specs.Key.{record_cmp}
use Rattle.pep440_version.specs.Key.KeyLaws.{record_total}

abbrev pub met : Segments → List Segments → Segments
met now ranges = fold (overlaps record_cmp) now ranges

pub met_one_more : (now next : Segments) (ranges : List Segments) → met now (ranges ++ next ∷ []) ≡ overlaps record_cmp (met now ranges) next
met_one_more now next ranges = fold-append (overlaps record_cmp) now ranges (next ∷ [])

pub met_pair : (now x y both : Segments) (pairs rest : List Segments) → both ≡ overlaps record_cmp x y → met now ((pairs ++ both ∷ []) ++ rest) ≡ met now (pairs ++ x ∷ y ∷ rest)
met_pair now x y both pairs rest e =
    ap (met now) (append_assoc pairs (both ∷ []) rest)
    ∙ fold-append (overlaps record_cmp) now pairs (both ∷ rest)
    ∙ ap (λ b. met (overlaps record_cmp (met now pairs) b) rest) e
    ∙ ap (λ r. met r rest) (sym (overlaps_assoc record_total (met now pairs) x y))
    ∙ sym (fold-append (overlaps record_cmp) now pairs (x ∷ y ∷ rest))

-- two ranges of those that are left make one pair
pub fewer : {X : Type 0} (pairs new rest later others : List X) (x first second : X) (all : ℕ) → rest ≡ first ∷ later → later ≡ second ∷ others → new ≡ pairs ++ x ∷ []
    → length pairs + length pairs + length rest ≤ all + (1 - length rest) → length new + length new + length others ≤ all + (1 - length others)
fewer pairs new rest later others x first second all decomposition again is few =
    let left : length rest ≡ length others + 1 + 1 = ap length (decomposition ∙ ap (λ l. first ∷ l) again) ∙ count (length others) in
    let made : length new ≡ length pairs + 1 = ap length is ∙ length_push pairs x in
    omega (arith, left, made, few)
  where
    count : (n : ℕ) → suc (suc n) ≡ n + 1 + 1
    count n = omega arith

-- the last range makes one by itself
pub last_alone : {X : Type 0} (pairs new rest later : List X) (x first : X) (all : ℕ) → rest ≡ first ∷ later → length later ≡ 0 → new ≡ pairs ++ x ∷ []
    → length pairs + length pairs + length rest ≤ all + (1 - length rest) → length new + length new + length later ≤ all + (1 - length later)
last_alone pairs new rest later x first all decomposition none is few =
    let left : length rest ≡ length later + 1 = ap length decomposition ∙ count (length later) in
    let made : length new ≡ length pairs + 1 = ap length is ∙ length_push pairs x in
    omega (arith, left, none, made, few)
  where
    count : (n : ℕ) → suc n ≡ n + 1
    count n = omega arith
