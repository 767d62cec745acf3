-- Matching between releases, operator by operator, as the order says it.
use Rattle.std.proofs.Common.{◌≡◌, ℕ, ◌+◌, not, ◌&&◌, List, [], ◌∷◌, refl, sym, ap, ◌∙◌, subst}
use Rattle.std.specs.Ordering.{is_lt, is_le, is_gt, is_eq}
use Rattle.pep440_rs.proofs.Agreement.VersionOrder.{turn_le, turn_lt, ge_not_lt, both}
use Rattle.pep440_rs.proofs.Agreement.Prefix.{prefix_bounds}
use Rattle.pep440_rs.proofs.Agreement.Releases.{no_early, no_late, below_release}
use Rattle.pep440_rs.specs.Agreement.{IsReleaseOnly}
use Rattle.pep440_rs.specs.Matching.{matches, same_release}
use Rattle.pep440_rs.specs.declared.specifier.operator.Operator.TheVariants.{Equal, EqualStar, LessThan, LessThanEqual, GreaterThan, GreaterThanEqual}
use Rattle.pep440_version.specs.Key.{record_cmp}
use Rattle.pep440_version.specs.Record.{Record, from_release}

-- it is enough to show it of releases
of_releases : (P : Record → Record → Type 0) → ((r q : List ℕ) → P (from_release r) (from_release q)) → (x u : Record) → IsReleaseOnly x → IsReleaseOnly u → P x u
of_releases P h x u p q = subst (λ t. P t u) (sym p) (subst (P (from_release x.release)) (sym q) (h x.release u.release))

pub equal_is : (x u : Record) → IsReleaseOnly x → IsReleaseOnly u → matches Equal x u ≡ is_eq (record_cmp u x)
equal_is = of_releases (λ x u. matches Equal x u ≡ is_eq (record_cmp u x)) (λ r q. refl)

pub from_matches : (x u : Record) → IsReleaseOnly x → IsReleaseOnly u → matches GreaterThanEqual x u ≡ is_le (record_cmp x u)
from_matches = of_releases (λ x u. matches GreaterThanEqual x u ≡ is_le (record_cmp x u))
    (λ r q. ge_not_lt (record_cmp (from_release q) (from_release r)) ∙ sym (turn_le (from_release r) (from_release q)))

pub above_matches : (x u : Record) → IsReleaseOnly x → IsReleaseOnly u → matches GreaterThan x u ≡ is_lt (record_cmp x u)
above_matches = of_releases (λ x u. matches GreaterThan x u ≡ is_lt (record_cmp x u))
    (λ r q. sym (turn_lt (from_release r) (from_release q) ∙ no_late (is_gt (record_cmp (from_release q) (from_release r))) (same_release (from_release r) (from_release q))))

pub up_to_matches : (x u : Record) → IsReleaseOnly x → IsReleaseOnly u → matches LessThanEqual x u ≡ is_le (record_cmp u x)
up_to_matches = of_releases (λ x u. matches LessThanEqual x u ≡ is_le (record_cmp u x)) (λ r q. refl)

pub below_matches : (x u : Record) → IsReleaseOnly x → IsReleaseOnly u → matches LessThan x u ≡ is_lt (record_cmp u x)
below_matches = of_releases (λ x u. matches LessThan x u ≡ is_lt (record_cmp u x))
    (λ r q. sym (no_early (is_lt (record_cmp (from_release q) (from_release r))) (same_release (from_release r) (from_release q))))

-- a star of two numbers, from the release to the next
pub star_matches : (a b : ℕ) (u : Record) → IsReleaseOnly u →
    matches EqualStar (from_release (a ∷ b ∷ [])) u ≡ is_le (record_cmp (from_release (a ∷ b ∷ [])) u) && is_lt (record_cmp u (from_release (a ∷ (b + 1) ∷ [])))
star_matches a b u p = subst P (sym p) (go u.release)
  where
    P : Record → Type 0
    P u = matches EqualStar (from_release (a ∷ b ∷ [])) u ≡ is_le (record_cmp (from_release (a ∷ b ∷ [])) u) && is_lt (record_cmp u (from_release (a ∷ (b + 1) ∷ [])))

    go : (q : List ℕ) →
        matches EqualStar (from_release (a ∷ b ∷ [])) (from_release q)
        ≡ is_le (record_cmp (from_release (a ∷ b ∷ [])) (from_release q)) && is_lt (record_cmp (from_release q) (from_release (a ∷ (b + 1) ∷ [])))
    go q = sym
        (both _ _ _ _ (turn_le (from_release (a ∷ b ∷ [])) (from_release q) ∙ ap not (below_release (a ∷ b ∷ []) q)) (below_release (a ∷ (b + 1) ∷ []) q)
        ∙ prefix_bounds (a ∷ b ∷ []) (a ∷ (b + 1) ∷ []) q ((b + 1) ∷ [], refl, refl))
