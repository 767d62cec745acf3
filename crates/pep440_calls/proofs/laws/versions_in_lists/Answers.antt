-- What is written of a list as a version in it is one, and nothing is written if there is none.
use Rattle.std.proofs.Common.{◌≡◌, ◌⊎◌, ◌∙◌, ℕ, List, [], Option, Some, None, IfSome, IsTrue, refl, ap, inl, inr, subst}
use Rattle.std.specs.List.{All}
use Rattle.std.specs.Option.{option_map_or}
use Rattle.pep440_rs.specs.Denoted.{IsDenotable, IsDenoted}
use Rattle.pep440_rs.specs.LiteralMatching.{list_matches_literally}
use Rattle.pep440_rs.specs.Specifiers.{Spec}
use Rattle.pep440_sets.proofs.CommonVersions.{common_is_denoted, common_matches, none_in_common}
use Rattle.pep440_sets.specs.Common.{common_version}
use Rattle.pep440_sets.specs.Emptiness.{IsUnsatisfiable}
use Rattle.pep440_version.specs.Print.{print}
use Rattle.pep440_version.specs.Record.{Record}
use Rattle.pep440_calls.proofs.Once.{one_bytes_list}
use Rattle.pep440_calls.proofs.laws.versions_in_lists.Goals as goal
use Rattle.pep440_calls.specs.CallResults.{IsVersionIn}
use Rattle.pep440_calls.specs.CallerBytes.{BytesDenoteList}

of_found : (l : List Spec) (words : List ℕ) → All IsDenotable l → (found : Option Record) → common_version l ≡ found → words ≡ option_map_or print found [] → (words ≡ []) ⊎ ((v : Record) × (words ≡ print v) × IsDenoted v × IsTrue (list_matches_literally l v))
of_found l words all None first is = inl is
of_found l words all (Some v) first is =
    inr (v, is, subst (λ o. IfSome o IsDenoted) first (common_is_denoted l all), subst (λ o. IfSome o (λ w. IsTrue (list_matches_literally l w))) first (common_matches l all))

matched : (bytes words : List ℕ) (l : List Spec) → All IsDenotable l → IsVersionIn bytes words → BytesDenoteList bytes l → (words ≡ []) ⊎ ((v : Record) × (words ≡ print v) × IsDenoted v × IsTrue (list_matches_literally l v))
matched bytes words l all (m, means, is) list =
    of_found l words all (common_version l) refl (is ∙ ap (λ k. option_map_or print (common_version k) []) (one_bytes_list bytes m l means list))

none : (l : List Spec) → All IsDenotable l → common_version l ≡ None → IsUnsatisfiable l
none = none_in_common

pub returns-clause-matched : goal.returns-clause-matched
returns-clause-matched c = matched

pub returns-clause-none : goal.returns-clause-none
returns-clause-none c = none
