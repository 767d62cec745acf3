-- Worked rows of the key order, the feed, changes, the reading and the refusals, by computation.
use Rattle.std.proofs.Common.{◌≡◌, refl, codes, Ok, Err, Some, [], ◌∷◌, ◌++◌, ℕ, Option, true}
use Rattle.std.specs.Hash.{u64}
use Rattle.std.specs.declared.cmp.Ordering.TheVariants.{Less, Equal}
use Rattle.pep440_version.specs.declared.change.ChangeError.TheVariants as error
use Rattle.pep440_version.specs.declared.prerelease.Prerelease.{Prerelease}
use Rattle.pep440_version.specs.declared.prerelease.PrereleaseKind.TheVariants.{Alpha}
use Rattle.pep440_version.specs.Changes.{apply_edits, Epoch, Post, Dev, Min, Pre}
use Rattle.pep440_version.specs.Feed.{feed}
use Rattle.pep440_version.specs.Key.{record_cmp}
use Rattle.pep440_version.specs.Locals.{parse_segments}
use Rattle.pep440_version.specs.Reading.{parse_number, parse_release}
use Rattle.pep440_version.specs.Record.{Record, Text, Number, epoch_and_release, from_release, from_parts}
use Rattle.pep440_version.specs.Rejections.{NumberTooBig, LocalEmpty, UnexpectedEnd, WildcardNotTrailing, Rejects, RejectsPattern}
use Rattle.pep440_version.specs.Whole.{parse_epoch_and_release, parse_parts, read_version, read_pattern}
use Rattle.pep440_version.proofs.Rejections.ExactlyOne.{sound_pattern}
use Rattle.pep440_version.proofs.Rejections.FaultsHaveErrors.{sound}

abbrev one : Record
one = from_release (1 ∷ 0 ∷ [])

abbrev alpha : ℕ → Option Prerelease
alpha n = Some (record { kind = Alpha; number = n })

-- `1.0` equals `1.0.0`
zeros : record_cmp one (from_release (1 ∷ 0 ∷ 0 ∷ [])) ≡ Equal
zeros = refl

-- `1.0a1.dev18446744073709551615` is below `1.0a1`
absent_dev : record_cmp (record one { pre = alpha 1; dev = Some 18446744073709551615 }) (record one { pre = alpha 1 }) ≡ Less
absent_dev = refl

-- `1.0` with max 7 is above every post-release
max_above_post : record_cmp (record one { post = Some 18446744073709551615 }) (record one { max = Some 7 }) ≡ Less
max_above_post = refl

-- `1!1.0a2.post3.dev0+ubuntu.1`
abbrev whole : Record
whole = from_parts 1 (1 ∷ 0 ∷ []) (alpha 2) (Some 3) (Some 0) (Text (codes "ubuntu") ∷ Number 1 ∷ [])

fed : feed whole ≡ u64 1 ++ u64 1 ++ u64 1 ++ u64 2 ++ u64 2 ++ u64 1 ++ u64 3 ++ u64 0 ++ u64 0 ++ u64 2 ++ u64 0 ++ u64 6 ++ (codes "ubuntu" ∷ []) ++ u64 1 ++ u64 1
fed = refl

-- post 2, dev 0 and epoch 3 on `1.0a1` give `3!1.0a1.post2.dev0`
changes : apply_edits 1 (record one { pre = alpha 1 }) (Post (Some 2) ∷ Dev (Some 0) ∷ Epoch 3 ∷ []) ≡ Ok (from_parts 3 (1 ∷ 0 ∷ []) (alpha 1) (Some 2) (Some 0) [])
changes = refl

-- min 0 can be set on `1.0`, and not on `1.0a1`, which it then is
min_refused : apply_edits 1 one (Min (Some 0) ∷ Pre (alpha 1) ∷ Min (Some 0) ∷ []) ≡ Err (error.MinNotAllowed 3)
min_refused = refl

read : read_version (codes "  V1!1.0-Alpha.2-3.DEV+Ubuntu-01 ") ≡ Ok whole
unfolding parse_number parse_release parse_segments parse_epoch_and_release parse_parts
read = refl

read_star : read_pattern (codes " v1!2.*") ≡ Ok (epoch_and_release 1 (2 ∷ []), true)
unfolding parse_number parse_release parse_segments parse_epoch_and_release parse_parts
read_star = refl

longest_prefix : Rejects (codes "1pre-view") (UnexpectedEnd (codes "1pre-") (codes "view"))
unfolding parse_number parse_release parse_segments parse_epoch_and_release parse_parts
longest_prefix = sound (codes "1pre-view") (UnexpectedEnd (codes "1pre-") (codes "view")) refl

too_big : Rejects (codes "1a-18446744073709551616x") (NumberTooBig (codes "18446744073709551616"))
unfolding parse_number parse_release parse_segments parse_epoch_and_release parse_parts
too_big = sound (codes "1a-18446744073709551616x") (NumberTooBig (codes "18446744073709551616")) refl

no_segment : Rejects (codes "1.0+a_-") (LocalEmpty 95)
unfolding parse_number parse_release parse_segments parse_epoch_and_release parse_parts
no_segment = sound (codes "1.0+a_-") (LocalEmpty 95) refl

star_inside : RejectsPattern (codes "1.0.*a") WildcardNotTrailing
unfolding parse_number parse_release parse_segments parse_epoch_and_release parse_parts
star_inside = sound_pattern (codes "1.0.*a") WildcardNotTrailing refl
