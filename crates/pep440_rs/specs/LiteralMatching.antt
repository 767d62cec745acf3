-- Whether a specifier matches a version where the two exclusions of PEP 440, "Exclusive ordered comparison", are read literally, as
-- pip 26 and `packaging` 26 read them: `<V` leaves out the pre-releases of V, and `>V` its post-releases. (`matches` of `pep440_rs`
-- leaves out those of every version that has V's release.)
use Rattle.std.specs.Prelude.{ℕ, Bool, List, Option, Some, None, true, false, not, ◌==◌, ◌&&◌, ◌||◌, is_none, is_some}
use Rattle.std.specs.List.{list_all}
use Rattle.std.specs.Ordering.{is_eq, is_gt, is_lt}
use Rattle.pep440_rs.specs.Matching.{any_prerelease, candidate, matches, same_release}
use Rattle.pep440_rs.specs.Specifiers.{Spec}
use Rattle.pep440_rs.specs.declared.specifier.operator.Operator.{Operator}
use Rattle.pep440_rs.specs.declared.specifier.operator.Operator.TheVariants.{LessThan, GreaterThan}
use Rattle.pep440_version.specs.Key.{prerelease_cmp, record_cmp}
use Rattle.pep440_version.specs.Record.{Record}
use Rattle.pep440_version.specs.declared.prerelease.Prerelease.{Prerelease}

-- the version has this post-release
abbrev pub has_post : Option ℕ → ℕ → Bool
has_post None n = false
has_post (Some m) n = m == n

-- neither version has a pre-release, or both have the same
abbrev pub same_pre : Option Prerelease → Option Prerelease → Bool
same_pre None None = true
same_pre None (Some q) = false
same_pre (Some p) None = false
same_pre (Some p) (Some q) = is_eq (prerelease_cmp p q)

-- v has a pre-release or a developmental part which s lacks, by the post-release of s: where s has none, v is any such version of the
-- release; where s has one, v is a developmental release of that post-release
abbrev pub is_before : Option ℕ → Record → Bool
is_before None v = any_prerelease v
is_before (Some p) v = is_none v.pre && (is_some v.dev && has_post v.post p)

-- v is a pre-release of s, which is none itself
abbrev pub is_prerelease_of : Record → Record → Bool
is_prerelease_of s v = not (any_prerelease s) && (same_release s v && is_before s.post v)

-- v is a post-release of s, which is neither a post-release nor a developmental release itself
abbrev pub is_postrelease_of : Record → Record → Bool
is_postrelease_of s v = not (is_some s.post || is_some s.dev) && (same_release s v && (same_pre v.pre s.pre && is_some v.post))

-- the operator's condition on s and v: that of `matches`, but for the two exclusive comparisons. A version of which s is the public
-- part compares as s (`candidate`), so that `>V` does not match the local versions of V
abbrev pub matches_literally : Operator → Record → Record → Bool
matches_literally LessThan s v = is_lt (record_cmp (candidate s v) s) && not (is_prerelease_of s v)
matches_literally GreaterThan s v = is_gt (record_cmp (candidate s v) s) && not (is_postrelease_of s v)
matches_literally op s v = matches op s v

-- every member matches v
abbrev pub list_matches_literally : List Spec → Record → Bool
list_matches_literally members v = list_all (λ m. matches_literally m.operator m.version v) members

-- the list matches the version, and it is no pre-release unless these are taken
abbrev pub list_allows_literally : Bool → List Spec → Record → Bool
list_allows_literally takes list v = (takes || not (any_prerelease v)) && list_matches_literally list v
