-- How the literal rule relates to matching and to the ranges of `pep440_rs`.
use Rattle.std.specs.Prelude.{◌≡◌, ◌≢◌, Bool, [], Some, false, not, ◌&&◌, IsTrue, is_some}
use Rattle.pep440_ranges.specs.RangeSegments.{contains}
use Rattle.pep440_rs.specs.Agreement.{HasOperand}
use Rattle.pep440_rs.specs.Bounds.{Segments, range_of}
use Rattle.pep440_rs.specs.Denoted.{IsDenoted}
use Rattle.pep440_rs.specs.LiteralMatching.{matches_literally}
use Rattle.pep440_rs.specs.Matching.{any_prerelease, matches, same_release}
use Rattle.pep440_rs.specs.Specifiers.{Spec}
use Rattle.pep440_rs.specs.declared.specifier.operator.Operator.{Operator}
use Rattle.pep440_rs.specs.declared.specifier.operator.Operator.TheVariants.{ExactEqual, LessThan, GreaterThan}
use Rattle.pep440_version.specs.Key.{record_cmp}
use Rattle.pep440_version.specs.Record.{Record}

-- the specifier is `<` of a post-release that has neither a pre-release nor a dev part
abbrev pub is_below_post : Operator → Record → Bool
is_below_post LessThan s = is_some s.post && not (any_prerelease s)
is_below_post op s = false

-- the two rules may differ: `<` a post-release that has neither a pre-release nor a dev part, at a version of its release that has one; and `>` a
-- version that has one and is no post-release, at a post-release of its release
abbrev pub may_differ : Operator → Record → Record → Bool
may_differ LessThan s v = same_release s v && ((is_some s.post && not (any_prerelease s)) && any_prerelease v)
may_differ GreaterThan s v = same_release s v && ((any_prerelease s && not (is_some s.post)) && is_some v.post)
may_differ op s v = false

-- what a specifier contains, it matches literally
abbrev pub IsWider : Type 0
IsWider = (op : Operator) (s v : Record) → IsTrue (matches op s v) → IsTrue (matches_literally op s v)

-- elsewhere both rules agree, of versions that a string can have beside the operator
abbrev pub AgreesElsewhere : Type 0
AgreesElsewhere = (s : Spec) (v : Record) → HasOperand s → may_differ s.operator s.version v ≡ false → matches_literally s.operator s.version v ≡ matches s.operator s.version v

-- the range of a specifier holds, of the versions without local part that strings denote, what matches literally; `===` and `<` a post-release aside
abbrev pub RangeAgreesLiterally : Type 0
RangeAgreesLiterally =
    (s : Spec) (range : Segments) → range_of s.operator s.version ≡ Some range → HasOperand s → s.operator ≢ ExactEqual → is_below_post s.operator s.version ≡ false →
    (v : Record) → IsDenoted v → v.local ≡ [] → contains record_cmp range v ≡ matches_literally s.operator s.version v
