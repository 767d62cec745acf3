-- A version in a set: the least, where there is one. There is none that is least just above a version with a local part, and above the
-- post-releases of a release.
use Rattle.std.specs.Prelude.{ℕ, zero, suc, List, [], ◌∷◌, ◌++◌, Option, Some, None, is_some, length, max, replicate, if◌then◌else◌}
use Rattle.std.specs.declared.ops.Bound.{Bound}
use Rattle.std.specs.declared.ops.Bound.TheVariants.{Included, Excluded, Unbounded}
use Rattle.pep440_rs.specs.Bounds.{Segments}
use Rattle.pep440_version.specs.Record.{LocalSegmentValue, Number, Record, Text, epoch_and_release}
use Rattle.pep440_sets.specs.NextVersions.{first_dev, least}

-- ---- above post-releases

-- the numbers of a release, padded with zeros where it has fewer than these, then 1
abbrev pub release_above : ℕ → List ℕ → List ℕ
release_above zero release = 1 ∷ []
release_above (suc depth) [] = 0 ∷ release_above depth []
release_above (suc depth) (n ∷ release) = n ∷ release_above depth release

-- a version above the post-releases of the release of v, and up to this end
abbrev pub above_posts : Record → Bound Record → Record
above_posts v (Included w) = w
above_posts v (Excluded w) = if is_some w.max then epoch_and_release w.epoch w.release else first_dev v.epoch (release_above (max (length v.release) (length w.release)) v.release)
above_posts v Unbounded = first_dev v.epoch (release_above (length v.release) v.release)

-- ---- above local versions

-- some zeros and the letter a: below every string of as many bytes that a local part can have
abbrev pub low_string : ℕ → List ℕ
low_string zeros = replicate zeros 48 ++ 97 ∷ []

-- of the segment of the second local part that comes after all of the first, the bytes if it is a string
abbrev pub string_after : List LocalSegmentValue → List LocalSegmentValue → ℕ
string_after [] [] = 0
string_after [] (Text t ∷ rest) = length t
string_after [] (Number n ∷ rest) = 0
string_after (s ∷ local) [] = 0
string_after (s ∷ local) (t ∷ other) = string_after local other

-- v with one local segment more
abbrev pub with_low_segment : Record → ℕ → Record
with_low_segment v zeros = record v { local = v.local ++ Text (low_string zeros) ∷ [] }

-- ---- sets

-- a version between the boundaries of an interval
abbrev pub version_between : Bound Record → Bound Record → Record
version_between Unbounded end = least
version_between (Included v) end = if is_some v.max then above_posts v end else v
version_between (Excluded v) (Included w) = w
version_between (Excluded v) (Excluded w) = with_low_segment v (string_after v.local w.local)
version_between (Excluded v) Unbounded = with_low_segment v 0

-- a version in the set, if it has intervals
abbrev pub version_in : Segments → Option Record
version_in [] = None
version_in (s ∷ set) = Some (version_between s.0 s.1)
