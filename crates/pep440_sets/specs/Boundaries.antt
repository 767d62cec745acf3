-- Where sets of versions begin and end: at a version, above all post-releases of a release, or just above a version with a local part.
-- Between two such boundaries there is always a version, so that a set without intervals is the only one without versions.
use Rattle.std.specs.Prelude.{◌≡◌, ◌⊎◌, None, true}
use Rattle.std.specs.List.{All}
use Rattle.std.specs.Ordering.{is_lt}
use Rattle.std.specs.declared.ops.Bound.{Bound}
use Rattle.std.specs.declared.ops.Bound.TheVariants.{Included, Excluded, Unbounded}
use Rattle.pep440_ranges.specs.RangeSegments.{IsRange, Segment}
use Rattle.pep440_rs.specs.Bounds.{Segments}
use Rattle.pep440_rs.specs.Matching.{has_local}
use Rattle.pep440_version.specs.Key.{record_cmp}
use Rattle.pep440_version.specs.Record.{IsRecord, Record}
use Rattle.pep440_version.specs.RoundTrip.{IsParsed}
use Rattle.pep440_sets.specs.NextVersions.{after_posts, least}

-- above all post-releases of a final release
pub record IsAbovePosts (v : Record) : Type 0 where
  pub valid : IsRecord v
  pub same : v ≡ after_posts v.epoch v.release None

-- a version that is not the least of all
pub record IsAboveLeast (v : Record) : Type 0 where
  pub parsed : IsParsed v
  pub above : is_lt (record_cmp least v) ≡ true

-- a boundary below a version, or above post-releases
abbrev pub IsBelowVersion : Record → Type 0
IsBelowVersion v = IsAboveLeast v ⊎ IsAbovePosts v

-- a boundary just above a version with a local part
pub record IsAboveLocal (v : Record) : Type 0 where
  pub parsed : IsParsed v
  pub local : has_local v ≡ true

-- where a set begins
abbrev pub IsStart : Bound Record → Type 0
IsStart Unbounded = Unit {0}
IsStart (Included v) = IsBelowVersion v
IsStart (Excluded v) = IsAboveLocal v

-- where a set ends
abbrev pub IsEnd : Bound Record → Type 0
IsEnd Unbounded = Unit {0}
IsEnd (Included v) = IsAboveLocal v
IsEnd (Excluded v) = IsBelowVersion v

abbrev pub IsInterval : Segment Record → Type 0
IsInterval s = IsStart s.0 × IsEnd s.1

-- a set of versions: intervals between such boundaries, in order and apart from each other
pub record IsVersionSet (set : Segments) : Type 0 where
  pub apart : IsRange record_cmp set
  pub intervals : All IsInterval set
