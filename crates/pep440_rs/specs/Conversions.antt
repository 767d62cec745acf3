-- What the private enum of the conversions stands for, and what each leaves of the whole line.
use Rattle.std.specs.Prelude.{◌≡◌, ℕ, Option}
use Rattle.pep440_rs.specs.Bounds.{Segments, full, range_of, release_range_of}
use Rattle.pep440_rs.specs.RaisedNumbers.{raised_number, raised_release_number}
use Rattle.pep440_rs.specs.declared.range.list.Conversion.{Conversion}
use Rattle.pep440_rs.specs.declared.range.list.Conversion.TheVariants.{WholeOrder, ReleaseOnly}
use Rattle.pep440_rs.specs.declared.specifier.operator.Operator.{Operator}
use Rattle.pep440_ranges.specs.Intersection.{overlaps}
use Rattle.pep440_version.specs.Key.{record_cmp}
use Rattle.pep440_version.specs.Record.{Record}

abbrev pub converted : Conversion → Operator → Record → Option Segments
converted WholeOrder = range_of
converted ReleaseOnly = release_range_of

-- the number that the conversion raises
abbrev pub raised_by : Conversion → Operator → Record → Option ℕ
raised_by WholeOrder = raised_number
raised_by ReleaseOnly = raised_release_number

-- the whole line leaves the range as it is
abbrev pub IsUnchangedByFull : Segments → Type 0
IsUnchangedByFull range = overlaps record_cmp full range ≡ range
