-- `sort`: the lines in the order of their versions.
use Rattle.std.specs.Prelude.{◌≡◌, ℕ, ◌-◌, List, [], ◌∷◌, ◌++◌, Bool, false, codes, drop, length, map, Option, Some, None, if◌then◌else◌}
use Rattle.std.specs.List.{flat_map}
use Rattle.std.specs.Ordering.{is_eq}
use Rattle.std.specs.declared.cmp.Ordering.{Ordering}
use Rattle.pep440_rs.specs.Arrangement.{ArrangesBy}
use Rattle.pep440_version.specs.Key.{record_cmp}
use Rattle.pep440_version.specs.Record.{Record}
use Rattle.cli_io.specs.Runs.{Outcome}
use Rattle.pyver_commands.specs.Sources.{Input}
use Rattle.pyver_commands.specs.Sources.VersionLines.{InputParts, OfVersions, VersionLine}
use Rattle.pyver_commands.specs.declared.sort.SortOptions.{SortOptions}

-- only by version, or the other way round
abbrev pub version_order : Bool → Record → Record → Ordering
version_order reversed r s = if reversed then record_cmp s r else record_cmp r s

abbrev pub line_order : Bool → VersionLine → VersionLine → Ordering
line_order reversed a b = version_order reversed a.version b.version

-- the version is equal to that of the line before, where one is
abbrev pub is_repeat : Option Record → Record → Bool
is_repeat None r = false
is_repeat (Some before) r = is_eq (record_cmp before r)

-- without the lines whose version is that of the line before: in order, the first of each run of equal ones
abbrev pub firsts : Option Record → List VersionLine → List VersionLine
firsts before [] = []
firsts before (x ∷ rest) = if is_repeat before x.version then firsts (Some x.version) rest else x ∷ firsts (Some x.version) rest

abbrev pub without_repeats : Bool → List VersionLine → List VersionLine
without_repeats unique lines = if unique then firsts None lines else lines

-- the last so many, or all
abbrev pub last_texts : Option ℕ → List (List ℕ) → List (List ℕ)
last_texts None texts = texts
last_texts (Some count) texts = drop (length texts - count) texts

-- the lines after the header as they were written: those that are versions, in order, and then the invalid ones that are kept
abbrev pub sorted_texts : SortOptions → List VersionLine → List (List ℕ) → List (List ℕ)
sorted_texts options sorted invalid = map (λ (x : VersionLine). x.text) (without_repeats options.unique sorted) ++ invalid

-- a newline after each
abbrev pub lines_text : List (List ℕ) → List ℕ
lines_text texts = flat_map (λ t. t ++ codes "\n") texts

-- the header, and the last of the other lines
abbrev pub sort_outcome : SortOptions → InputParts → List VersionLine → Outcome
sort_outcome options parts sorted = record {
  output = parts.header ++ lines_text (last_texts options.last (sorted_texts options sorted parts.invalid));
  errors = parts.messages;
  status = 0;
}

-- the lines are arranged: none is lost or made, they never fall, and equal ones stand as they stood
abbrev pub SortsParts : SortOptions → InputParts → Outcome → Type 0
SortsParts options parts o = (sorted : List VersionLine) × ArrangesBy (line_order options.reversed) parts.versions sorted × (o ≡ sort_outcome options parts sorted)

-- what is written of the lines of the sources
abbrev pub SortsLines : SortOptions → Input → Outcome → Type 0
SortsLines options input o = OfVersions options.lines (SortsParts options) input o
