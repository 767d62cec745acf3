-- What lines that were read say, apart from where they lie in memory.
use Rattle.std.specs.Prelude.{◌≡◌, ◌+◌, ◌-◌, ℕ, List, [], ◌∷◌, ◌++◌, Bool, length, map, take}
use Rattle.std.specs.List.{AllZip, concat}
use Rattle.std.specs.declared.cmp.Ordering.{Ordering}
use Rattle.pyver_commands.specs.Sources.InputLines.{SourceLine}
use Rattle.pyver_commands.specs.Sources.InvalidLines.{message_limit}
use Rattle.pyver_commands.specs.Sources.ReadLines.{IsRead, LineReading, ReadLine, faults}
use Rattle.pyver_commands.specs.Sources.SourceViews.{origin_line}
use Rattle.pyver_commands.specs.Sorts.{version_order}
use Rattle.pyver_commands.specs.Sources.VersionLines.{InputParts, header_text, kept_lines, input_parts, version_lines, VersionLine as VersionLineValue}
use Rattle.pyver_commands.specs.declared.sources.line_options.LineOptions.{LineOptions}
use Rattle.pyver_commands.specs.declared.sources.origin.Origin.{Origin}
use Rattle.pyver_commands.specs.declared.sources.version_line.VersionLine.{VersionLine}
use Rattle.pyver_commands.specs.declared.sources.version_line.VersionLines.{VersionLines}

abbrev pub version_line_of : VersionLine → VersionLineValue
version_line_of x = record { text = x.text.now; version = x.version }

abbrev pub version_line_order : Bool → VersionLine → VersionLine → Ordering
version_line_order reversed a b = version_order reversed a.version b.version

abbrev pub input_parts_of : VersionLines → InputParts
input_parts_of s = record {
  header = s.header.items;
  versions = map version_line_of s.versions.items;
  invalid = map (λ t. t.now) s.invalid.items;
  messages = s.errors.items;
}

-- from one state to another by a line that is read so
pub record KeepsOne (options : LineOptions) (x : ReadLine) (a b : VersionLines) : Type 0 where
  pub line_count : b.line_count ≡ a.line_count
  pub header : b.header.items ≡ a.header.items ++ header_text (x ∷ [])
  pub versions : map version_line_of b.versions.items ≡ map version_line_of a.versions.items ++ version_lines (x ∷ [])
  pub invalid : map (λ t. t.now) b.invalid.items ≡ map (λ t. t.now) a.invalid.items ++ kept_lines options.invalid (x ∷ [])
  pub fault_count : b.fault_count ≡ a.fault_count + length (faults (x ∷ []))
  pub errors : b.errors.items ≡ a.errors.items ++ concat (take (message_limit options.invalid - a.fault_count) (faults (x ∷ [])))

-- by the line of this text, where the source has come to
abbrev pub KeepsAt : LineOptions → Origin → List ℕ → LineReading → VersionLines → VersionLines → Type 0
KeepsAt options origin text reading a b = KeepsOne options (record { line = origin_line origin a.line_count text; reading = reading }) a b

-- these lines were read
pub record KeepsLines (options : LineOptions) (lines : List SourceLine) (s : VersionLines) : Type 0 where
  pub found : List ReadLine
  pub are : AllZip (IsRead options) lines found
  pub header : s.header.items ≡ header_text found
  pub versions : map version_line_of s.versions.items ≡ version_lines found
  pub invalid : map (λ t. t.now) s.invalid.items ≡ kept_lines options.invalid found
  pub fault_count : s.fault_count ≡ length (faults found)
  pub errors : s.errors.items ≡ concat (take (message_limit options.invalid) (faults found))

-- these are all lines, and all messages
pub record IsOfLines (options : LineOptions) (lines : List SourceLine) (s : VersionLines) : Type 0 where
  pub found : List ReadLine
  pub are : AllZip (IsRead options) lines found
  pub fault_count : s.fault_count ≡ length (faults found)
  pub parts : input_parts_of s ≡ input_parts options.invalid found
