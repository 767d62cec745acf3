-- The lines of the input by what they are, for commands that print nothing before all are read.
use Rattle.std.specs.Prelude.{◌≡◌, ◌⊎◌, ◌<◌, ℕ, List, [], ◌∷◌, ◌++◌, Option, None, Some, codes, length, take, if◌then◌else◌}
use Rattle.std.specs.List.{AllZip, concat, flat_map}
use Rattle.pep440_version.specs.Record.{Record}
use Rattle.pyver_commands.specs.Sources.InputLines.{SourceLine, Source, filled_lines}
use Rattle.pyver_commands.specs.Sources.InvalidLines.{last_message, lines_status, message_limit}
use Rattle.cli_io.specs.Runs.{Outcome}
use Rattle.pyver_commands.specs.Sources.ReadLines.{Entry, Header, IsRead, LineReading, ReadLine, faults}
use Rattle.pyver_commands.specs.Readings.{Denotes, Fails}
use Rattle.pyver_commands.specs.Sources.{Input, UnopenedSource, unopened_message}
use Rattle.pyver_commands.specs.declared.sources.invalid_lines.InvalidLines.{InvalidLines}
use Rattle.pyver_commands.specs.declared.sources.invalid_lines.InvalidLines.TheVariants as invalid
use Rattle.pyver_commands.specs.declared.sources.line_options.LineOptions.{LineOptions}

-- a line as it was written, and its version
pub record VersionLine : Type 0 where
  pub text : List ℕ
  pub version : Record

-- what was read: the header and its newline, if there is one; the lines that are versions; the invalid lines that are kept; and
-- the messages of invalid lines
pub record InputParts : Type 0 where
  pub header : List ℕ
  pub versions : List VersionLine
  pub invalid : List (List ℕ)
  pub messages : List ℕ

-- the header of the first source and its newline
abbrev pub header_with : SourceLine → LineReading → List ℕ
header_with line Header = if line.origin.is_first then line.text ++ codes "\n" else []
header_with line (Entry x) = []

abbrev pub header_text : List ReadLine → List ℕ
header_text found = flat_map (λ (x : ReadLine). header_with x.line x.reading) found

-- the line with its version, where it is one
abbrev pub line_with : List ℕ → LineReading → List VersionLine
line_with text Header = []
line_with text (Entry (Denotes r)) = record { text = text; version = r } ∷ []
line_with text (Entry (Fails reason)) = []

abbrev pub version_lines : List ReadLine → List VersionLine
version_lines found = flat_map (λ (x : ReadLine). line_with x.line.text x.reading) found

-- an invalid line as it was written, where such lines are kept
abbrev pub kept_text : InvalidLines → List ℕ → List (List ℕ)
kept_text invalid.Error text = []
kept_text invalid.AlwaysError text = []
kept_text invalid.Skip text = []
kept_text invalid.Keep text = text ∷ []

abbrev pub kept_with : InvalidLines → List ℕ → LineReading → List (List ℕ)
kept_with how text Header = []
kept_with how text (Entry (Denotes r)) = []
kept_with how text (Entry (Fails reason)) = kept_text how text

abbrev pub kept_lines : InvalidLines → List ReadLine → List (List ℕ)
kept_lines how found = flat_map (λ (x : ReadLine). kept_with how x.line.text x.reading) found

-- the messages of the first invalid lines, and the last message
abbrev pub line_messages : InvalidLines → List ReadLine → List ℕ
line_messages how found = concat (take (message_limit how) (faults found)) ++ last_message how (length (faults found))

abbrev pub input_parts : InvalidLines → List ReadLine → InputParts
input_parts how found = record { header = header_text found; versions = version_lines found; invalid = kept_lines how found; messages = line_messages how found }

-- invalid lines are an error: they are named, and nothing is printed
abbrev pub invalid_outcome : InvalidLines → List ReadLine → Outcome
invalid_outcome how found = record { output = []; errors = line_messages how found; status = lines_status how (length (faults found)) }

-- what is written of lines that were read: this of all, or, where invalid ones are an error and there are some, their messages
abbrev pub OfFound : InvalidLines → (InputParts → Outcome → Type 0) → List ReadLine → Outcome → Type 0
OfFound how Prints found o = ((lines_status how (length (faults found)) ≡ 0) × Prints (input_parts how found) o)
    ⊎ ((0 < lines_status how (length (faults found))) × (o ≡ invalid_outcome how found))

-- a file was not opened: this is the only message
abbrev pub unopened_outcome : UnopenedSource → Outcome
unopened_outcome file = record { output = []; errors = unopened_message (Some file); status = 2 }

-- what is written of the lines of the sources, or of the file at which reading ended
abbrev pub OfSources : LineOptions → (InputParts → Outcome → Type 0) → List Source → Option UnopenedSource → Outcome → Type 0
OfSources options Prints sources None o = (found : List ReadLine) × AllZip (IsRead options) (filled_lines sources) found × OfFound options.invalid Prints found o
OfSources options Prints sources (Some file) o = o ≡ unopened_outcome file

-- what is written of what was read
abbrev pub OfVersions : LineOptions → (InputParts → Outcome → Type 0) → Input → Outcome → Type 0
OfVersions options Prints input o = OfSources options Prints input.sources input.unopened o
