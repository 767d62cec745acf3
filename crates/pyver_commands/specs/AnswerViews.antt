-- What the program's own types say, apart from where they lie in memory.
use Rattle.std.specs.Prelude.{string_bytes, List, Bool, Option}
use Rattle.pyver_commands.specs.Matches.{DenotesList, ListFails, SpecifiersReading as SpecifiersReadingValue}
use Rattle.pyver_commands.specs.declared.specifiers.SpecifiersReading.{SpecifiersReading}
use Rattle.pyver_commands.specs.declared.specifiers.SpecifiersReading.TheVariants as specifiers
use Rattle.cli_io.specs.Runs.{Outcome}
use Rattle.pyver_commands.specs.Readings.{Denotes, Fails, Reading as ReadingValue}
use Rattle.pyver_commands.specs.declared.answer.Answer.{Answer}
use Rattle.pyver_commands.specs.declared.reading.Reading.{Reading}
use Rattle.pyver_commands.specs.declared.reading.Reading.TheVariants as reading
use Rattle.std.specs.Option.{option_map}
use Rattle.pep440_rs.specs.Specifiers.{Spec}
use Rattle.pyver_commands.specs.NewestOutcomes.{NewestLine}
use Rattle.pyver_commands.specs.Sources.VersionLines.{VersionLine}
use Rattle.pyver_commands.specs.declared.newest_lines.KeptLine.{KeptLine}

abbrev pub outcome_of : Answer → Outcome
outcome_of a = record { output = a.output.items; errors = a.errors.items; status = a.status }

abbrev pub reading_of : Reading → ReadingValue
reading_of (reading.Version v) = Denotes v
reading_of (reading.Invalid reason) = Fails (string_bytes reason)

abbrev pub specifiers_reading_of : SpecifiersReading → SpecifiersReadingValue
specifiers_reading_of (specifiers.Specifiers list) = DenotesList list
specifiers_reading_of (specifiers.Invalid message) = ListFails (string_bytes message)

abbrev pub kept_line : KeptLine → VersionLine
kept_line x = record { text = x.text.items; version = x.version }

-- of these lines the newest is kept
abbrev pub KeepsNewest : Bool → List Spec → List VersionLine → Option KeptLine → Type 0
KeepsNewest takes list lines kept = NewestLine takes list lines (option_map kept_line kept)
