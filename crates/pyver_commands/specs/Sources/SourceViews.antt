-- What the program's types of sources say, apart from where they lie in memory.
use Rattle.std.specs.Prelude.{ℕ, List}
use Rattle.pyver_commands.specs.Sources.InputLines.{SourceLine, Origin as OriginValue}
use Rattle.pyver_commands.specs.Sources.{UnopenedSource as UnopenedValue}
use Rattle.pyver_commands.specs.declared.sources.open_failure.UnopenedSource.{UnopenedSource}
use Rattle.pyver_commands.specs.declared.sources.origin.Origin.{Origin}

abbrev pub origin_of : Origin → OriginValue
origin_of origin = record { is_first = origin.is_first; name = origin.name.now }

abbrev pub origin_line : Origin → ℕ → List ℕ → SourceLine
origin_line origin number text = record { origin = origin_of origin; number = number; text = text }

abbrev pub unopened_of : UnopenedSource → UnopenedValue
unopened_of file = record { name = file.name.now; failure = file.failure }
