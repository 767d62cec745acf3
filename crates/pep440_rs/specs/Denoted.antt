-- Versions that strings denote, and specifiers whose versions they can give.
use Rattle.std.specs.Prelude.{ℕ, List}
use Rattle.pep440_rs.specs.Agreement.{HasOperand}
use Rattle.pep440_rs.specs.Specifiers.{Spec}
use Rattle.pep440_version.specs.Grammar.{Derives}
use Rattle.pep440_version.specs.Record.{Record}

-- some string denotes the version
abbrev pub IsDenoted : Record → Type 0
IsDenoted v = (text : List ℕ) × Derives text v

-- the version of a specifier is one that a string can give beside the operator
abbrev pub IsDenotable : Spec → Type 0
IsDenotable s = HasOperand s × IsDenoted s.version
