-- Lines of the input with their sources and numbers and what they are read as, and the messages of those that are invalid.
use Rattle.std.specs.Prelude.{◌≡◌, ◌⊎◌, ℕ, ◌-◌, ◌==◌, List, [], ◌∷◌, ◌++◌, Bool, true, false, Option, Some, None, codes, slice_get}
use Rattle.std.specs.Fmt.{decimal}
use Rattle.std.specs.List.{flat_map, slice_split}
use Rattle.std.specs.Str.{IsUtf8}
use Rattle.pyver_commands.specs.Sources.InputLines.{SourceLine}
use Rattle.pyver_commands.specs.Sources.LineOptions.{is_header}
use Rattle.pyver_commands.specs.Outcomes.{line_fault_message}
use Rattle.pyver_commands.specs.Readings.{Denotes, Fails, Reading, Reads}
use Rattle.pyver_commands.specs.declared.sources.line_options.LineOptions.{LineOptions}

-- what bytes are read as
abbrev pub ReadsBytes : List ℕ → Reading → Type 0
ReadsBytes text x = ((¬ IsUtf8 text) × (x ≡ Fails (codes "not UTF-8"))) ⊎ (IsUtf8 text × Reads text x)

-- the field with this number, counted from 1, of a string that is split at each such byte; None if there are fewer fields
abbrev pub field : ℕ → ℕ → List ℕ → Option (List ℕ)
field number delimiter text = slice_get (slice_split (λ b. b == delimiter) text) (number - 1)

-- the reason of a line with fewer fields
abbrev pub no_field_reason : ℕ → List ℕ
no_field_reason number = codes "no field " ++ decimal number

-- what the field with this number is read as, if there is one
abbrev pub ReadsField : ℕ → Option (List ℕ) → Reading → Type 0
ReadsField number None x = x ≡ Fails (no_field_reason number)
ReadsField number (Some text) x = ReadsBytes text x

-- what a line is read as: one of its fields, or the whole line
abbrev pub ReadsPart : Option ℕ → ℕ → List ℕ → Reading → Type 0
ReadsPart None delimiter text x = ReadsBytes text x
ReadsPart (Some number) delimiter text x = ReadsField number (field number delimiter text) x

abbrev pub ReadsLine : LineOptions → List ℕ → Reading → Type 0
ReadsLine options text x = ReadsPart options.field options.delimiter text x

-- what a line is: the header, which is not read, or what it is read as
pub data LineReading : Type 0 where
  Header : LineReading
  Entry : Reading → LineReading

-- a line, and what it is
pub record ReadLine : Type 0 where
  pub line : SourceLine
  pub reading : LineReading

-- the line is the header, or it is not and is read so
abbrev pub IsEntry : Bool → LineOptions → List ℕ → LineReading → Type 0
IsEntry header options text Header = header ≡ true
IsEntry header options text (Entry x) = (header ≡ false) × ReadsLine options text x

abbrev pub IsRead : LineOptions → SourceLine → ReadLine → Type 0
IsRead options line x = (x.line ≡ line) × IsEntry (is_header options line.number) options line.text x.reading

-- the message of an invalid line
abbrev pub fault_at : SourceLine → LineReading → List (List ℕ)
fault_at line Header = []
fault_at line (Entry (Denotes r)) = []
fault_at line (Entry (Fails reason)) = line_fault_message line.origin.name line.number line.text reason ∷ []

abbrev pub faults : List ReadLine → List (List ℕ)
faults found = flat_map (λ (x : ReadLine). fault_at x.line x.reading) found
