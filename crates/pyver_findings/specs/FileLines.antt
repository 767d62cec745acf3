-- The logical lines of requirements files, and what is reported of them.
use Rattle.std.specs.Prelude.{List, Option, map, ℕ}
use Rattle.std.specs.List.{flat_map}
use Rattle.pyver_requirements.specs.LogicalLines.{Line, logical_lines}
use Rattle.pyver_findings.specs.declared.finding.Conflict.{Conflict}

-- a file: its name, and its bytes
pub record File : Type 0 where
  pub name : List ℕ
  pub text : List ℕ

-- a logical line: the name of its file, the number of its first physical line, its text, and its comment
pub record FileLine : Type 0 where
  pub file : List ℕ
  pub number : ℕ
  pub text : List ℕ
  pub comment : List ℕ

-- a line of the file with this name
abbrev pub file_line : List ℕ → Line → FileLine
file_line file l = record { file = file; number = l.number; text = l.text; comment = l.comment }

-- the lines of a file
abbrev pub file_lines : File → List FileLine
file_lines f = map (file_line f.name) (logical_lines f.text)

-- the lines of all files
abbrev pub all_lines : List File → List FileLine
all_lines files = flat_map file_lines files

-- a line that is no requirement, with the reason and the column at which it is none; lines that cannot be satisfied together, and in which environment,
-- as a marker, if they have several markers
pub data Finding : Type 0 where
  NoRequirement : FileLine → (reason : List ℕ) → (column : ℕ) → Finding
  Conflicting : Conflict → (lines : List FileLine) → (environment : Option (List ℕ)) → Finding
