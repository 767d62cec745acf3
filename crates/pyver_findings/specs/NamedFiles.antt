-- The files that the lines of a requirements file name, and which files are of constraints (pip, "Requirements File Format").
use Rattle.std.specs.Prelude.{ℕ, ◌+◌, ◌==◌, ◌||◌, List, [], ◌∷◌, ◌++◌, Bool, Option, Some, None, bytes_eq, if◌then◌else◌}
use Rattle.std.specs.List.{filter, flat_map, list_any}
use Rattle.pep440_rs.specs.Blanks.{opens}
use Rattle.pyver_requirements.specs.LineKinds.{ConstraintsFile, LineKind, RequirementsFile, has_variable, line_kind}
use Rattle.pyver_requirements.specs.LogicalLines.{Line, logical_lines}
use Rattle.pyver_requirements.specs.Options.{value_column}
use Rattle.pyver_findings.specs.FileLines.{File, FileLine, all_lines}
use Rattle.pyver_findings.specs.LineMeanings.{has_scheme}

-- the bytes up to the last `/`, with it
abbrev pub folder : List ℕ → List ℕ
folder [] = []
folder (b ∷ rest) = if list_any (λ c. c == 47) (b ∷ rest) then b ∷ folder rest else []

-- the path, which is relative to the folder of the file with this name unless it begins with `/`
abbrev pub path_from : List ℕ → List ℕ → List ℕ
path_from name path = if opens 47 path then path else folder name ++ path

-- the path after `-r` or `-c`
abbrev pub path_in : LineKind → Option (List ℕ)
path_in (RequirementsFile path) = Some path
path_in (ConstraintsFile path) = Some path
path_in _ = None

-- where a line names a file: the name of the file that the line is in, the number of the line, and the column of the path, from 1
pub record Position : Type 0 where
  pub file : List ℕ
  pub line : ℕ
  pub column : ℕ

-- a file by its name, and the position of the line that names it; none where a word does
pub record NamedFile : Type 0 where
  pub name : List ℕ
  pub position : Option Position

-- the position in this line of the file with this name
abbrev pub path_position : List ℕ → Line → Position
path_position file l = record { file = file; line = l.number; column = value_column l.text + 1 }

-- the file that the path in this line of the file denotes; none where it has a variable or is a URL
abbrev pub named_by : List ℕ → Line → Option (List ℕ) → List NamedFile
named_by file l None = []
named_by file l (Some path) = if has_variable path || has_scheme path then [] else record { name = path_from file path; position = Some (path_position file l) } ∷ []

-- the files that this line of the file names
abbrev pub named_in : List ℕ → Line → List NamedFile
named_in file l = named_by file l (path_in (line_kind l.text))

-- the files that the lines of a file name, in order
abbrev pub named_files : File → List NamedFile
named_files f = flat_map (named_in f.name) (logical_lines f.text)

-- ---- files of constraints

-- the path after `-c`
abbrev pub constraints_path : LineKind → Option (List ℕ)
constraints_path (ConstraintsFile path) = Some path
constraints_path _ = None

-- the name of the file that the path in a line of the file with this name denotes; none where it has a variable or is a URL
abbrev pub denoted_names : List ℕ → Option (List ℕ) → List (List ℕ)
denoted_names file None = []
denoted_names file (Some path) = if has_variable path || has_scheme path then [] else path_from file path ∷ []

-- the name of the file of constraints that the line names
abbrev pub constraints_names : FileLine → List (List ℕ)
constraints_names l = denoted_names l.file (constraints_path (line_kind l.text))

-- one of these lines names the file after `-c`
abbrev pub is_constraints : List FileLine → File → Bool
is_constraints lines f = list_any (bytes_eq f.name) (flat_map constraints_names lines)

-- those of the files that a line of one of them names after `-c`
abbrev pub constraints_files : List File → List File
constraints_files files = filter (is_constraints (all_lines files)) files
