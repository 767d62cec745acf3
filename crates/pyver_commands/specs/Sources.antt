-- The sources that a run reads, standard input and files, by their names.
pub mod InputLines
pub mod LineOptions
pub mod InvalidLines
pub mod ReadLines
pub mod VersionLines
pub mod SourceViews
pub mod RunFailures
pub mod SourceTexts
pub mod VersionLineViews
use Rattle.std.specs.Prelude.{◌≡◌, ◌⊎◌, ⊤, ℕ, List, [], ◌∷◌, ◌++◌, Bool, true, false, Option, Some, None, bytes_eq, codes, if◌then◌else◌}
use Rattle.std.specs.Io.KnownBytes.{Consumes, IsAtEnd}
use Rattle.cli_io.specs.Newlines.{input_lines}
use Rattle.cli_io.specs.Runs.{Outcome}
use Rattle.pyver_commands.specs.Sources.InputLines.{Origin, Source}
use Rattle.pyver_commands.specs.Outcomes.{file_message, message_outcome}
use Rattle.pyver_commands.specs.declared.sources.open_failure.OpenFailure.{OpenFailure}
use Rattle.pyver_commands.specs.declared.sources.open_failure.OpenFailure.TheVariants as failure

-- ---- names

-- the name of standard input
abbrev pub input_name : List ℕ
input_name = codes "-"

abbrev pub is_input : List ℕ → Bool
is_input name = bytes_eq name input_name

-- the sources that names denote: these, or standard input where there are none
abbrev pub source_names : List (List ℕ) → List (List ℕ)
source_names [] = input_name ∷ []
source_names (name ∷ names) = name ∷ names

-- standard input as the only source
abbrev pub input_origin : Origin
input_origin = record { is_first = true; name = input_name }

-- there is no name
abbrev pub is_none : List (List ℕ) → Bool
is_none [] = true
is_none (name ∷ names) = false

-- the name of the last source
abbrev pub last_name : List Source → Option (List ℕ)
last_name [] = None
last_name (source ∷ []) = Some source.origin.name
last_name (source ∷ (next ∷ rest)) = last_name (next ∷ rest)

-- ---- files

-- what is known of a file: nothing, its bytes, or why it is not opened
pub data KnownFile : Type 0 where
  Unknown : KnownFile
  Holds : List ℕ → KnownFile
  Fails : OpenFailure → KnownFile

-- the file may be opened, and then these bytes are left of it, where they are known
abbrev pub MayOpen : KnownFile → Option (List ℕ) → Type 0
MayOpen Unknown left = ⊤
MayOpen (Holds bytes) left = left ≡ Some bytes
MayOpen (Fails why) left = ⊥

-- the file may fail to be opened, for this reason
abbrev pub MayFailToOpen : KnownFile → OpenFailure → Type 0
MayFailToOpen Unknown reason = ⊤
MayFailToOpen (Holds bytes) reason = ⊥
MayFailToOpen (Fails why) reason = reason ≡ why

-- what is known of a path says that it is this one
abbrev pub IsKnownPath : Option (List ℕ) → List ℕ → Type 0
IsKnownPath None path = ⊤
IsKnownPath (Some known) path = path ≡ known

-- what is known of whether a source is the output allows this
abbrev pub IsKnownOutput : Option Bool → Bool → Type 0
IsKnownOutput None is = ⊤
IsKnownOutput (Some known) is = is ≡ known

-- the first of the sources that is also the output, or None where none is, as far as that is known
abbrev pub FindsOutput : (List ℕ → Option Bool) → List (List ℕ) → Option (List ℕ) → Type 0
FindsOutput outputs [] found = found ≡ None
FindsOutput outputs (name ∷ names) found = (IsKnownOutput (outputs name) true × (found ≡ Some name)) ⊎ (IsKnownOutput (outputs name) false × FindsOutput outputs names found)

-- the outcome of a command that writes while it reads, where the source with this name is also the output
abbrev pub output_outcome : List ℕ → Outcome
output_outcome name = message_outcome (file_message name (codes "input file is also the output"))

-- the reason in words
abbrev pub failure_reason : OpenFailure → List ℕ
failure_reason failure.NotFound = codes "no such file"
failure_reason failure.PermissionDenied = codes "permission denied"
failure_reason failure.IsDirectory = codes "is a directory"
failure_reason failure.OutOfMemory = codes "out of memory"
failure_reason failure.Other = codes "cannot be opened"

-- a file that was not opened
pub record UnopenedSource : Type 0 where
  pub name : List ℕ
  pub failure : OpenFailure

-- its message, where there is one
abbrev pub unopened_message : Option UnopenedSource → List ℕ
unopened_message None = []
unopened_message (Some file) = file_message file.name (failure_reason file.failure)

-- the status 2 where there is one, and otherwise this one
abbrev pub unopened_status : Option UnopenedSource → ℕ → ℕ
unopened_status None status = status
unopened_status (Some file) status = 2

-- the message that a read of the source with this name failed
abbrev pub read_message : List ℕ → List ℕ
read_message name = if is_input name then codes "pyver: a read failed\n" else file_message name (codes "a read failed")

-- ---- what was read

-- the sources that were read, and the file at which reading ended, if one was not opened
pub record Input : Type 0 where
  pub sources : List Source
  pub unopened : Option UnopenedSource

-- no source
abbrev pub no_input : Input
no_input = record { sources = []; unopened = None }

-- `files` is what is known of each file, `remaining` the bytes that standard input has left
module _ {R : Type 0} (files : List ℕ → KnownFile) (remaining : R → Option (List ℕ)) where
  -- this text was read, of standard input or of a file that was opened, of which then these bytes are left
  abbrev pub ReadsText : Bool → KnownFile → R → R → List ℕ → Option (List ℕ) → Type 0
  ReadsText true file reader reader' text left = Consumes (remaining reader) (remaining reader') text × (left ≡ remaining reader')
  ReadsText false file reader reader' text left = (start : Option (List ℕ)) × MayOpen file start × Consumes start left text × (reader' ≡ reader)

  -- this text was read of the source with this name
  abbrev pub ReadsByName : List ℕ → R → R → List ℕ → Option (List ℕ) → Type 0
  ReadsByName name reader reader' text left = ReadsText (is_input name) (files name) reader reader' text left

  -- this text was read to the end of the source with this name
  abbrev pub ReadsWhole : List ℕ → R → R → List ℕ → Type 0
  ReadsWhole name reader reader' text = (left : Option (List ℕ)) × ReadsByName name reader reader' text left × IsAtEnd left

  -- the file with this name was not opened, for this reason
  abbrev pub IsUnopened : List ℕ → R → R → OpenFailure → Type 0
  IsUnopened name reader reader' why = (is_input name ≡ false) × MayFailToOpen (files name) why × (reader' ≡ reader)

  -- a source was read to its end
  pub record ReadsSource (origin : Origin) (reader reader' : R) (source : Source) : Type 0 where
    pub text : List ℕ
    pub left : Option (List ℕ)
    pub reads : ReadsByName origin.name reader reader' text left
    pub end : IsAtEnd left
    pub is : source ≡ record { origin = origin; lines = input_lines text }

  -- of a source these first lines were read, and more of it
  pub record ReadsLines (origin : Origin) (reader reader' : R) (source : Source) : Type 0 where
    pub text : List ℕ
    pub left : Option (List ℕ)
    pub reads : ReadsByName origin.name reader reader' text left
    pub rest : List (List ℕ)
    pub split : input_lines text ≡ source.lines ++ rest
    pub whole : rest ≡ [] → IsAtEnd left
    pub is : source.origin ≡ origin

  -- the sources with these names were read to their ends, one after the other; whether the first of them is the first of all
  abbrev pub ReadsAll : Bool → List (List ℕ) → R → R → List Source → Type 0
  ReadsAll first [] reader reader' sources = (reader' ≡ reader) × (sources ≡ [])
  ReadsAll first (name ∷ names) reader reader' sources =
      (middle : R) × (source : Source) × (rest : List Source) × ReadsSource (record { is_first = first; name = name }) reader middle source × ReadsAll false names middle reader' rest × (sources ≡ source ∷ rest)

  -- the first of these names is of a file that was not opened; or no name is left
  abbrev pub EndsAt : List (List ℕ) → Option UnopenedSource → Type 0
  EndsAt [] None = ⊤
  EndsAt [] (Some file) = ⊥
  EndsAt (name ∷ names) None = ⊥
  EndsAt (name ∷ names) (Some file) = (file.name ≡ name) × (is_input name ≡ false) × MayFailToOpen (files name) file.failure

  -- all sources were read to their ends, or all before a file that was not opened
  pub record ReadsInput (names : List (List ℕ)) (reader reader' : R) (input : Input) : Type 0 where
    pub read : List (List ℕ)
    pub left : List (List ℕ)
    pub split : names ≡ read ++ left
    pub sources : ReadsAll true read reader reader' input.sources
    pub ends : EndsAt left input.unopened

  -- all was read, up to a file that was not opened if there was one, and this is the outcome
  pub record IsOutcomeOfSources (Prints : Input → Outcome → Type 0) (names : List (List ℕ)) (reader reader' : R) (o : Outcome) : Type 0 where
    pub input : Input
    pub reads : ReadsInput names reader reader' input
    pub is : Prints input o

  -- some sources were read to their ends, and of the next one some lines
  pub record ReadsIntoNext (names : List (List ℕ)) (reader reader' : R) (sources : List Source) : Type 0 where
    pub read : List (List ℕ)
    pub name : List ℕ
    pub left : List (List ℕ)
    pub split : names ≡ read ++ name ∷ left
    pub middle : R
    pub before : List Source
    pub whole : ReadsAll true read reader middle before
    pub part : Source
    pub lines : ReadsLines (record { is_first = is_none read; name = name }) middle reader' part
    pub are : sources ≡ before ++ part ∷ []

  -- some sources were read to their ends, and nothing of the next one
  pub record ReadsBefore (names : List (List ℕ)) (reader reader' : R) (sources : List Source) : Type 0 where
    pub read : List (List ℕ)
    pub name : List ℕ
    pub left : List (List ℕ)
    pub split : names ≡ read ++ name ∷ left
    pub whole : ReadsAll true read reader reader' sources

  -- some sources were read to their ends, and of the next one some lines, or, where an allocation failed, nothing
  abbrev pub FailsReading : Type 0 → List (List ℕ) → R → R → List Source → Type 0
  FailsReading memory_ran_out names reader reader' sources = ReadsIntoNext names reader reader' sources ⊎ (memory_ran_out × ReadsBefore names reader reader' sources)
