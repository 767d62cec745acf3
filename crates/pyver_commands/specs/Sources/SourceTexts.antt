-- Sources that are read to their ends before anything is written.
use Rattle.std.specs.Prelude.{◌≡◌, ◌⊎◌, ◌≤◌, ◌+◌, ◌*◌, ℕ, List, [], ◌∷◌, ◌++◌, false, Option, Some, None, length, map}
use Rattle.std.specs.Str.{IsUtf8}
use Rattle.cli_io.specs.Newlines.{input_lines}
use Rattle.pyver_commands.specs.Sources.InputLines.{Origin, Source}
use Rattle.pyver_commands.specs.Sources.SourceViews.{origin_of}
use Rattle.pyver_commands.specs.Sources.RunFailures.{IsReadingFailure, IsRunFailureOf}
use Rattle.pyver_commands.specs.Sources.{KnownFile, MayFailToOpen, ReadsByName, ReadsLines, ReadsSource, FailsReading, is_input, last_name}
use Rattle.pyver_commands.specs.declared.sources.open_failure.OpenFailure.{OpenFailure}
use Rattle.pyver_commands.specs.declared.sources.source_texts.SourceText.{SourceText}
use Rattle.pyver_commands.specs.declared.sources.source_texts.SourceTexts.{SourceTexts}
use Rattle.pyver_commands.specs.declared.sources.stream.RunFailure.{RunFailure}
use Rattle.pyver_commands.specs.declared.sources.stream.RunFailure.TheVariants as run_failure

-- a source and its lines
abbrev pub source_of : SourceText → Source
source_of x = record { origin = origin_of x.origin; lines = input_lines x.text.items }

abbrev pub sources_of : SourceTexts → List Source
sources_of state = map source_of state.texts.items

-- no fewer than the lines of these strings
abbrev pub size_of : List SourceText → ℕ
size_of [] = 0
size_of (x ∷ rest) = (length x.text.items + 1) + size_of rest

-- of the reads each gave no more than 8192 bytes, and the last one of each source none
abbrev pub HasBoundedSize : SourceTexts → Type 0
HasBoundedSize state = (size_of state.texts.items ≤ 8192 * state.read_count) × (state.read_count ≤ 562949953421312)

module _ {R : Type 0} (files : List ℕ → KnownFile) (remaining : R → Option (List ℕ)) where
  -- a part of the source with this name, which is UTF-8, was read, when reading stopped
  pub record ReadsTextPart (name : List ℕ) (reader reader' : R) (why : RunFailure) : Type 0 where
    pub utf8 : IsUtf8 name
    pub text : List ℕ
    pub rest : Option (List ℕ)
    pub part : ReadsByName files remaining name reader reader' text rest
    pub stops : IsReadingFailure name why

  -- when reading stopped, a part of the source with this name was read, or, where an allocation failed, nothing
  abbrev pub FailsInText : List ℕ → R → R → RunFailure → Type 0
  FailsInText name reader reader' why = ((why ≡ run_failure.OutOfMemory) × (reader' ≡ reader)) ⊎ ReadsTextPart name reader reader' why

  -- the source with this name was read to its end, after others; or its file was not opened
  abbrev pub GainsSource : Origin → List Source → List Source → R → R → Option OpenFailure → Type 0
  GainsSource origin a b reader reader' None = (source : Source) × ReadsSource files remaining origin reader reader' source × (b ≡ a ++ source ∷ [])
  GainsSource origin a b reader reader' (Some failure) = (is_input origin.name ≡ false) × MayFailToOpen (files origin.name) failure × (b ≡ a) × (reader' ≡ reader)

  -- an allocation failed before the file with this name was opened; or some of the source was read
  abbrev pub FailsInSource : Origin → R → R → RunFailure → Type 0
  FailsInSource origin reader reader' why = ((is_input origin.name ≡ false) × (why ≡ run_failure.OutOfMemory) × (reader' ≡ reader))
      ⊎ ((source : Source) × ReadsLines files remaining origin reader reader' source × IsRunFailureOf (Some origin.name) why)

  -- some sources were read to their ends, and some of the next one, or, where an allocation failed, nothing
  abbrev pub FailsInSources : List (List ℕ) → R → R → RunFailure → Type 0
  FailsInSources names reader reader' why = (sources : List Source) × FailsReading files remaining (why ≡ run_failure.OutOfMemory) names reader reader' sources × IsRunFailureOf (last_name sources) why
