-- Why a run stops, and the status and the last message that it then has.
use Rattle.std.specs.Prelude.{◌≡◌, ◌⊎◌, ⊤, ℕ, List, [], Option, None, Some, codes}
use Rattle.cli_io.specs.Runs.{Outcome}
use Rattle.pyver_commands.specs.Sources.{Input, KnownFile, ReadsInput, FailsReading, input_name, last_name, read_message}
use Rattle.pyver_commands.specs.declared.sources.stream.RunFailure.{RunFailure}
use Rattle.pyver_commands.specs.declared.sources.stream.RunFailure.TheVariants as run_failure

-- the message of a run that is out of memory
abbrev pub memory_message : List ℕ
memory_message = codes "pyver: out of memory\n"

-- the message that a write failed
abbrev pub write_message : List ℕ
write_message = codes "pyver: a write failed\n"

-- a read of the source with this name failed, and this is its message
abbrev pub IsReadMessage : Option (List ℕ) → List ℕ → Type 0
IsReadMessage None message = ⊥
IsReadMessage (Some name) message = message ≡ read_message name

-- a run may stop so, where the last source has this name
abbrev pub IsRunFailureOf : Option (List ℕ) → RunFailure → Type 0
IsRunFailureOf last run_failure.OutOfMemory = ⊤
IsRunFailureOf last run_failure.Read = IsReadMessage last (read_message input_name)
IsRunFailureOf last (run_failure.ReadFile message) = IsReadMessage last message.items
IsRunFailureOf last (run_failure.Output failure) = ⊤
IsRunFailureOf last (run_failure.Errors failure) = ⊤

-- reading the source with this name may stop so
abbrev pub IsReadingFailure : List ℕ → RunFailure → Type 0
IsReadingFailure name run_failure.OutOfMemory = ⊤
IsReadingFailure name run_failure.Read = read_message input_name ≡ read_message name
IsReadingFailure name (run_failure.ReadFile message) = message.items ≡ read_message name
IsReadingFailure name (run_failure.Output failure) = ⊥
IsReadingFailure name (run_failure.Errors failure) = ⊥

-- the status and the message of a failed write; none if nobody reads
abbrev pub IsWriteFailure : ℕ → List ℕ → Type 0
IsWriteFailure status message = ((status ≡ 4) × (message ≡ write_message)) ⊎ ((status ≡ 141) × (message ≡ []))

-- a run that stopped so has this status and message
abbrev pub Reports : RunFailure → ℕ → List ℕ → Type 0
Reports run_failure.OutOfMemory status message = (status ≡ 3) × (message ≡ memory_message)
Reports run_failure.Read status message = (status ≡ 4) × (message ≡ read_message input_name)
Reports (run_failure.ReadFile told) status message = (status ≡ 4) × (message ≡ told.items)
Reports (run_failure.Output failure) status message = IsWriteFailure status message
Reports (run_failure.Errors failure) status message = IsWriteFailure status message

module _ {R : Type 0} (files : List ℕ → KnownFile) (remaining : R → Option (List ℕ)) where
  -- some was read and a read failed, or an allocation failed after some or all was read, and there is no outcome
  pub record FailsWithoutOutcome (names : List (List ℕ)) (reader reader' : R) (why : RunFailure) : Type 0 where
    pub input : Input
    pub reads : FailsReading files remaining (why ≡ run_failure.OutOfMemory) names reader reader' input.sources ⊎ ((why ≡ run_failure.OutOfMemory) × ReadsInput files remaining names reader reader' input)
    pub stops : IsRunFailureOf (last_name input.sources) why

  -- some was read or all, of which this is the outcome
  pub record FailsWithin (Prints : Input → Outcome → Type 0) (names : List (List ℕ)) (reader reader' : R) (o : Outcome) (why : RunFailure) : Type 0 where
    pub input : Input
    pub reads : ReadsInput files remaining names reader reader' input ⊎ (FailsReading files remaining (why ≡ run_failure.OutOfMemory) names reader reader' input.sources × (input.unopened ≡ None))
    pub is : Prints input o
    pub stops : IsRunFailureOf (last_name input.sources) why
