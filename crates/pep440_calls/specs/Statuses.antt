-- How a call ends: its status, and what it leaves in the caller's memory. 0 ok, 1 a version is invalid, 2 a list is invalid, 3 out of
-- memory, 4 too little room, 5 a bound lies above the greatest number, 6 the right one of two versions or sets is invalid, 7 a version is
-- not packed, 8 it cannot be changed so, 9 bytes are to be nothing known, 10 none is found, 12 a list has no set, 13 a set has no list.
use Rattle.std.specs.Prelude.{◌≡◌, ◌⊎◌, ◌≤◌, ◌<◌, ℕ, Bool, List, ◌++◌, drop, length, Result, Ok, Err, if◌then◌else◌, ◌+◌, [], ◌∷◌}
use Rattle.pep440_compiled.specs.declared.error.CompileError.{CompileError}
use Rattle.pep440_compiled.specs.declared.error.CompileStringError.{CompileStringError}
use Rattle.pep440_compiled.specs.declared.error.CompiledError.{CompiledError}
use Rattle.pep440_rs.specs.declared.range.error.RangeError.{RangeError}
use Rattle.pep440_sets.specs.declared.error.SetError.{SetError}
use Rattle.pep440_calls.specs.declared.fault.Fault.{Fault}
use Rattle.std.specs.List.{flat_map}
use Rattle.pep440_calls.specs.declared.joined_strings.JoinedStrings.{JoinedStrings}
use Rattle.pep440_compiled.specs.declared.error.CompileError.TheVariants as compile
use Rattle.pep440_compiled.specs.declared.error.CompileStringError.TheVariants as string
use Rattle.pep440_compiled.specs.declared.error.CompiledError.TheVariants as read
use Rattle.pep440_rs.specs.declared.range.error.RangeError.TheVariants as range_error
use Rattle.pep440_sets.specs.declared.error.SetError.TheVariants as set_error
use Rattle.pep440_calls.specs.declared.fault.Fault.TheVariants as fault

-- the status of a failure
abbrev pub fault_status : Fault → ℕ
fault_status fault.InvalidVersion = 1
fault_status fault.InvalidList = 2
fault_status fault.OutOfMemory = 3
fault_status fault.NumberAtMax = 5
fault_status fault.InvalidRight = 6
fault_status fault.NoSet = 12
fault_status fault.NoList = 13

-- why there is no compiled form
abbrev pub fault_of_compile : CompileError → Fault
fault_of_compile compile.NotParsed = fault.InvalidVersion
fault_of_compile compile.OutOfMemory = fault.OutOfMemory

-- why a string has no compiled form
abbrev pub fault_of_string : CompileStringError → Fault
fault_of_string string.NotAVersion = fault.InvalidVersion
fault_of_string string.OutOfMemory = fault.OutOfMemory

-- why a compiled form of a list or of a set is not read
abbrev pub fault_of_read : CompiledError → Fault
fault_of_read read.NotCompiled = fault.InvalidList
fault_of_read read.OutOfMemory = fault.OutOfMemory

-- why there is no range
abbrev pub fault_of_range : RangeError → Fault
fault_of_range range_error.NumberAtMax = fault.NumberAtMax
fault_of_range range_error.OutOfMemory = fault.OutOfMemory

-- a truth value as a number: 0 or 1
abbrev pub flag : Bool → ℕ
flag truth = if truth then 1 else 0

-- the number is the flag of a truth value of which this holds
abbrev pub IsFlagOf : (Bool → Type 0) → ℕ → Type 0
IsFlagOf P number = (truth : Bool) × P truth × (number ≡ flag truth)

-- why there is no set
abbrev pub fault_of_set : SetError → Fault
fault_of_set set_error.ArbitraryEquality = fault.NoSet
fault_of_set set_error.OutOfMemory = fault.OutOfMemory

module _ (Cause : Fault → Type 0) where
  -- what holds of what is given, or why nothing is
  abbrev pub HoldsOr : {X : Type 0} → (X → Type 0) → Result X Fault → Type 0
  HoldsOr P (Ok x) = P x
  HoldsOr P (Err f) = Cause f

  -- the status names the cause of the failure, which may be memory
  abbrev pub FailsBy : ℕ → Type 0
  FailsBy status = (f : Fault) × Cause f × (status ≡ fault_status f)

  -- a value of which this holds is written with status 0; otherwise the caller's value is unchanged, and the status is that of the failure
  abbrev pub WritesOr : {X : Type 0} → (X → Type 0) → X → X → ℕ → Type 0
  WritesOr P old new status = ((status ≡ 0) × P new) ⊎ ((new ≡ old) × FailsBy status)

module _ (version list range : Type 0) where
  -- the cause of a failure other than memory: an invalid version, an invalid list, or a list without a range
  abbrev pub Faults : Fault → Type 0
  Faults fault.InvalidVersion = version
  Faults fault.InvalidList = list
  Faults fault.OutOfMemory = Unit {0}
  Faults fault.NumberAtMax = range
  Faults fault.InvalidRight = ⊥
  Faults fault.NoSet = ⊥
  Faults fault.NoList = ⊥

  abbrev pub HoldsOrFaults : {X : Type 0} → (X → Type 0) → Result X Fault → Type 0
  HoldsOrFaults P result = HoldsOr Faults P result

  abbrev pub Fails : ℕ → Type 0
  Fails status = FailsBy Faults status

-- the cause of a failure of a call on one or two sets, other than memory: the left one or the only one is invalid, the right one is, or one
-- is a list that has no set
abbrev pub SetFaults : Type 0 → Type 0 → Type 0 → Fault → Type 0
SetFaults left right set fault.InvalidVersion = ⊥
SetFaults left right set fault.InvalidList = left
SetFaults left right set fault.OutOfMemory = Unit {0}
SetFaults left right set fault.NumberAtMax = ⊥
SetFaults left right set fault.InvalidRight = right
SetFaults left right set fault.NoSet = set
SetFaults left right set fault.NoList = ⊥

-- the items are written at the start of the caller's buffer, whose rest is unchanged; or it is too small, and unchanged
abbrev pub WritesAtStart : {X : Type 0} → List X → List X → List X → ℕ → Type 0
WritesAtStart items old new status =
    ((status ≡ 0) × (length items ≤ length old) × (new ≡ items ++ drop (length items) old))
    ⊎ ((status ≡ 4) × (length old < length items) × (new ≡ old))

-- items of two kinds are written so, where both buffers have room
abbrev pub WritesBoth : {X Y : Type 0} → List X → List Y → List X → List X → List Y → List Y → ℕ → Type 0
WritesBoth first second old new old_second new_second status =
    ((status ≡ 0) × (length first ≤ length old) × (length second ≤ length old_second) × (new ≡ first ++ drop (length first) old) × (new_second ≡ second ++ drop (length second) old_second))
    ⊎ ((status ≡ 4) × ((length old < length first) ⊎ (length old_second < length second)) × (new ≡ old) × (new_second ≡ old_second))

-- bytes of which this holds are written at the start of the caller's buffer, or the buffer is too small; how many bytes are
-- needed is written. Otherwise nothing is written
abbrev pub WritesBytesOr : (Fault → Type 0) → (List ℕ → Type 0) → List ℕ → List ℕ → ℕ → ℕ → ℕ → Type 0
WritesBytesOr Cause P old new old_written written status =
    ((bytes : List ℕ) × P bytes × (written ≡ length bytes) × WritesAtStart bytes old new status)
    ⊎ ((new ≡ old) × (written ≡ old_written) × FailsBy Cause status)

abbrev pub WritesBytes : Type 0 → Type 0 → Type 0 → (List ℕ → Type 0) → List ℕ → List ℕ → ℕ → ℕ → ℕ → Type 0
WritesBytes version list range = WritesBytesOr (Faults version list range)

-- ---- strings one after the other, and where each of them ends; what is put where a call gave such, or bytes, or a fault

-- where each string ends, if the first begins at this position
abbrev pub ends_from : ℕ → List (List ℕ) → List ℕ
ends_from start [] = []
ends_from start (s ∷ rest) = (start + length s) ∷ ends_from (start + length s) rest

-- the bytes are the strings, one after the other, and the ends are where each string ends
pub record Joins (strings : List (List ℕ)) (bytes ends : List ℕ) : Type 0 where
  pub joined : bytes ≡ flat_map (λ s. s) strings
  pub ended : ends ≡ ends_from 0 strings

-- strings are written, joined, at the start of the caller's buffers, or a buffer is too small; how many bytes are needed is written.
-- Otherwise nothing is written, and the status is out of memory
abbrev pub WritesStrings : List (List ℕ) → List ℕ → List ℕ → List ℕ → List ℕ → ℕ → ℕ → ℕ → Type 0
WritesStrings strings old new old_ends ends old_written written status =
    ((bytes : List ℕ) × (places : List ℕ) × Joins strings bytes places × (written ≡ length bytes) × WritesBoth bytes places old new old_ends ends status)
    ⊎ ((new ≡ old) × (ends ≡ old_ends) × (written ≡ old_written) × (status ≡ 3))

-- strings are written, joined, at the start of the caller's buffers, or a buffer is too small; how many bytes and strings there
-- are is written. Otherwise nothing is written
abbrev pub WritesJoinedOr : (Fault → Type 0) → (List ℕ → List ℕ → Type 0) → List ℕ → List ℕ → List ℕ → List ℕ → ℕ → ℕ → ℕ → ℕ → ℕ → Type 0
WritesJoinedOr Cause P old new old_ends ends old_written written old_count count status =
    ((bytes : List ℕ) × (places : List ℕ) × P bytes places × (written ≡ length bytes) × (count ≡ length places) × WritesBoth bytes places old new old_ends ends status)
    ⊎ ((new ≡ old) × (ends ≡ old_ends) × (written ≡ old_written) × (count ≡ old_count) × FailsBy Cause status)

-- the bytes that were given, seen by view, and how many they are; or the fault's status, and all stays
abbrev pub WritesResult : {X : Type 0} → (X → List ℕ) → Result X Fault → List ℕ → List ℕ → ℕ → ℕ → ℕ → Type 0
WritesResult view (Ok x) old new old_written written status = (written ≡ length (view x)) × WritesAtStart (view x) old new status
WritesResult view (Err fault) old new old_written written status = (new ≡ old) × (written ≡ old_written) × (status ≡ fault_status fault)

-- the joined strings, where each of them ends, and how many bytes and strings they are; or the fault's status, and all stays
abbrev pub WritesJoinedResult : Result JoinedStrings Fault → List ℕ → List ℕ → List ℕ → List ℕ → ℕ → ℕ → ℕ → ℕ → ℕ → Type 0
WritesJoinedResult (Ok joined) old new old_ends ends old_written written old_count count status =
    (written ≡ length joined.bytes.items) × (count ≡ length joined.ends.items) × WritesBoth joined.bytes.items joined.ends.items old new old_ends ends status
WritesJoinedResult (Err fault) old new old_ends ends old_written written old_count count status =
    (new ≡ old) × (ends ≡ old_ends) × (written ≡ old_written) × (count ≡ old_count) × (status ≡ fault_status fault)
