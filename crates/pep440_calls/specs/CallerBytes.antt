-- The version or the list that a caller's bytes denote, or why they denote none. Bytes that begin with the format byte of compiled
-- versions, or of compiled lists, are compiled; all others are a string.
use Rattle.std.specs.Prelude.{◌≡◌, ◌⊎◌, ℕ, List, codes}
use Rattle.std.specs.Str.{IsUtf8}
use Rattle.pep440_compiled.specs.Lists.{DenotesList, HasListFormat}
use Rattle.pep440_compiled.specs.SetForms.{HasLoneSetFormat}
use Rattle.pep440_compiled.specs.Version.{DenotesVersion, HasVersionFormat}
use Rattle.pep440_rs.specs.Lists.ListErrorTexts.{list_rejection_text}
use Rattle.pep440_rs.specs.Lists.ListGrammar.{DerivesList, PieceRejection, RejectsList}
use Rattle.pep440_rs.specs.Specifiers.{Spec}
use Rattle.pep440_version.specs.ErrorTexts.{rejection_text}
use Rattle.pep440_version.specs.Grammar.{Derives}
use Rattle.pep440_version.specs.Record.{Record}
use Rattle.pep440_version.specs.Rejections.{Rejection, Rejects}
use Rattle.pep440_calls.specs.declared.fault.Fault.{Fault}
use Rattle.pep440_calls.specs.declared.fault.Fault.TheVariants as fault

-- ---- versions

-- the bytes are a string that denotes the version
abbrev pub StringDenotes : List ℕ → Record → Type 0
StringDenotes bytes r = IsUtf8 bytes × Derives bytes r

-- the bytes are a string that denotes the version, or its compiled form
abbrev pub BytesDenote : List ℕ → Record → Type 0
BytesDenote bytes r = ((¬ HasVersionFormat bytes) × StringDenotes bytes r) ⊎ DenotesVersion bytes r

-- the message says why the bytes are no string of a version
abbrev pub ExplainsString : List ℕ → List ℕ → Type 0
ExplainsString bytes words = ((¬ IsUtf8 bytes) × (words ≡ codes "not UTF-8")) ⊎ (IsUtf8 bytes × (f : Rejection) × Rejects bytes f × (words ≡ rejection_text f))

-- the bytes are no string of a version
abbrev pub RejectsString : List ℕ → Type 0
RejectsString bytes = (words : List ℕ) × ExplainsString bytes words

-- the bytes are no compiled version
abbrev pub IsNoCompiledVersion : List ℕ → Type 0
IsNoCompiledVersion bytes = (r : Record) → DenotesVersion bytes r → ⊥

-- the message says why the bytes are no version
abbrev pub ExplainsBytes : List ℕ → List ℕ → Type 0
ExplainsBytes bytes words =
    ((¬ HasVersionFormat bytes) × ExplainsString bytes words)
    ⊎ (HasVersionFormat bytes × IsNoCompiledVersion bytes × (words ≡ codes "not a compiled version"))

-- the bytes are no version
abbrev pub RejectsBytes : List ℕ → Type 0
RejectsBytes bytes = (words : List ℕ) × ExplainsBytes bytes words

-- ---- lists

-- the bytes are a string that denotes the list
abbrev pub StringDenotesList : List ℕ → List Spec → Type 0
StringDenotesList bytes list = IsUtf8 bytes × DerivesList bytes list

-- the bytes are a string that denotes the list, or its compiled form
abbrev pub BytesDenoteList : List ℕ → List Spec → Type 0
BytesDenoteList bytes list = ((¬ HasListFormat bytes) × StringDenotesList bytes list) ⊎ DenotesList bytes list

-- the message says why the bytes are no string of a list
abbrev pub ExplainsListString : List ℕ → List ℕ → Type 0
ExplainsListString bytes words = ((¬ IsUtf8 bytes) × (words ≡ codes "not UTF-8")) ⊎ (IsUtf8 bytes × (f : PieceRejection) × RejectsList bytes f × (words ≡ list_rejection_text f bytes))

-- the bytes are no string of a list
abbrev pub RejectsListString : List ℕ → Type 0
RejectsListString bytes = (words : List ℕ) × ExplainsListString bytes words

-- the bytes are no compiled list
abbrev pub IsNoCompiledList : List ℕ → Type 0
IsNoCompiledList bytes = (list : List Spec) → DenotesList bytes list → ⊥

-- the message says why the bytes are no list
abbrev pub ExplainsListBytes : List ℕ → List ℕ → Type 0
ExplainsListBytes bytes words =
    ((¬ HasListFormat bytes) × ExplainsListString bytes words)
    ⊎ (HasListFormat bytes × IsNoCompiledList bytes × (words ≡ codes "not a compiled list"))

-- the bytes are no list
abbrev pub RejectsListBytes : List ℕ → Type 0
RejectsListBytes bytes = (words : List ℕ) × ExplainsListBytes bytes words

module _ (version : Type 0) (bytes : List ℕ) (range : Type 0) where
  -- the cause of a failure of a call that needs the members of a list, other than memory: an invalid version, an invalid list, a list without
  -- a range, or a set by itself, which has no members
  abbrev pub ListFaults : Fault → Type 0
  ListFaults fault.InvalidVersion = version
  ListFaults fault.InvalidList = (¬ HasLoneSetFormat bytes) × RejectsListBytes bytes
  ListFaults fault.OutOfMemory = Unit {0}
  ListFaults fault.NumberAtMax = range
  ListFaults fault.InvalidRight = ⊥
  ListFaults fault.NoSet = ⊥
  ListFaults fault.NoList = HasLoneSetFormat bytes
