-- `marker MARKER [MARKER]`: an environment in which the marker holds, or both do.
use Rattle.std.specs.Prelude.{◌≡◌, ◌⊎◌, ◌+◌, ℕ, List, [], ◌++◌, Bool, Option, Some, None, Err, codes, length, min}
use Rattle.std.specs.Fmt.{decimal}
use Rattle.cli_io.specs.Escapes.{escaped}
use Rattle.cli_io.specs.Runs.{Outcome}
use Rattle.pyver_commands.specs.Outcomes.{message_outcome}
use Rattle.pyver_markers.specs.Conditions.{Domain}
use Rattle.pyver_markers.specs.Environments.{environment_text}
use Rattle.pyver_markers.specs.Extents.{Always, Extent, IsExtent, Nowhere, Somewhere, Undecided}
use Rattle.pyver_requirements.specs.MarkerGrammar.{Both, DenotesMarker, Marker}
use Rattle.pyver_requirements.specs.MarkerSteps.{Misfit, Step, marker_reason, marker_steps, steps}

-- ---- messages

-- the byte from which on a word is no marker, counted from 1
abbrev pub fault_byte : List ℕ → ℕ → ℕ
fault_byte word position = min position (length word) + 1

-- the message of a word that is no marker from this byte on
abbrev pub marker_fault_message : List ℕ → ℕ → List ℕ → List ℕ
marker_fault_message word byte reason = codes "pyver: '" ++ (escaped word ++ (codes "' is not a marker: byte " ++ (decimal byte ++ (codes ": " ++ (reason ++ codes "\n")))))

abbrev pub marker_message : List ℕ → Misfit → List ℕ
marker_message word f = marker_fault_message word (fault_byte word f.position) (marker_reason f.fault)

-- ---- outcomes

-- the outcome of what is known
abbrev pub extent_outcome : Extent → Outcome
extent_outcome Nowhere = record { output = codes "nowhere\n"; errors = []; status = 1 }
extent_outcome Always = record { output = codes "always\n"; errors = []; status = 0 }
extent_outcome (Somewhere variables) = record { output = environment_text variables ++ codes "\n"; errors = []; status = 0 }
extent_outcome Undecided = message_outcome (codes "pyver: undecided: no environment was found, and there may be one\n")

-- the outcome of a word that is no marker
abbrev pub FailsAsMarker : List ℕ → Outcome → Type 0
FailsAsMarker word o = (f : Misfit) × (marker_steps word ≡ Err f) × (o ≡ message_outcome (marker_message word f))

-- the marker of both words, joined by `and`
abbrev pub DenoteBoth : List ℕ → List ℕ → Marker → Type 0
DenoteBoth word other m = (a : Marker) × (b : Marker) × DenotesMarker word a × DenotesMarker other b × (m ≡ Both a b)

-- environments with any version of Python, on one system if its variables are linked
abbrev pub for_any_python : Bool → Domain
for_any_python linked = record { linked = linked; python = None }

-- the outcome of the marker that is denoted so
abbrev pub PrintsExtent : Bool → (Marker → Type 0) → Outcome → Type 0
PrintsExtent linked Is o =
    (x : Extent) × ((m : Marker) × Is m) × ((m : Marker) → Is m → IsExtent (for_any_python linked) m x) × (o ≡ extent_outcome x)

-- the outcome of `marker`: of one word, or of two
abbrev pub FindsExtent : Bool → List ℕ → Option (List ℕ) → Outcome → Type 0
FindsExtent linked word None o = FailsAsMarker word o ⊎ PrintsExtent linked (DenotesMarker word) o
FindsExtent linked word (Some other) o = FailsAsMarker word o ⊎ (FailsAsMarker other o ⊎ PrintsExtent linked (DenoteBoth word other) o)

-- the outcome of a marker with these steps
abbrev pub PrintsSteps : Bool → List Step → Outcome → Type 0
PrintsSteps linked all o = (x : Extent) × ((m : Marker) → all ≡ steps m → IsExtent (for_any_python linked) m x) × (o ≡ extent_outcome x)

-- the marker that is denoted so has these steps
abbrev pub HasSteps : (Marker → Type 0) → List Step → Type 0
HasSteps Is all = ((m : Marker) × Is m) × ((m : Marker) → Is m → all ≡ steps m)

-- ---- laws

-- of the same words it is never printed both that they hold nowhere and where they hold
abbrev pub HoldsOrNot : Type 0
HoldsOrNot = (linked : Bool) (word : List ℕ) (other : Option (List ℕ)) (a b : Outcome) → FindsExtent linked word other a → FindsExtent linked word other b → a.status ≡ 1
    → ¬ (b.status ≡ 0)
