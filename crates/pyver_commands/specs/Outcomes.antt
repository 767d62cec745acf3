-- Outcomes of words and lines, and of several one after another, and the messages on standard error, whose quoted text is escaped.
use Rattle.std.specs.Prelude.{List, [], codes, if◌then◌else◌, max, ℕ, ◌++◌, ◌==◌}
use Rattle.std.specs.List.{fold}
use Rattle.cli_io.specs.Runs.{Outcome}
use Rattle.std.specs.Fmt.{decimal}
use Rattle.cli_io.specs.Escapes.{escaped}

-- the message of an invalid word: the word and the reason
abbrev pub fault_message : List ℕ → List ℕ → List ℕ
fault_message word reason = codes "pyver: '" ++ (escaped word ++ (codes "': " ++ (escaped reason ++ codes "\n")))

-- the message of a line that is no version: the name of its source, `-` for standard input, its number there, and its text
abbrev pub line_fault_message : List ℕ → ℕ → List ℕ → List ℕ → List ℕ
line_fault_message name number text reason =
    codes "pyver: " ++ (escaped name ++ (codes ":" ++ (decimal number ++ (codes ": '" ++ (escaped text ++ (codes "' is not a version: " ++ (escaped reason ++ codes "\n")))))))

-- the message of a file that is not opened or not read
abbrev pub file_message : List ℕ → List ℕ → List ℕ
file_message name reason = codes "pyver: " ++ (escaped name ++ (codes ": " ++ (reason ++ codes "\n")))

-- the message of a number of lines; nothing if there are none
abbrev pub count_message : List ℕ → ℕ → List ℕ
count_message start count = if count == 0 then [] else start ++ (decimal count ++ codes "\n")

-- the message of how many more invalid lines there are
abbrev pub more_faults_message : ℕ → List ℕ
more_faults_message count = count_message (codes "pyver: more invalid lines: ") count

-- the message of how to leave out invalid lines; nothing if there are none
abbrev pub skip_message : ℕ → List ℕ
skip_message count = if count == 0 then [] else codes "pyver: --invalid=skip leaves such lines out\n"

-- the message of how many invalid lines were left out
abbrev pub left_out_message : ℕ → List ℕ
left_out_message count = count_message (codes "pyver: invalid lines left out: ") count

-- no bytes, and status 0
abbrev pub no_outcome : Outcome
no_outcome = record { output = []; errors = []; status = 0 }

-- a status without bytes
abbrev pub silent : ℕ → Outcome
silent status = record { output = []; errors = []; status = status }

-- the outcome of a wrong use, or of input that is not as it has to be: a message, and status 2
abbrev pub message_outcome : List ℕ → Outcome
message_outcome message = record { output = []; errors = message; status = 2 }

-- the outcome of an invalid word or line: its message and status 2
abbrev pub fault : List ℕ → List ℕ → Outcome
fault word reason = record { output = []; errors = fault_message word reason; status = 2 }

-- both outputs one after the other, and the greater status
abbrev pub followed_by : Outcome → Outcome → Outcome
followed_by a b = record { output = a.output ++ b.output; errors = a.errors ++ b.errors; status = max a.status b.status }

-- the outcomes one after another
abbrev pub in_turn : List Outcome → Outcome
in_turn outcomes = fold followed_by no_outcome outcomes
