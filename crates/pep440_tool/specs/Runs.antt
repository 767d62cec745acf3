-- How a run of the program may end. `remaining` are the bytes that the reader has left, `contents` those that the writer holds.
use Rattle.std.specs.Prelude.{◌≡◌, ℕ, ◌⊎◌, Bool, true, false, List, [], Option}
use Rattle.std.specs.Io.KnownBytes.{Consumes, IsAtEnd}
use Rattle.cli_io.specs.Runs.{AtOnce, OutputProgress, Ends, InParts, Nothing, Outcome}
use Rattle.pep440_tool.specs.Answers.{ToolAnswer, memory_text}
use Rattle.pep440_tool.specs.Commands.{IsAnswer, request_of_words, reads_input}

module _ {R : Type 0} (remaining : R → Option (List ℕ)) where
  -- a command that needs the input has read all of it; any other has read nothing
  abbrev pub TookInput : Bool → R → R → List ℕ → Type 0
  TookInput true old new input = Consumes (remaining old) (remaining new) input × IsAtEnd (remaining new)
  TookInput false old new input = (input ≡ []) × (new ≡ old)

  -- the answer, once the input was read
  pub record PrintsAnswer (words : List (List ℕ)) (reader reader' : R) (o : Outcome) : Type 0 where
    pub input : List ℕ
    pub took : TookInput (reads_input (request_of_words words)) reader reader' input
    pub answer : ToolAnswer
    pub is : IsAnswer (request_of_words words) input answer
    pub outcome : o ≡ record { output = answer.output; errors = []; status = answer.status }

  -- an allocation failed, or with 4 a read, before there was an answer; or a write of the answer failed
  abbrev pub RunFails : List (List ℕ) → R → R → OutputProgress → ℕ → List ℕ → Type 0
  RunFails words reader reader' Nothing status message = ((status ≡ 3) ⊎ (status ≡ 4)) × (message ≡ memory_text)
  RunFails words reader reader' (AtOnce o) status message = (status ≡ 4) × (message ≡ []) × PrintsAnswer words reader reader' o
  RunFails words reader reader' (InParts o) status message = ⊥

module _ {R W : Type 0} (remaining : R → Option (List ℕ)) (contents : W → Option (List ℕ)) where
  -- the one writer takes the output, and then the message
  abbrev pub RunEnds : List (List ℕ) → R → R → W → W → ℕ → Type 0
  RunEnds words reader reader' writer writer' status = (middle : W) × Ends contents contents (PrintsAnswer remaining words reader reader') (RunFails remaining words reader reader') writer middle middle writer' status
