-- What a run of a program has to write, and how the run may end. `contents` are the bytes that standard output holds, `error_contents`
-- those that standard error holds.
use Rattle.std.specs.Prelude.{◌≡◌, ◌⊎◌, ◌≤◌, ℕ, List, ◌++◌, Option}
use Rattle.std.specs.Io.KnownBytes.{Appends}
use Rattle.cli_io.specs.Streams.{WroteBeginning}

-- the bytes of standard output and of standard error, and the status
pub record Outcome : Type 0 where
  pub output : List ℕ
  pub errors : List ℕ
  pub status : ℕ

-- what was begun to be written when a run stopped: nothing, an outcome at once, or an outcome part by part, as its input is read
pub data OutputProgress : Type 0 where
  Nothing : OutputProgress
  AtOnce : Outcome → OutputProgress
  InParts : Outcome → OutputProgress

-- a prefix of `text` was written, and then a prefix of `message`
pub record WroteThen (old new : Option (List ℕ)) (text message : List ℕ) : Type 0 where
  pub told : List ℕ
  pub untold : List ℕ
  pub split : text ≡ told ++ untold
  pub wrote : WroteBeginning old new (told ++ message)

module _ {W E : Type 0} (contents : W → Option (List ℕ)) (error_contents : E → Option (List ℕ)) where
  -- A beginning was written, and then a prefix of the message. At once: a prefix of the output and then of the message, or all output
  -- and then a prefix of the errors. In parts: a prefix of the output, and one of the errors and then of the message.
  abbrev pub Begins : OutputProgress → List ℕ → W → W → E → E → Type 0
  Begins Nothing message out out' err err' = (out' ≡ out) × WroteBeginning (error_contents err) (error_contents err') message
  Begins (AtOnce o) message out out' err err' = (WroteBeginning (contents out) (contents out') o.output × WroteBeginning (error_contents err) (error_contents err') message)
      ⊎ (Appends (contents out) (contents out') o.output × WroteBeginning (error_contents err) (error_contents err') o.errors)
  Begins (InParts o) message out out' err err' = WroteBeginning (contents out) (contents out') o.output × WroteThen (error_contents err) (error_contents err') o.errors message

  -- a run finished: an outcome was written, and its status is the one of the run
  pub record EndsComplete (Finishes : Outcome → Type 0) (out out' : W) (err err' : E) (status : ℕ) : Type 0 where
    pub outcome : Outcome
    pub is : Finishes outcome
    pub output : Appends (contents out) (contents out') outcome.output
    pub errors : Appends (error_contents err) (error_contents err') outcome.errors
    pub ended : status ≡ outcome.status
    pub low : status ≤ 2

  -- a run stopped: a beginning was written, and then the message of why
  pub record EndsEarly (Fails : OutputProgress → ℕ → List ℕ → Type 0) (out out' : W) (err err' : E) (status : ℕ) : Type 0 where
    pub begun : OutputProgress
    pub message : List ℕ
    pub why : Fails begun status message
    pub begins : Begins begun message out out' err err'

  -- how a run may end, where `Finishes` says with which outcomes it may finish, and `Fails` where and with which status and message it may stop
  abbrev pub Ends : (Outcome → Type 0) → (OutputProgress → ℕ → List ℕ → Type 0) → W → W → E → E → ℕ → Type 0
  Ends Finishes Fails out out' err err' status = EndsComplete Finishes out out' err err' status ⊎ EndsEarly Fails out out' err err' status
