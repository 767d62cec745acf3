-- What was written of some bytes.
use Rattle.std.specs.Prelude.{◌≡◌, ℕ, List, ◌++◌, Option}
use Rattle.std.specs.Io.KnownBytes.{Appends}

-- a prefix of `all` was written, which may be empty or the whole
pub record WroteBeginning (old new : Option (List ℕ)) (all : List ℕ) : Type 0 where
  pub written : List ℕ
  pub left : List ℕ
  pub wrote : Appends old new written
  pub whole : all ≡ written ++ left
