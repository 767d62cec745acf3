-- The lines of an input, split at newlines.
use Rattle.std.specs.Prelude.{ℕ, ◌==◌, List}
use Rattle.std.specs.List.{slice_split}

-- they end at a newline or at the end
abbrev pub input_lines : List ℕ → List (List ℕ)
input_lines input = slice_split (λ b. b == 10) input
