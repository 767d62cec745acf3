-- `compare A OP B`: whether the comparison OP holds of A and B.
use Rattle.std.specs.Prelude.{◌≡◌, ℕ, List, [], ◌∷◌, Bool, not, codes, bytes_eq, Option, Some, None, if◌then◌else◌}
use Rattle.std.specs.Ordering.{is_eq, is_ge, is_gt, is_le, is_lt}
use Rattle.std.specs.declared.cmp.Ordering.{Ordering}
use Rattle.pep440_version.specs.Key.{record_cmp}
use Rattle.cli_io.specs.Runs.{Outcome}
use Rattle.pyver_commands.specs.Outcomes.{in_turn, silent}
use Rattle.pyver_commands.specs.Readings.{Denotes, Fails, Reading, Reads, reading_fault}
use Rattle.pyver_commands.specs.declared.comparison.Comparison.{Comparison}
use Rattle.pyver_commands.specs.declared.comparison.Comparison.TheVariants as comparison

-- the comparison that the word names
abbrev pub comparison_of : List ℕ → Option Comparison
comparison_of word =
    if bytes_eq word (codes "lt") then Some comparison.Less
    else if bytes_eq word (codes "<") then Some comparison.Less
    else if bytes_eq word (codes "le") then Some comparison.LessOrEqual
    else if bytes_eq word (codes "<=") then Some comparison.LessOrEqual
    else if bytes_eq word (codes "eq") then Some comparison.Equal
    else if bytes_eq word (codes "==") then Some comparison.Equal
    else if bytes_eq word (codes "ne") then Some comparison.NotEqual
    else if bytes_eq word (codes "!=") then Some comparison.NotEqual
    else if bytes_eq word (codes "ge") then Some comparison.GreaterOrEqual
    else if bytes_eq word (codes ">=") then Some comparison.GreaterOrEqual
    else if bytes_eq word (codes "gt") then Some comparison.Greater
    else if bytes_eq word (codes ">") then Some comparison.Greater
    else None

-- the comparison holds of two versions in this order
abbrev pub holds : Comparison → Ordering → Bool
holds comparison.Less o = is_lt o
holds comparison.LessOrEqual o = is_le o
holds comparison.Equal o = is_eq o
holds comparison.NotEqual o = not (is_eq o)
holds comparison.GreaterOrEqual o = is_ge o
holds comparison.Greater o = is_gt o

-- status 0 or 1, or the errors of the words that are no versions
abbrev pub comparison_outcome : List ℕ → Reading → Comparison → List ℕ → Reading → Outcome
comparison_outcome left (Denotes r) operator right (Denotes s) = silent (if holds operator (record_cmp r s) then 0 else 1)
comparison_outcome left (Denotes r) operator right (Fails reason) = in_turn (reading_fault left (Denotes r) ∷ (reading_fault right (Fails reason) ∷ []))
comparison_outcome left (Fails reason) operator right reading = in_turn (reading_fault left (Fails reason) ∷ (reading_fault right reading ∷ []))

-- the outcome of `compare` for the two words and the comparison
abbrev pub Compares : List ℕ → Comparison → List ℕ → Outcome → Type 0
Compares left operator right o = (x : Reading) × (y : Reading) × Reads left x × Reads right y × (o ≡ comparison_outcome left x operator right y)
