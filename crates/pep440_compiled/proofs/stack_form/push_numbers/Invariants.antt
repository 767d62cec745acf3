use Rattle.std.proofs.Common.{◌≡◌, ◌++◌, ◌+◌, ◌≤◌, ◌∷◌, List, ℕ, length}
use Rattle.std.specs.List.{All, flat_map}
use Rattle.pep440_compiled.proofs.PrintedParts.{GoesOn, dots}
use Rattle.pep440_compiled.proofs.WrittenForm.{AreNumbers}
use Rattle.pep440_compiled.proofs.stack_form.push_numbers.Given as goal
use Rattle.pep440_compiled.specs.KeyParts.{ending_zeros}
use Rattle.pep440_compiled.specs.Strings.{EndsRelease}
use Rattle.pep440_keys.specs.SortKeys.{number_bytes}
use Rattle.pep440_version.specs.Grammar.{IsNumber}
use Rattle.pep440_version.specs.Key.Trim.{trim}
use Rattle.pep440_version.specs.Record.{Fits}

-- the numbers are those before the rest, and are written but for their last zeros; of a printed release the others follow
abbrev pub invariant-loop-number : goal.invariant-loop-number
invariant-loop-number l = record {
  read :
      (digits : List ℕ) → IsNumber digits l.first → (numbers : List ℕ) × AreNumbers (digits ++ l.text) l.rest numbers × (l.zeros ≡ ending_zeros numbers)
      × (l.form.items ≡ l.fn.form.items ++ flat_map (number_bytes 1) (trim numbers));
  printed :
      (others rest : List ℕ) → All Fits others → EndsRelease rest → l.text ≡ dots others ++ rest
      → length l.fn.form.items + length (flat_map (number_bytes 1) (l.first ∷ others)) ≤ 64 → GoesOn (l.first ∷ others) rest l.rest l.zeros l.fn.form.items l.form.items;
}

abbrev pub decreases-loop-number : goal.decreases-loop-number
decreases-loop-number l = length l.rest
