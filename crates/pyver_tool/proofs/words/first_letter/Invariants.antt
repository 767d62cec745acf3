use Rattle.std.proofs.Common.{◌≡◌, drop}
use Rattle.pyver_tool.specs.SplitWords.{rows_of, first_letter}
use Rattle.pyver_tool.proofs.words.first_letter.Given as goal

abbrev pub invariant-loop-row : goal.invariant-loop-row
invariant-loop-row l = first_letter (rows_of (λ s. s.now) (λ t. t.now) l.rows) l.letters ≡ first_letter (rows_of (λ s. s.now) (λ t. t.now) (drop l.row-index l.rows)) l.letters
