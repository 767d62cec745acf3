use Rattle.std.proofs.Common.{◌≡◌, drop}
use Rattle.pyver_tool.specs.SplitWords.{rows_of, named}
use Rattle.pyver_tool.proofs.words.find_long_option.Given as goal

abbrev pub invariant-loop-row : goal.invariant-loop-row
invariant-loop-row l = named (rows_of (λ s. s.now) (λ t. t.now) l.rows) l.word ≡ named (rows_of (λ s. s.now) (λ t. t.now) (drop l.row-index l.rows)) l.word
