use denote.Shadow.{shadow}
use denote.Text.{Utf8}
use Rattle.std.proofs.Common.{◌≡◌, ◌++◌, length, map, string_bytes}
use Rattle.pyver_tool.specs.SplitWords.{rows_of, letter_options}
use Rattle.pyver_tool.specs.TaskViews.{option_with_value}
use Rattle.pyver_tool.proofs.words.push_letters.Given as goal

abbrev pub invariant-loop-row : goal.invariant-loop-row
invariant-loop-row l =
    (map (option_with_value (λ s. s.now) (λ t. t.now) string_bytes) l.options.items ++ (letter_options (rows_of (λ s. s.now) (λ t. t.now) l.rows) l.left).0
    ≡ map (option_with_value (λ s. s.now) (λ t. t.now) string_bytes) l.fn.options.items ++ (letter_options (rows_of (λ s. s.now) (λ t. t.now) l.rows) l.letters).0)
    × ((letter_options (rows_of (λ s. s.now) (λ t. t.now) l.rows) l.left).1 ≡ (letter_options (rows_of (λ s. s.now) (λ t. t.now) l.rows) l.letters).1)
    × shadow (Utf8 l.left)

abbrev pub decreases-loop-row : goal.decreases-loop-row
decreases-loop-row l = length l.left
