use Rattle.std.proofs.Common.{◌≡◌, None, length, map, string_bytes}
use Rattle.std.specs.Option.{option_map}
use Rattle.pyver_tool.specs.SplitWords.{rows_of, before, split_words}
use Rattle.pyver_tool.specs.TaskViews.{option_with_value, named_of}
use Rattle.pyver_tool.proofs.words.split_words.Given as goal

abbrev pub invariant-loop-left : goal.invariant-loop-left
invariant-loop-left l =
    before (map (option_with_value (λ s. s.now) (λ t. t.now) string_bytes) l.options.items) (map string_bytes l.operands.items) (split_words (rows_of (λ s. s.now) (λ t. t.now) l.rows) (option_map (named_of (λ s. s.now) (λ t. t.now)) l.awaited) (map string_bytes l.left))
    ≡ split_words (rows_of (λ s. s.now) (λ t. t.now) l.rows) None (map string_bytes l.words)

abbrev pub decreases-loop-left : goal.decreases-loop-left
decreases-loop-left l = length l.left
