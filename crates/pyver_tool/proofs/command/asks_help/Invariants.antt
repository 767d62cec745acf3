use Rattle.std.proofs.Common.{◌≡◌, drop, map, string_bytes}
use Rattle.pyver_tool.specs.TaskViews.{option_with_value}
use Rattle.pyver_tool.specs.Tasks.{asks_help}
use Rattle.pyver_tool.proofs.command.asks_help.Given as goal

abbrev pub invariant-loop-given : goal.invariant-loop-given
invariant-loop-given l =
    asks_help (map (option_with_value (λ s. s.now) (λ t. t.now) string_bytes) l.options) ≡ asks_help (map (option_with_value (λ s. s.now) (λ t. t.now) string_bytes) (drop l.given-index l.options))
