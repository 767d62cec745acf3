use Rattle.std.proofs.Common.{◌≡◌, drop, map, string_bytes}
use Rattle.pyver_tool.specs.Settings.{effect, no_settings}
use Rattle.pyver_tool.specs.TaskViews.{option_with_value}
use Rattle.pyver_tool.proofs.command.parse_given.Given as goal

abbrev pub invariant-loop-given : goal.invariant-loop-given
invariant-loop-given l =
    effect no_settings (map (option_with_value (λ s. s.now) (λ t. t.now) string_bytes) l.options) ≡ effect l.settings (map (option_with_value (λ s. s.now) (λ t. t.now) string_bytes) (drop l.given-index l.options))
