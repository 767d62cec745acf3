use Rattle.std.proofs.Common.{◌≡◌, ◌∙◌, ap, cond, false, map, string_bytes, sym}
use Rattle.pyver_tool.specs.Settings.{effect, no_settings}
use Rattle.pyver_tool.specs.TaskViews.{option_with_value}
use Rattle.pyver_tool.specs.Tasks.{Help, asks_help, by_effect}
use Rattle.pyver_tool.proofs.command.parse_split.Goals as goal

pub returns-else-asks_help : goal.returns-else-asks_help
returns-else-asks_help c =
    let topic = c.args.topic in
    let options = c.in-Given.options.items in
    let operands = c.in-Given.operands.items in
    let helpless : asks_help (map (option_with_value (λ s. s.now) (λ t. t.now) string_bytes) options) ≡ false =
    ap (λ os. asks_help (map (option_with_value (λ s. s.now) (λ t. t.now) string_bytes) os)) (sym c.as_slice.ensures.value) ∙ sym c.asks_help.ensures ∙ c.if-asks_help.false
    in rw c.in-Given.is
    (c.parse_given.ensures
    ∙ ap (λ ps. by_effect topic (map string_bytes ps) (effect no_settings (map (option_with_value (λ s. s.now) (λ t. t.now) string_bytes) c.as_slice-else-asks_help.result.now))) c.as_slice-else-asks_help-2.ensures.value
    ∙ ap (λ os. by_effect topic (map string_bytes operands) (effect no_settings (map (option_with_value (λ s. s.now) (λ t. t.now) string_bytes) os))) c.as_slice-else-asks_help.ensures.value
    ∙ ap (λ b. cond b (Help topic) (by_effect topic (map string_bytes operands) (effect no_settings (map (option_with_value (λ s. s.now) (λ t. t.now) string_bytes) options)))) (sym helpless))
