use Rattle.std.proofs.Common.{◌∙◌, ◌==◌, ap, rules, slice_get, tests}
use Rattle.std.proofs.lemmas.Iterator.Consumers.{nth_from_yields_List}
use Rattle.std.proofs.lemmas.Iterator.Splits.{YieldsList-from_slice_split}
use Rattle.std.specs.List.{slice_split}
use Rattle.pyver_commands.proofs.sources.source_lines.find_field.Goals as goal

pub returns : goal.returns
returns c =
    nth_from_yields_List _ _ c.saturating_sub.result c.nth.ensures.ran (YieldsList-from_slice_split _ (λ b. b == c.args.delimiter) c.args.text.now c.split.ensures.rest c.split.ensures.done c.split.ensures.closure (λ x r q k. search (rules, tests)))
    ∙ ap (slice_get (slice_split (λ b. b == c.args.delimiter) c.args.text.now)) c.saturating_sub.ensures
