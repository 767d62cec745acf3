use Rattle.std.proofs.Common.{◌∙◌, None, ap, map, string_bytes, sym}
use Rattle.pyver_tool.specs.SplitWords.{options, split_words}
use Rattle.std.specs.Option.{option_map_or}
use Rattle.pyver_tool.specs.Tasks.{Misused, by_split, wrong_command}
use Rattle.pyver_tool.proofs.words.read_command.Goals as goal

pub returns-in_ok-split_words-in-Some : goal.returns-in_ok-split_words-in-Some
returns-in_ok-split_words-in-Some c =
    let rest = map string_bytes c.args.words.now in
    ap (λ s. by_split c.in-Some.topic s) (c.in_ok-split_words-in-Some.ensures ∙ ap (λ rows. split_words rows None rest) c.options.ensures)
    ∙ ap (λ t. option_map_or (λ topic. by_split topic (split_words (options topic) None rest)) t (Misused (wrong_command c.args.name.now))) (sym c.in-Some.is ∙ c.parse_topic.ensures)
