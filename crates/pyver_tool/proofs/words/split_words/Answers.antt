use Rattle.std.proofs.Common.{◌≡◌, ◌∙◌, ◌-◌, ◌++◌, [], ◌∷◌, None, Some, ap, bytes_eq, codes, drop, false, length, map, rules, string_bytes, sym, take, true}
use Rattle.std.proofs.lemmas.List.{map-append}
use Rattle.std.specs.Option.{option_map}
use Rattle.pyver_tool.proofs.RunEnds.{awaits_next, first_word, operand_next, operands_before, options_before, whole_next}
use Rattle.pyver_tool.specs.SplitWords.{rows_of, Awaits, Whole, before, is_option, split_words, word_options}
use Rattle.pyver_tool.specs.TaskViews.{option_with_value, named_of}
use Rattle.pyver_tool.proofs.words.split_words.Goals as goal

pub loop-left-preserved-in-Some : goal.loop-left-preserved-in-Some
loop-left-preserved-in-Some c =
    let rows = rows_of (λ s. s.now) (λ t. t.now) c.args.rows.now in
    let given = option_with_value (λ s. s.now) (λ t. t.now) string_bytes in
    let left = c.loop-left.left.now in
    let word = c.as_str-word.result.now in
    let rest = map string_bytes (take (length left - 1) (drop 1 left)) in
    let operands = map string_bytes c.loop-left.operands.items in
    let options = map given c.loop-left.options.items in
    let option = named_of (λ s. s.now) (λ t. t.now) c.in-Some.option in
    let same : string_bytes c.in_ok-to_string.field-0 ≡ word = search rules in
    ap (λ os. before os operands (split_words rows None rest)) (ap (λ items. map given items) c.in_ok-push.ensures.items ∙ map-append given c.loop-left.options.items ((c.in-Some.option, c.in_ok-to_string.field-0) ∷ []) ∙ ap (λ t. options ++ (option, t) ∷ []) same)
    ∙ options_before options ((option, word) ∷ []) operands (split_words rows None rest)
    ∙ ap (λ ws. before options operands (split_words rows (Some option) ws)) (sym (first_word string_bytes left c.word-item.result word c.in-len1-up.len_at_least c.word-item.is c.as_str-word.ensures.value))
    ∙ ap (λ a. before options operands (split_words rows (option_map (named_of (λ s. s.now) (λ t. t.now)) a) (map string_bytes left))) (sym c.in-Some.is)
    ∙ c.loop-left.invariant

pub loop-left-preserved-in_ok-push-2 : goal.loop-left-preserved-in_ok-push-2
loop-left-preserved-in_ok-push-2 c =
    let rows = rows_of (λ s. s.now) (λ t. t.now) c.args.rows.now in
    let left = c.loop-left.left.now in
    let word = c.as_str-word.result.now in
    let rest = map string_bytes (take (length left - 1) (drop 1 left)) in
    let operands = map string_bytes c.loop-left.operands.items in
    let options = map (option_with_value (λ s. s.now) (λ t. t.now) string_bytes) c.loop-left.options.items in
    let same : string_bytes c.in_ok-to_string-2.field-0 ≡ word = search rules in
    let goes_on : bytes_eq word (codes "--") ≡ false = search rules in
    let none : is_option word ≡ false = search rules in
    ap (λ names. before options names (split_words rows (option_map (named_of (λ s. s.now) (λ t. t.now)) c.loop-left.awaited) rest)) (ap (λ items. map string_bytes items) c.in_ok-push-2.ensures.items ∙ map-append string_bytes c.loop-left.operands.items (c.in_ok-to_string-2.field-0 ∷ []) ∙ ap (λ t. operands ++ t ∷ []) same)
    ∙ ap (λ a. before options (operands ++ word ∷ []) (split_words rows (option_map (named_of (λ s. s.now) (λ t. t.now)) a) rest)) c.in_default-awaited.is
    ∙ operands_before options operands (word ∷ []) (split_words rows None rest)
    ∙ ap (λ s. before options operands s) (sym (operand_next rows word rest goes_on none))
    ∙ ap (λ ws. before options operands (split_words rows None ws)) (sym (first_word string_bytes left c.word-item.result word c.in-len1-up.len_at_least c.word-item.is c.as_str-word.ensures.value))
    ∙ ap (λ a. before options operands (split_words rows (option_map (named_of (λ s. s.now) (λ t. t.now)) a) (map string_bytes left))) (sym c.in_default-awaited.is)
    ∙ c.loop-left.invariant

pub loop-left-preserved-in-Whole : goal.loop-left-preserved-in-Whole
loop-left-preserved-in-Whole c =
    let rows = rows_of (λ s. s.now) (λ t. t.now) c.args.rows.now in
    let left = c.loop-left.left.now in
    let word = c.as_str-word.result.now in
    let rest = map string_bytes (take (length left - 1) (drop 1 left)) in
    let operands = map string_bytes c.loop-left.operands.items in
    let options = map (option_with_value (λ s. s.now) (λ t. t.now) string_bytes) c.loop-left.options.items in
    let more = (word_options rows word).0 in
    let goes_on : bytes_eq word (codes "--") ≡ false = search rules in
    let one : is_option word ≡ true = search rules in
    let ended : Whole ≡ (word_options rows word).1 = search rules in
    ap (λ os. before os operands (split_words rows (option_map (named_of (λ s. s.now) (λ t. t.now)) c.loop-left.awaited) rest)) c.in_ok-push_word.ensures.options
    ∙ ap (λ a. before (options ++ more) operands (split_words rows (option_map (named_of (λ s. s.now) (λ t. t.now)) a) rest)) c.in_default-awaited.is
    ∙ options_before options more operands (split_words rows None rest)
    ∙ ap (λ s. before options operands s) (sym (whole_next rows word rest goes_on one ended))
    ∙ ap (λ ws. before options operands (split_words rows None ws)) (sym (first_word string_bytes left c.word-item.result word c.in-len1-up.len_at_least c.word-item.is c.as_str-word.ensures.value))
    ∙ ap (λ a. before options operands (split_words rows (option_map (named_of (λ s. s.now) (λ t. t.now)) a) (map string_bytes left))) (sym c.in_default-awaited.is)
    ∙ c.loop-left.invariant

pub loop-left-preserved : goal.loop-left-preserved
loop-left-preserved c =
    let rows = rows_of (λ s. s.now) (λ t. t.now) c.args.rows.now in
    let left = c.loop-left.left.now in
    let word = c.as_str-word.result.now in
    let rest = map string_bytes (take (length left - 1) (drop 1 left)) in
    let operands = map string_bytes c.loop-left.operands.items in
    let options = map (option_with_value (λ s. s.now) (λ t. t.now) string_bytes) c.loop-left.options.items in
    let more = (word_options rows word).0 in
    let option = named_of (λ s. s.now) (λ t. t.now) c.in-Awaits.option in
    let goes_on : bytes_eq word (codes "--") ≡ false = search rules in
    let one : is_option word ≡ true = search rules in
    let ended : Awaits option ≡ (word_options rows word).1 = search rules in
    ap (λ os. before os operands (split_words rows (Some option) rest)) c.in_ok-push_word.ensures.options
    ∙ options_before options more operands (split_words rows (Some option) rest)
    ∙ ap (λ s. before options operands s) (sym (awaits_next rows word rest goes_on option one ended))
    ∙ ap (λ ws. before options operands (split_words rows None ws)) (sym (first_word string_bytes left c.word-item.result word c.in-len1-up.len_at_least c.word-item.is c.as_str-word.ensures.value))
    ∙ ap (λ a. before options operands (split_words rows (option_map (named_of (λ s. s.now) (λ t. t.now)) a) (map string_bytes left))) (sym c.in_default-awaited.is)
    ∙ c.loop-left.invariant
