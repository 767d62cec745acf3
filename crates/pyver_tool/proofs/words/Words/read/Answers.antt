use Rattle.std.proofs.Common.{◌≡◌, ◌∙◌, ◌-◌, IfOk, ap, bytes_eq, codes, drop, false, length, map, rules, string_bytes, subst, sym, take}
use Rattle.pyver_tool.proofs.RunEnds.{first_word, named_word}
use Rattle.pyver_tool.specs.TaskViews.{words_task}
use Rattle.pyver_tool.specs.Tasks.{named_task, task_of}
use Rattle.pyver_tool.proofs.words.Words.read.Goals as goal

pub returns-in_default-as_str : goal.returns-in_default-as_str
returns-in_default-as_str c =
    let no_h : bytes_eq c.as_str.result.now (codes "-h") ≡ false = search rules in
    let no_help : bytes_eq c.as_str.result.now (codes "--help") ≡ false = search rules in
    let no_v : bytes_eq c.as_str.result.now (codes "-V") ≡ false = search rules in
    let no_version : bytes_eq c.as_str.result.now (codes "--version") ≡ false = search rules in
    let no_word : bytes_eq c.as_str.result.now (codes "help") ≡ false = search rules in
    let words = c.args.words.now in
    let rest = map string_bytes (take (length words - 1) (drop 1 words)) in
    let is : task_of (map string_bytes words) ≡ named_task c.as_str.result.now rest =
    ap task_of (first_word string_bytes words c.word-item.result c.as_str.result.now c.in-len1-up.len_at_least c.word-item.is c.as_str.ensures.value) ∙ named_word c.as_str.result.now rest no_h no_help no_v no_version no_word
    in subst (λ t. IfOk c.read_command.result (λ w. words_task w ≡ t)) (sym is) c.read_command.ensures
