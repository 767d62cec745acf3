use Rattle.std.proofs.Common.{string_bytes}
use Rattle.pyver_commands.proofs.CommandLaws.{found_all, found_more}
use Rattle.pyver_commands.proofs.common_range.find_common.Goals as goal

pub loop-word-preserved : goal.loop-word-preserved
loop-word-preserved c =
    let k = rw c.as_str.ensures.value at c.in_ok-push_word.ensures in
    found_more string_bytes c.args.words.now c.loop-word.word-index c.word-item.result k.0 _ _ _ _ c.loop-word-test.true c.word-item.is k.1 k.2 k.3 c.loop-word.invariant

pub returns : goal.returns
returns c = found_all string_bytes c.args.words.now c.loop-word.word-index _ _ c.args.json _ c.loop-word-test.false c.in_ok-answer.ensures c.loop-word.invariant
