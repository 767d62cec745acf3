use Rattle.std.proofs.Common.{◌-◌, arith, drop, length}
use Rattle.std.proofs.lemmas.List.{length-drop, take_all}
use Rattle.pyver_commands.proofs.specifiers.without_first_words.Goals as goal

pub returns : goal.returns
returns c = take_all (length c.args.message.now - 25) (drop 25 c.args.message.now) (omega (arith, length-drop 25 c.args.message.now))
