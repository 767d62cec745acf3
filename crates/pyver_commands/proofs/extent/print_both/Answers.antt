use Rattle.pyver_commands.proofs.CommandLaws.{found_both}
use Rattle.pyver_commands.proofs.extent.print_both.Goals as goal

pub returns : goal.returns
returns c word other first second = found_both c.args.linked word other _ _ _ _ first second c.in_ok-both.ensures c.in_ok-answer.ensures
