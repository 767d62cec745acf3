use Rattle.pyver_commands.proofs.common_range.print_members.Goals as goal

pub returns : goal.returns
returns c = (c.in_ok-list.list, c.in_ok-list.ensures, c.in_ok-answer.ensures)
