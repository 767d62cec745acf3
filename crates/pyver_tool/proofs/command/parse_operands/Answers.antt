use Rattle.pyver_tool.proofs.command.parse_operands.Goals as goal

pub returns-in-Compare : goal.returns-in-Compare
returns-in-Compare c = rw c.in-Compare.is (c.parse_compare.ensures c.args.settings)
