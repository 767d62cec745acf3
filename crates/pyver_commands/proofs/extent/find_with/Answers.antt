use Rattle.pyver_commands.proofs.extent.find_with.Goals as goal

pub returns-in-Some : goal.returns-in-Some
returns-in-Some c word means = rw c.in-Some.is (c.find_both.ensures word means)

pub returns-in-None : goal.returns-in-None
returns-in-None c word means = rw c.in-None.is (c.find_one.ensures word means)
