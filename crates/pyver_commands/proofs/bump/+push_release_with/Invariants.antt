use Rattle.pyver_commands.proofs.bump.+push_release_with.Given as goal

abbrev pub decreases-push_release_with : goal.decreases-push_release_with
decreases-push_release_with l = l.index
