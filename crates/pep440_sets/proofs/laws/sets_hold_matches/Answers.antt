use Rattle.pep440_sets.proofs.Matches.{holds_matches}
use Rattle.pep440_sets.proofs.laws.sets_hold_matches.Goals as goal

pub returns : goal.returns
returns c = holds_matches
