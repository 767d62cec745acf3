use Rattle.std.proofs.Common.{◌≡◌}
use Rattle.examples.specs.Versions.{collect_matches}
use Rattle.examples.proofs.page.collect_matches.Given as goal

abbrev pub invariant-loop-version : goal.invariant-loop-version
invariant-loop-version l = l.versions.items ≡ collect_matches l.wanted l.yielded
