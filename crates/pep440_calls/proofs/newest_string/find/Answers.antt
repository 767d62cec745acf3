use Rattle.std.proofs.Common.{Bool, map, rules, subst}
use Rattle.pep440_calls.proofs.newest_string.find.Goals as goal
use Rattle.pep440_calls.specs.Batches.{IsContainedString}
use Rattle.pep440_pick.specs.Newest.{preference, Greatest}

pub returns : goal.returns
returns c = (
  c.in_ok-specifiers.specifiers,
  c.in_ok-newest.newest,
  c.in_ok-specifiers.ensures,
  subst (λ (takes : Bool). Greatest (IsContainedString c.in_ok-specifiers.specifiers) (preference takes) (map (λ t. t.now) c.args.texts.now) c.in_ok-newest.newest) c.requests_prereleases-takes.ensures c.in_ok-newest.ensures,
  search rules,
)
