use Rattle.std.proofs.Common.{IfSome, subst, sym, ◌∙◌}
use Rattle.pep440_sets.proofs.Lists.{first_is_in, first_is_none, none_is_empty, without_first}
use Rattle.pep440_sets.specs.Emptiness.{HasNoVersion, IsVersionOf}
use Rattle.pep440_sets.specs.Witnesses.{version_in}
use Rattle.pep440_sets.proofs.set.VersionSet.find_version.Goals as goal

pub returns-clause-inside : goal.returns-clause-inside
returns-clause-inside c =
    let set = c.self.inside.intervals in
    subst (λ o. IfSome o (IsVersionOf c.args.self.now)) (sym c.in_ok-found.ensures) (subst (λ now. IfSome (version_in set) (IsVersionOf now)) c.self.view_is (first_is_in set c.self.invariant))

pub returns-clause-none : goal.returns-clause-none
returns-clause-none c =
    let set = c.self.inside.intervals in (
      λ is. subst HasNoVersion c.self.view_is (without_first set (sym c.in_ok-found.ensures ∙ is)),
      λ none. c.in_ok-found.ensures ∙ first_is_none set (none_is_empty set c.self.invariant (subst HasNoVersion (sym c.self.view_is) none)),
    )
