use Rattle.std.proofs.Common.{◌≡◌, map, Some}
use Rattle.std.proofs.lemmas.Result.{IfOk-weaker}
use Rattle.pep440_rs.specs.Bounds.{full, list_range, range_of}
use Rattle.pep440_rs.specs.Agreement.{HoldsInEach}
use Rattle.pep440_pick.specs.Allowed.{HoldsAllowed, lists_of}
use Rattle.pep440_pick.specs.Requirements.{needed}
use Rattle.pep440_pick.proofs.Joined.{all_allowed, holds_allowed, refused_allowed}
use Rattle.pep440_pick.proofs.allowed_range.allowed.Goals as goal

pub returns-clause-set : goal.returns-clause-set
returns-clause-set c =
    let lists = lists_of c.args.name.now (map needed c.args.requirements.now) in
    IfOk-weaker c.specifiers_to_ranges.result (HoldsInEach range_of c.in_ok-list.list) (HoldsAllowed lists)
    (λ range holds. holds_allowed lists c.in_ok-members.members.items c.in_ok-list.list range c.in_ok-members.ensures c.in_ok-list.ensures.value.same holds) c.specifiers_to_ranges.ensures.set

pub returns-clause-at_max : goal.returns-clause-at_max
returns-clause-at_max c =
    refused_allowed (lists_of c.args.name.now (map needed c.args.requirements.now)) c.in_ok-members.members.items c.in_ok-list.list c.specifiers_to_ranges.result c.in_ok-members.ensures
    c.in_ok-list.ensures.value.same c.specifiers_to_ranges.ensures.range c.specifiers_to_ranges.ensures.refused

pub returns-clause-all : goal.returns-clause-all
returns-clause-all c = λ none.
    let lists = lists_of c.args.name.now (map needed c.args.requirements.now) in
    IfOk-weaker c.specifiers_to_ranges.result (λ range. list_range range_of c.in_ok-list.list ≡ Some range) (λ range. range ≡ full)
    (λ range is. all_allowed lists c.in_ok-members.members.items c.in_ok-list.list range c.in_ok-members.ensures c.in_ok-list.ensures.value.same is none) c.specifiers_to_ranges.ensures.range
