use Rattle.std.proofs.Common.{◌≡◌, map, string_bytes}
use Rattle.pep440_pick.proofs.Normal.{same_views}
use Rattle.pep440_pick.proofs.requirement.RequirementClone.clone.Goals as goal

pub returns : goal.returns
returns c =
    let name = c.in_ok-clone.ensures.cases in
    let extras : map string_bytes c.in_ok-clone-2.field-0.items ≡ map string_bytes c.args.self.now.extras.items = same_views string_bytes _ _ c.in_ok-clone-2.ensures.cases.0 in
    let specifiers = c.in_ok-clone-3.ensures.cases in
    record { cases = λ i. record { name = name i; extras = extras i; specifiers = specifiers i } }
