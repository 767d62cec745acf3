use Rattle.std.proofs.Common.{◌≡◌, inl}
use Rattle.pep440_calls.proofs.Allowed.{found_in_set, no_set}
use Rattle.pep440_calls.proofs.Forms.{no_compiled}
use Rattle.pep440_calls.proofs.membership.find_in_set.Goals as goal
use Rattle.pep440_ranges.specs.RangeSegments.{contains}
use Rattle.pep440_rs.specs.Matching.{any_prerelease}
use Rattle.pep440_version.specs.Key.{record_cmp}

pub returns-in-Ok-clause-found : goal.returns-in-Ok-clause-found
returns-in-Ok-clause-found c =
    found_in_set c.args.set.now c.args.version.now c.in-Ok.found c.requires.set c.requires.version (λ s r h d.
    let whole = c.set_contains.ensures.found s r h d in
    let same : c.in-Ok.found ≡ (contains record_cmp s r, any_prerelease r) = cc in
    same)

pub returns-in-Err-NoVersion-clause-found : goal.returns-in-Err-NoVersion-clause-found
returns-in-Err-NoVersion-clause-found c =
    let none = rw c.in-Err-NoVersion.is at c.set_contains.ensures.version in
    (inl (c.requires.set, c.requires.version), no_compiled c.args.version.now c.requires.version (none c.in-Err-NoVersion.field-0-is))

pub returns-in-Err-NoList-clause-found : goal.returns-in-Err-NoList-clause-found
returns-in-Err-NoList-clause-found c =
    let none = rw c.in-Err-NoList.is at c.set_contains.ensures.list in
    no_set c.args.set.now c.requires.set (none c.in-Err-NoList.field-0-is)
