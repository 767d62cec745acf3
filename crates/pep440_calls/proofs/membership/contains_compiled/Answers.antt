use Rattle.std.proofs.Common.{◌≡◌, ap, inl}
use Rattle.pep440_calls.proofs.Forms.{as_compiled, as_compiled_list, never_lone, no_compiled, no_compiled_list}
use Rattle.pep440_calls.proofs.membership.contains_compiled.Goals as goal
use Rattle.pep440_rs.specs.Matching.{any_prerelease, list_matches}

pub returns-in-Ok-clause-found : goal.returns-in-Ok-clause-found
returns-in-Ok-clause-found c =
    let list = c.args.list.now in
    let version = c.args.version.now in
    let early = rw c.in-Ok.is at c.contains.ensures.prerelease in (
      (
        inl (c.requires.list, inl c.requires.version),
        λ l r means also.
            let whole = c.contains.ensures.found l r (as_compiled_list list l c.requires.list means) (as_compiled version r c.requires.version also) in
            let same : c.in-Ok.found ≡ (list_matches l r, any_prerelease r) = cc in
            ap (λ p. p.0) same,
      ),
      λ r also. early r (as_compiled version r c.requires.version also),
    )

pub returns-in-Err-NoVersion-clause-found : goal.returns-in-Err-NoVersion-clause-found
returns-in-Err-NoVersion-clause-found c =
    let none = rw c.in-Err-NoVersion.is at c.contains.ensures.version in
    (inl (c.requires.list, c.requires.version), no_compiled c.args.version.now c.requires.version (none c.in-Err-NoVersion.field-0-is))

pub returns-in-Err-NoList-clause-found : goal.returns-in-Err-NoList-clause-found
returns-in-Err-NoList-clause-found c =
    let none = rw c.in-Err-NoList.is at c.contains.ensures.list in
    (never_lone c.args.list.now c.requires.list, no_compiled_list c.args.list.now c.requires.list (none c.in-Err-NoList.field-0-is))
