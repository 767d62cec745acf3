use Rattle.std.proofs.Common.{◌≡◌, ◌∙◌, Some, ap, sym}
use Rattle.std.specs.Prelude.{Ok, unwrap_or}
use Rattle.std.specs.List.{list_any}
use Rattle.pep440_compiled.proofs.SetKeys.{set_tells}
use Rattle.pep440_compiled.proofs.set_forms.set_contains.Goals as goal
use Rattle.pep440_keys.specs.RangeKeys.{is_within, segment_interval}

pub returns-in_default-view_set-clause-found : goal.returns-in_default-view_set-clause-found
returns-in_default-view_set-clause-found c s r h d = absurd (c.in_default-view_set.ensures.found s h)

pub returns-in-Some-holds_key-clause-found : goal.returns-in-Some-holds_key-clause-found
returns-in-Some-holds_key-clause-found c s r h d =
    let keys = c.in-Some-view_set.ensures.found s h in
    let version = c.in-Some.ensures.found r d in
    let held : Some c.in-Some-holds_key.held ≡ Some (list_any (λ s. is_within (segment_interval s) c.in-Some.version.version.key.now) s) = sym c.in-Some-holds_key.is ∙ c.holds_key.ensures s keys.sizes keys.same in
    let same = ap (λ o. unwrap_or o c.in-Some-holds_key.held) held ∙ ap (λ k. list_any (λ s. is_within (segment_interval s) k) s) version.version.key ∙ set_tells s r keys.valid d.parsed in
    (λ i. Ok (same i, version.is_prerelease i))

pub returns-in-Some-holds_key-clause-prerelease : goal.returns-in-Some-holds_key-clause-prerelease
returns-in-Some-holds_key-clause-prerelease c r d = (c.in-Some.ensures.found r d).is_prerelease

pub returns-in-None-clause-found : goal.returns-in-None-clause-found
returns-in-None-clause-found c s r h d =
    let keys = c.in-Some-view_set.ensures.found s h in
    cc (c.in-None.is, c.holds_key.ensures s keys.sizes keys.same)

pub returns-in-None-clause-list : goal.returns-in-None-clause-list
returns-in-None-clause-list c _ s h =
    let keys = c.in-Some-view_set.ensures.found s h in
    cc (c.in-None.is, c.holds_key.ensures s keys.sizes keys.same)
