use Rattle.std.proofs.Common.{◌∙◌, ap}
use Rattle.std.specs.List.{list_any}
use Rattle.pep440_compiled.proofs.SetKeys.{set_tells}
use Rattle.pep440_compiled.proofs.set_forms.set_contains_soon.Goals as goal
use Rattle.pep440_keys.specs.RangeKeys.{is_within, segment_interval}

pub returns-clause-found : goal.returns-clause-found
returns-clause-found c s r h d =
    let keys = c.in_ok-keys.ensures.found s h in
    let version = c.in_ok-version.ensures r d.parsed (c.in_ok-strip_format.ensures.found r d) in
    c.in_ok-held.ensures s keys.sizes keys.same ∙ ap (λ k. list_any (λ s. is_within (segment_interval s) k) s) version.key ∙ set_tells s r keys.valid d.parsed
