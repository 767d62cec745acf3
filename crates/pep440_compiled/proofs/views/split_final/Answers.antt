use Rattle.std.proofs.Common.{◌∙◌, ◌==◌, ◌++◌, ◌∷◌, ap, length, not, sym}
use Rattle.pep440_compiled.proofs.Comparing.{key_split}
use Rattle.pep440_compiled.proofs.Suffixes.{final_parts, in_turn, no_local_left}
use Rattle.pep440_compiled.proofs.views.split_final.Goals as goal
use Rattle.pep440_keys.specs.SortKeys.{local_bytes}

pub returns-clause-found : goal.returns-clause-found
returns-clause-found c r rest p e =
    let release = c.in_ok-release.ensures.found r.epoch r.release _ (e ∙ key_split r rest) in
    let parts = final_parts r c.in_ok-release.suffix.now (0 ∷ c.in_ok-rest.rest.now) (local_bytes r.local ++ rest) p c.in_ok-rest.ensures (release.1 ∙ in_turn r (local_bytes r.local ++ rest)) in
    let local = no_local_left r.local c.in_ok-rest.rest.now rest parts.2 in
    (record { prerelease = sym parts.0; post = sym parts.1; local = ap (λ l. not (length l == 0)) local.0 }, release.0, local.1)
