use Rattle.std.proofs.Common.{◌∙◌, ◌++◌, ap, arith, length, sym}
use Rattle.std.proofs.lemmas.List.{length-append}
use Rattle.std.specs.List.{flat_map}
use Rattle.std.specs.Prelude.{drop}
use Rattle.pep440_compiled.proofs.Comparing.{key_ends, zeros_length}
use Rattle.pep440_compiled.proofs.Rewritten.{view_again}
use Rattle.pep440_compiled.proofs.views.view_version.Goals as goal
use Rattle.pep440_compiled.specs.KeyParts.{public_bytes}
use Rattle.pep440_compiled.specs.Version.{zero_bytes}
use Rattle.pep440_keys.specs.SortKeys.{key_bytes, segment_bytes}
use Rattle.pep440_version.specs.Key.Trim.{trim}

pub returns-clause-found : goal.returns-clause-found
returns-clause-found c r d =
    let rest = c.in_ok-rest.ensures.found r d in
    let found = c.trim_zeros-key.ensures.found (public_bytes r ++ flat_map segment_bytes r.local) (drop (length (trim r.release)) r.release) (rest ∙ ap (λ l. l ++ zero_bytes r.release) (key_ends r)) in
    record {
      parsed = d.parsed;
      key = found ∙ sym (key_ends r);
      zeros = omega (arith, ap length rest, length-append (key_bytes r) (zero_bytes r.release), ap length (found ∙ sym (key_ends r)), zeros_length r.release);
    }

pub returns-clause-exact : goal.returns-clause-exact
returns-clause-exact c =
    let split = c.trim_zeros-key.ensures.exact in
    view_again c.args.bytes.now c.in_ok-rest.rest.now c.trim_zeros-key.result.now split.0 c.in_ok-rest.ensures.exact split.1
