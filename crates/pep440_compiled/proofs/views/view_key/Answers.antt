use Rattle.std.proofs.Common.{◌∙◌, ◌==◌, ◌++◌, ◌∷◌, ap, length, not, sym}
use Rattle.std.specs.List.{flat_map}
use Rattle.std.specs.Prelude.{drop}
use Rattle.pep440_compiled.proofs.Comparing.{key_ends, key_split}
use Rattle.pep440_compiled.proofs.Loops.{up_to}
use Rattle.pep440_compiled.proofs.Suffixes.{final_parts, in_turn, no_local_left}
use Rattle.pep440_compiled.proofs.views.view_key.Goals as goal
use Rattle.pep440_compiled.specs.KeyParts.{public_bytes}
use Rattle.pep440_compiled.specs.Version.{zero_bytes}
use Rattle.pep440_keys.specs.SortKeys.{key_bytes, local_bytes, segment_bytes}
use Rattle.pep440_version.specs.Key.Trim.{trim}

pub returns-in-Some : goal.returns-in-Some
returns-in-Some c r p e =
    let suffix = (c.in_ok-suffix.ensures.found r.epoch r.release _ (e ∙ key_split r (zero_bytes r.release))).1 in
    let parts = final_parts r c.in_ok-suffix.suffix.now (0 ∷ c.in-Some.rest.now) (local_bytes r.local ++ zero_bytes r.release) p c.in-Some.ensures (suffix ∙ in_turn r (local_bytes r.local ++ zero_bytes r.release)) in
    let local = no_local_left r.local c.in-Some.rest.now (zero_bytes r.release) parts.2 in
    record {
      parsed = p;
      key = up_to c.args.bytes.now (key_bytes r) (zero_bytes r.release) c.in-Some.rest.now e local.1;
      prerelease = sym parts.0;
      final = λ f. record { prerelease = sym parts.0; post = sym parts.1; local = ap (λ l. not (length l == 0)) local.0 };
    }

pub returns : goal.returns
returns c r p e =
    let suffix = (c.in_ok-suffix.ensures.found r.epoch r.release _ (e ∙ key_split r (zero_bytes r.release))).1 in
    let parts = c.in_ok-suffix-2.ensures.found r (local_bytes r.local ++ zero_bytes r.release) p suffix in
    let key = c.trim_zeros.ensures.found (public_bytes r ++ flat_map segment_bytes r.local) (drop (length (trim r.release)) r.release) (e ∙ ap (λ l. l ++ zero_bytes r.release) (key_ends r)) in
    record { parsed = p; key = key ∙ sym (key_ends r); prerelease = sym parts.0 ∙ c.if-suffix.false; final = λ f. absurd (cc) }
