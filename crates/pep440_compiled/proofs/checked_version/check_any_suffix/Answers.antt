use Rattle.std.proofs.Common.{◌∙◌, ◌++◌, ◌∷◌, [], ap, lit<, refl, sym, true≢false}
use Rattle.std.proofs.lemmas.List.Elements.{All-from_recursion}
use Rattle.pep440_compiled.proofs.checked_version.check_any_suffix.Goals as goal
use Rattle.pep440_compiled.specs.KeyParts.{suffix_bytes}
use Rattle.pep440_keys.specs.SortKeys.{local_bytes}
use Rattle.pep440_version.specs.RoundTrip.{IsParsed}
use Rattle.pep440_version.specs.Record.{Fits, from_parts}

pub returns-in_err-suffix-clause-found : goal.returns-in_err-suffix-clause-found
returns-in_err-suffix-clause-found c r p e = absurd (c.in_err-suffix.ensures.found r (local_bytes r.local) p e)

pub returns-then-not-is_local_part-clause-found : goal.returns-then-not-is_local_part-clause-found
returns-then-not-is_local_part-clause-found c r p e =
    let suffix = c.in_ok-suffix.ensures.found r (local_bytes r.local) p e in
    absurd (true≢false (sym (c.is_local_part.ensures.found r.local p.valid.local p.round_trips.local suffix.3) ∙ c.if-not-is_local_part.true))

pub returns-clause-exact : goal.returns-clause-exact
returns-clause-exact c =
    let suffix = c.in_ok-suffix.suffix in
    let local = c.is_local_part.ensures.exact c.if-not-is_local_part.false in
    let r = from_parts 0 (0 ∷ []) suffix.pre suffix.post suffix.dev local.0 in
    let parsed : IsParsed r = record {
      valid = record {
        epoch = lit< tt;
        some = lit< tt;
        release = All-from_recursion Fits (0 ∷ []) (lit< tt, tt);
        pre = c.prove_pre_fits.ensures;
        post = c.prove_fits.ensures;
        dev = c.prove_fits-2.ensures;
        local = local.1;
        min = tt;
        max = tt;
      };
      round_trips = record { no_min = refl; no_max = refl; local = local.2 };
    } in
    (r, parsed, c.in_ok-suffix.ensures.exact ∙ ap (λ l. suffix_bytes (from_parts 0 [] suffix.pre suffix.post suffix.dev []) ++ l) local.3, c.is_pre_or_dev.ensures)
