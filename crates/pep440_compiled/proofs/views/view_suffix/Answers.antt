use Rattle.std.proofs.Common.{◌≡◌, ◌∙◌, ◌++◌, List, ℕ, ap, append_assoc, arith, length, sym}
use Rattle.std.proofs.lemmas.List.{length-append}
use Rattle.std.specs.Prelude.{drop}
use Rattle.pep440_compiled.proofs.Fronts.{keyed}
use Rattle.pep440_compiled.proofs.Comparing.{key_public, local_flag, zeros_length}
use Rattle.pep440_compiled.proofs.Loops.{up_to}
use Rattle.pep440_compiled.proofs.views.view_suffix.Goals as goal
use Rattle.pep440_compiled.specs.KeyParts.{public_bytes}
use Rattle.pep440_compiled.specs.Version.{version_bytes, zero_bytes}
use Rattle.pep440_keys.specs.SortKeys.{key_bytes, local_bytes}
use Rattle.pep440_version.specs.Record.{Record}
use Rattle.pep440_version.specs.Key.Trim.{trim}

with_public : (r : Record) (rest : List ℕ) → version_bytes r ++ rest ≡ public_bytes r ++ (local_bytes r.local ++ (zero_bytes r.release ++ rest))
with_public r rest =
    append_assoc (key_bytes r) (zero_bytes r.release) rest ∙ ap (λ l. l ++ (zero_bytes r.release ++ rest)) (key_public r) ∙ append_assoc (public_bytes r) (local_bytes r.local) (zero_bytes r.release ++ rest)

pub returns-in_err-suffix-clause-found : goal.returns-in_err-suffix-clause-found
returns-in_err-suffix-clause-found c r more p o e f g = absurd (c.in_err-suffix.ensures.found r _ p g)

pub returns-in_err-after-clause-found : goal.returns-in_err-after-clause-found
returns-in_err-after-clause-found c r more p o e f g =
    let suffix = c.in_ok-suffix.ensures.found r _ p g in
    absurd (c.in_err-after.ensures.found r.local _ (keyed r p).local suffix.2)

pub returns-clause-found : goal.returns-clause-found
returns-clause-found c r more p o e f g =
    let suffix = c.in_ok-suffix.ensures.found r _ p g in
    let after = c.in_ok-after.ensures.found r.local _ (keyed r p).local suffix.2 in
    let zeros = c.skip_zeros-rest.ensures.found (drop (length (trim r.release)) r.release) more o after in (
      record {
        version = record {
          parsed = p;
          key = up_to c.args.bytes.now (key_bytes r) (zero_bytes r.release ++ more) c.in_ok-after.after.now (e ∙ append_assoc (key_bytes r) (zero_bytes r.release) more) after;
          zeros = omega (arith, ap length after, length-append (zero_bytes r.release) more, ap length zeros, zeros_length r.release);
        };
        release = f;
        public = up_to c.args.bytes.now (public_bytes r) (local_bytes r.local ++ (zero_bytes r.release ++ more)) c.in_ok-suffix.local.now (e ∙ with_public r more) suffix.2;
        is_prerelease = suffix.0;
        is_post = suffix.1;
        has_local = local_flag r.local c.in_ok-suffix.local.now c.in_ok-after.after.now (suffix.2 ∙ ap (λ l. local_bytes r.local ++ l) (sym after));
      },
      zeros,
    )
