use Rattle.std.proofs.Common.{◌∙◌, ◌++◌, ap, refl, sym, true≢false}
use Rattle.pep440_compiled.proofs.Checking.{key_in_turn, without_sentinels}
use Rattle.pep440_compiled.proofs.Fronts.{keyed}
use Rattle.pep440_compiled.proofs.Rewritten.{denoted, version_again}
use Rattle.pep440_compiled.proofs.checked_version.check_version.Goals as goal
use Rattle.pep440_compiled.specs.KeyParts.{suffix_bytes}
use Rattle.pep440_keys.proofs.Order.{release_fits}
use Rattle.pep440_keys.specs.SortKeys.{local_bytes}
use Rattle.pep440_version.specs.RoundTrip.{IsParsed}
use Rattle.pep440_version.specs.Record.{Record, from_parts}

pub returns-in_err-view-clause-found : goal.returns-in_err-view-clause-found
returns-in_err-view-clause-found c r d = absurd (c.in_err-view.ensures.found r d)

pub returns-in_err-numbers-clause-found : goal.returns-in_err-numbers-clause-found
returns-in_err-numbers-clause-found c r d =
    let v = c.in_ok-view.ensures.found r d in
    absurd (c.in_err-numbers.ensures.found r.epoch _ (v.key ∙ key_in_turn r))

pub returns-in_err-suffix-clause-found : goal.returns-in_err-suffix-clause-found
returns-in_err-suffix-clause-found c r d =
    let v = c.in_ok-view.ensures.found r d in
    let numbers = c.in_ok-numbers.ensures.found r.epoch _ (v.key ∙ key_in_turn r) in
    absurd (c.in_err-suffix.ensures.found r.release _ (release_fits r (keyed r v.parsed)) v.parsed.valid.some v.zeros numbers)

pub returns-in_err-is_prerelease-clause-found : goal.returns-in_err-is_prerelease-clause-found
returns-in_err-is_prerelease-clause-found c r d =
    let v = c.in_ok-view.ensures.found r d in
    let numbers = c.in_ok-numbers.ensures.found r.epoch _ (v.key ∙ key_in_turn r) in
    let suffix = c.in_ok-suffix.ensures.found r.release _ (release_fits r (keyed r v.parsed)) v.parsed.valid.some v.zeros numbers in
    absurd (true≢false (sym (c.in_err-is_prerelease.ensures.found r v.parsed suffix)))

pub returns-clause-exact : goal.returns-clause-exact
returns-clause-exact c =
    let epoch = c.in_ok-numbers.ensures.exact in
    let release = c.in_ok-suffix.ensures.exact in
    let rest = c.in_ok-is_prerelease.ensures.exact in
    let q = rest.0 in
    let of_rest = rest.1 in
    let r = from_parts epoch.0 release.0 q.pre q.post q.dev q.local in
    let view = c.in_ok-view.view in
    let parsed : IsParsed r = record {
      valid = record {
        epoch = epoch.1;
        some = release.2;
        release = release.1;
        pre = of_rest.valid.pre;
        post = of_rest.valid.post;
        dev = of_rest.valid.dev;
        local = of_rest.valid.local;
        min = tt;
        max = tt;
      };
      round_trips = record { no_min = refl; no_max = refl; local = of_rest.round_trips.local };
    } in
    let key =
    version_again view.key.now c.in_ok-numbers.numbers.now c.in_ok-suffix.suffix.now (local_bytes q.local) epoch.0 release.0 q.pre q.post q.dev q.local
    epoch.2 release.4 (rest.2 ∙ ap (λ (s : Record). suffix_bytes s ++ local_bytes q.local) (sym (without_sentinels q of_rest))) refl in
    (r, denoted c.args.bytes.now view r (record { parsed = parsed; key = key; zeros = release.3 }) c.in_ok-view.ensures.exact, key, rest.3)
