use Rattle.std.proofs.Common.{◌∙◌, Some, ap, map, sym}
use Rattle.pep440_compiled.proofs.Checking.{key_in_turn, without_sentinels}
use Rattle.pep440_compiled.proofs.Fronts.{keyed}
use Rattle.pep440_compiled.proofs.Rewritten.{version_again}
use Rattle.pep440_compiled.proofs.decode.decode_version.Goals as goal
use Rattle.pep440_compiled.specs.KeyParts.{ending_zeros}
use Rattle.pep440_keys.proofs.Order.{release_fits}
use Rattle.pep440_keys.specs.SortKeys.{key_bytes, local_bytes}
use Rattle.pep440_version.specs.Record.{Record, from_parts}
use Rattle.pep440_version.specs.Segments.{segment}

pub returns-in_default-clause-found : goal.returns-in_default-clause-found
returns-in_default-clause-found c r v =
    absurd (c.in_default.ensures.found r.epoch _ v.parsed.valid.epoch (v.key ∙ key_in_turn r))

pub returns-in_default-2-clause-found : goal.returns-in_default-2-clause-found
returns-in_default-2-clause-found c r v =
    let epoch = c.in-Some.ensures.found r.epoch _ v.parsed.valid.epoch (v.key ∙ key_in_turn r) in
    absurd (rw c.in_default-2.is at (c.in_ok-release.ensures.found r.release _ (release_fits r (keyed r v.parsed)) v.parsed.valid.some v.zeros epoch.1))

pub returns-in_default-read_suffix-clause-found : goal.returns-in_default-read_suffix-clause-found
returns-in_default-read_suffix-clause-found c r v =
    let epoch = c.in-Some.ensures.found r.epoch _ v.parsed.valid.epoch (v.key ∙ key_in_turn r) in
    let release = rw c.in-Some-2.is at (c.in_ok-release.ensures.found r.release _ (release_fits r (keyed r v.parsed)) v.parsed.valid.some v.zeros epoch.1) in
    absurd (c.in_default-read_suffix.ensures.found r (local_bytes r.local) v.parsed release.1)

pub returns-in_default-3-clause-found : goal.returns-in_default-3-clause-found
returns-in_default-3-clause-found c r v =
    let epoch = c.in-Some.ensures.found r.epoch _ v.parsed.valid.epoch (v.key ∙ key_in_turn r) in
    let release = rw c.in-Some-2.is at (c.in_ok-release.ensures.found r.release _ (release_fits r (keyed r v.parsed)) v.parsed.valid.some v.zeros epoch.1) in
    let suffix = c.in-Some-read_suffix.ensures.found r (local_bytes r.local) v.parsed release.1 in
    absurd (rw c.in_default-3.is at (c.in_ok-local.ensures.found r.local v.parsed.valid.local v.parsed.round_trips.local suffix.3))

pub returns-clause-found : goal.returns-clause-found
returns-clause-found c r v =
    let epoch = c.in-Some.ensures.found r.epoch _ v.parsed.valid.epoch (v.key ∙ key_in_turn r) in
    let release = rw c.in-Some-2.is at (c.in_ok-release.ensures.found r.release _ (release_fits r (keyed r v.parsed)) v.parsed.valid.some v.zeros epoch.1) in
    let suffix = c.in-Some-read_suffix.ensures.found r (local_bytes r.local) v.parsed release.1 in
    let local = rw c.in-Some-3.is at (c.in_ok-local.ensures.found r.local v.parsed.valid.local v.parsed.round_trips.local suffix.3) in
    ap Some (c.in_ok-version.ensures
    ∙ (λ i. from_parts (epoch.0 i) ((c.as_slice.ensures ∙ release.0) i) (suffix.0 i) (suffix.1 i) (suffix.2 i) (local i))
    ∙ without_sentinels r v.parsed)

pub returns-clause-exact : goal.returns-clause-exact
returns-clause-exact c p =
    let suffix = c.in-Some-read_suffix.suffix in
    let local = map segment c.in-Some-3.local.items in
    let release = rw c.in-Some-2.is at c.in_ok-release.ensures.exact in
    let is = c.in_ok-version.ensures ∙ ap (λ l. from_parts c.in-Some.epoch l suffix.pre suffix.post suffix.dev local) c.as_slice.ensures in
    record {
      parsed = p;
      key =
          version_again c.args.view.key.now c.in-Some.rest.now c.in-Some-2.rest.now c.in-Some-read_suffix.rest.now c.in-Some.epoch c.in-Some-2.release.items suffix.pre suffix.post suffix.dev local
          c.in-Some.ensures.exact release.1 c.in-Some-read_suffix.ensures.exact (rw c.in-Some-3.is at c.in_ok-local.ensures.exact)
          ∙ ap key_bytes (sym is);
      zeros = release.0 ∙ ap (λ (q : Record). ending_zeros q.release) (sym is);
    }
