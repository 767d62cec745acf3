use Rattle.std.proofs.Common.{◌≤◌, ◌∙◌, ap, length, subst, sym, take, true≢false}
use Rattle.std.specs.Slice.Scan.{big_endian}
use Rattle.pep440_compiled.proofs.Fronts.{one_denoted}
use Rattle.pep440_compiled.proofs.SetKeys.{set_tells_by}
use Rattle.pep440_compiled.proofs.set_forms.read_membership_soon.Goals as goal
use Rattle.pep440_compiled.specs.SetBytes.{AreOthers, HasFronts}
use Rattle.pep440_keys.specs.SortKeys.{key_bytes}

pub returns-in_err-held-clause-some : goal.returns-in_err-held-clause-some
returns-in_err-held-clause-some c r denoted decided =
    let d = c.in_ok-version.ensures.exact in
    let key = sym (d.2 ∙ ap key_bytes (one_denoted c.args.version.now d.0 r d.1 denoted)) in
    absurd (true≢false (sym (c.in_err-held.ensures.some (subst (λ k. 8 ≤ length k) key decided.long)
    (subst (AreOthers (big_endian 0 (take 8 c.in_ok-version.version.key.now))) (sym c.as_slice.ensures.value) (subst (λ k. AreOthers (big_endian 0 (take 8 k)) c.args.fronts.now.ranges.items) key decided.other)))))

pub returns-clause-found : goal.returns-clause-found
returns-clause-found c =
    let d = c.in_ok-version.ensures.exact in
    (d.0, d.1, d.3, λ s h. c.in_ok-held.ensures.held s (subst (λ l. HasFronts l s) (sym c.as_slice.ensures.value) h.keys) ∙ set_tells_by s d.0 c.in_ok-version.version.key.now h.valid d.1.parsed d.2)
