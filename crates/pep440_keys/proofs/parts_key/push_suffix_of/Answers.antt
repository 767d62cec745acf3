use Rattle.std.proofs.Common.{◌≡◌, [], ◌+◌, ◌++◌, ◌∷◌, length, subst, sym}
use Rattle.std.proofs.lemmas.Bool.{false≢true}
use Rattle.std.specs.Prelude.{None, OnOk}
use Rattle.pep440_keys.proofs.Bytes.{final_bytes, capacity_for_two}
use Rattle.pep440_keys.specs.SortKeys.{rank_bytes}
use Rattle.pep440_keys.proofs.parts_key.push_suffix_of.Goals as goal
use Rattle.pep440_version.specs.Key.{dev_of, dev_rank, post_of, post_rank, stage_of, stage_rank}

pub returns-in-None-None-None-clause-appended : goal.returns-in-None-None-None-clause-appended
returns-in-None-None-None-clause-appended g c =
    let none = c.in-None-None-None in
    subst (λ bytes. OnOk c.append.result (g.K.KeySink.written c.append.new.self ≡ g.K.KeySink.written c.args.key.now ++ 0 ∷ bytes))
    (sym (final_bytes c.args.pre c.args.post c.args.dev none.is-0 none.is-1 none.is-2)) c.append.ensures.appended

pub returns-in-None-None-None-clause-fits : goal.returns-in-None-None-None-clause-fits
returns-in-None-None-None-clause-fits g c = λ more capacity.
    let none = c.in-None-None-None in
    c.append.ensures.fits more (subst (λ bytes. g.K.KeySink.has_capacity c.args.key.now (length (0 ∷ bytes) + more)) (final_bytes c.args.pre c.args.post c.args.dev none.is-0 none.is-1 none.is-2) capacity)

pub returns-in_err-append-clause-fits : goal.returns-in_err-append-clause-fits
returns-in_err-append-clause-fits g c = λ more capacity.
    let stage = rank_bytes (stage_rank (stage_of None c.args.pre c.args.dev c.args.post None)) in
    let suffix = stage ++ rank_bytes (post_rank (post_of None c.args.post)) ++ rank_bytes (dev_rank (dev_of None c.args.dev)) in
    absurd (false≢true (c.in_err-append.ensures.fits _ (capacity_for_two (g.K.KeySink.has_capacity c.args.key.now) (0 ∷ []) suffix more capacity)).0)

pub returns-clause-fits : goal.returns-clause-fits
returns-clause-fits g c = λ more capacity.
    let stage = rank_bytes (stage_rank (stage_of None c.args.pre c.args.dev c.args.post None)) in
    let suffix = stage ++ rank_bytes (post_rank (post_of None c.args.post)) ++ rank_bytes (dev_rank (dev_of None c.args.dev)) in
    let after = (c.append-2.ensures.fits _ (capacity_for_two (g.K.KeySink.has_capacity c.args.key.now) (0 ∷ []) suffix more capacity)).1 in
    c.push_suffix.ensures.fits more
    (subst (λ bytes. g.K.KeySink.has_capacity c.append-2.new.self (length bytes + more))
    (λ i. rank_bytes (sym c.rank_stage.ensures i) ++ rank_bytes (sym c.rank_post.ensures i) ++ rank_bytes (sym c.rank_dev.ensures i)) after)
