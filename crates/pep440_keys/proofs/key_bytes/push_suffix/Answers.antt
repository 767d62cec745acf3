use Rattle.std.proofs.Common.{◌≡◌, [], ◌∷◌, ◌+◌, ◌++◌, ◌*◌, arith, length, subst}
use Rattle.std.proofs.lemmas.Bool.{false≢true}
use Rattle.std.proofs.lemmas.Grind.{common_steps}
use Rattle.pep440_keys.specs.SortKeys.{rank_bytes}
use Rattle.pep440_keys.proofs.Bytes.{zero_bytes, capacity_for_three}
use Rattle.pep440_keys.proofs.key_bytes.push_suffix.Goals as goal

pub returns-then-dev-eq0-clause-appended : goal.returns-then-dev-eq0-clause-appended
returns-then-dev-eq0-clause-appended g c =
    let stage : rank_bytes (c.args.stage.rank, c.args.stage.number) ≡ (16 * c.args.stage.rank) ∷ [] = zero_bytes _ c.args.stage.number c.if-stage-eq0.true in
    let post : rank_bytes (c.args.post.rank, c.args.post.number) ≡ (16 * c.args.post.rank) ∷ [] = zero_bytes _ c.args.post.number c.if-post-eq0.true in
    let dev : rank_bytes (c.args.dev.rank, c.args.dev.number) ≡ (16 * c.args.dev.rank) ∷ [] = zero_bytes _ c.args.dev.number c.if-dev-eq0.true in
    grind (arith, common_steps)

pub returns-then-dev-eq0-clause-fits : goal.returns-then-dev-eq0-clause-fits
returns-then-dev-eq0-clause-fits g c = λ more capacity.
    let stage = zero_bytes (16 * c.args.stage.rank) c.args.stage.number c.if-stage-eq0.true in
    let post = zero_bytes (16 * c.args.post.rank) c.args.post.number c.if-post-eq0.true in
    let dev = zero_bytes (16 * c.args.dev.rank) c.args.dev.number c.if-dev-eq0.true in
    c.append.ensures.fits more (subst (λ bytes. g.K.KeySink.has_capacity c.args.key.now (length bytes + more)) (λ i. stage i ++ post i ++ dev i) capacity)

pub returns-in_err-push_ranked-clause-fits : goal.returns-in_err-push_ranked-clause-fits
returns-in_err-push_ranked-clause-fits g c = λ more capacity.
    let stage = rank_bytes (c.args.stage.rank, c.args.stage.number) in
    let post = rank_bytes (c.args.post.rank, c.args.post.number) in
    let dev = rank_bytes (c.args.dev.rank, c.args.dev.number) in
    let parts = capacity_for_three (g.K.KeySink.has_capacity c.args.key.now) stage post dev more capacity in
    absurd (false≢true (c.in_err-push_ranked.ensures.fits _ parts).0)

pub returns-in_err-push_ranked-2-clause-fits : goal.returns-in_err-push_ranked-2-clause-fits
returns-in_err-push_ranked-2-clause-fits g c = λ more capacity.
    let stage = rank_bytes (c.args.stage.rank, c.args.stage.number) in
    let post = rank_bytes (c.args.post.rank, c.args.post.number) in
    let dev = rank_bytes (c.args.dev.rank, c.args.dev.number) in
    let parts = capacity_for_three (g.K.KeySink.has_capacity c.args.key.now) stage post dev more capacity in
    absurd (false≢true (c.in_err-push_ranked-2.ensures.fits _ (c.push_ranked.ensures.fits _ parts).1).0)

pub returns-clause-fits : goal.returns-clause-fits
returns-clause-fits g c = λ more capacity.
    let stage = rank_bytes (c.args.stage.rank, c.args.stage.number) in
    let post = rank_bytes (c.args.post.rank, c.args.post.number) in
    let dev = rank_bytes (c.args.dev.rank, c.args.dev.number) in
    let parts = capacity_for_three (g.K.KeySink.has_capacity c.args.key.now) stage post dev more capacity in
    c.push_ranked-3.ensures.fits more (c.push_ranked-2.ensures.fits _ (c.push_ranked.ensures.fits _ parts).1).1
