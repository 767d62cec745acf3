use Rattle.std.proofs.Common.{◌∙◌, ◌++◌, ap, sym}
use Rattle.pep440_compiled.proofs.Checking.{suffix_in_turn}
use Rattle.pep440_compiled.proofs.Rewritten.{three_again}
use Rattle.pep440_compiled.proofs.Suffixes.{dev_small, post_small, stage_small}
use Rattle.pep440_compiled.proofs.decode.read_any_suffix.Goals as goal
use Rattle.pep440_keys.proofs.Order.{dev_fits, post_fits, stage_fits}
use Rattle.pep440_keys.specs.SortKeys.{rank_bytes}
use Rattle.std.specs.Prelude.{None}
use Rattle.pep440_version.specs.Key.{dev_of, dev_rank, key, post_of, post_rank, stage_of, stage_rank}

pub returns-in_err-stage-clause-found : goal.returns-in_err-stage-clause-found
returns-in_err-stage-clause-found c r rest p e =
    absurd (c.in_err-stage.ensures.found (stage_rank (key r).stage).0 (stage_rank (key r).stage).1 _ (stage_small (key r).stage) (stage_fits r.min r.pre r.dev r.post r.max p.valid.pre) (suffix_in_turn c.args.bytes.now r rest e))

pub returns-in_err-post_rank-clause-found : goal.returns-in_err-post_rank-clause-found
returns-in_err-post_rank-clause-found c r rest p e =
    let stage = c.in_ok-stage.ensures.found (stage_rank (key r).stage).0 (stage_rank (key r).stage).1 _ (stage_small (key r).stage) (stage_fits r.min r.pre r.dev r.post r.max p.valid.pre) (suffix_in_turn c.args.bytes.now r rest e) in
    absurd (c.in_err-post_rank.ensures.found (post_rank (key r).post).0 (post_rank (key r).post).1 _ (post_small (key r).post) (post_fits r.max r.post p.valid.max p.valid.post) stage.2)

pub returns-in_err-dev_rank-clause-found : goal.returns-in_err-dev_rank-clause-found
returns-in_err-dev_rank-clause-found c r rest p e =
    let stage = c.in_ok-stage.ensures.found (stage_rank (key r).stage).0 (stage_rank (key r).stage).1 _ (stage_small (key r).stage) (stage_fits r.min r.pre r.dev r.post r.max p.valid.pre) (suffix_in_turn c.args.bytes.now r rest e) in
    let post = c.in_ok-post_rank.ensures.found (post_rank (key r).post).0 (post_rank (key r).post).1 _ (post_small (key r).post) (post_fits r.max r.post p.valid.max p.valid.post) stage.2 in
    absurd (c.in_err-dev_rank.ensures.found (dev_rank (key r).dev).0 (dev_rank (key r).dev).1 _ (dev_small (key r).dev) (dev_fits r.min r.dev p.valid.min p.valid.dev) post.2)

pub returns-in_err-post-clause-found : goal.returns-in_err-post-clause-found
returns-in_err-post-clause-found c r rest p e =
    let stage = c.in_ok-stage.ensures.found (stage_rank (key r).stage).0 (stage_rank (key r).stage).1 _ (stage_small (key r).stage) (stage_fits r.min r.pre r.dev r.post r.max p.valid.pre) (suffix_in_turn c.args.bytes.now r rest e) in
    let post = c.in_ok-post_rank.ensures.found (post_rank (key r).post).0 (post_rank (key r).post).1 _ (post_small (key r).post) (post_fits r.max r.post p.valid.max p.valid.post) stage.2 in
    let dev = c.in_ok-dev_rank.ensures.found (dev_rank (key r).dev).0 (dev_rank (key r).dev).1 _ (dev_small (key r).dev) (dev_fits r.min r.dev p.valid.min p.valid.dev) post.2 in
    absurd (c.in_err-post.ensures.found r.post ((λ i. (post.0 i, post.1 i)) ∙ (λ i. post_rank (post_of (p.round_trips.no_max i) r.post))))

pub returns-in_err-dev-clause-found : goal.returns-in_err-dev-clause-found
returns-in_err-dev-clause-found c r rest p e =
    let stage = c.in_ok-stage.ensures.found (stage_rank (key r).stage).0 (stage_rank (key r).stage).1 _ (stage_small (key r).stage) (stage_fits r.min r.pre r.dev r.post r.max p.valid.pre) (suffix_in_turn c.args.bytes.now r rest e) in
    let post = c.in_ok-post_rank.ensures.found (post_rank (key r).post).0 (post_rank (key r).post).1 _ (post_small (key r).post) (post_fits r.max r.post p.valid.max p.valid.post) stage.2 in
    let dev = c.in_ok-dev_rank.ensures.found (dev_rank (key r).dev).0 (dev_rank (key r).dev).1 _ (dev_small (key r).dev) (dev_fits r.min r.dev p.valid.min p.valid.dev) post.2 in
    let post_is = c.in_ok-post.ensures.found r.post ((λ i. (post.0 i, post.1 i)) ∙ (λ i. post_rank (post_of (p.round_trips.no_max i) r.post))) in
    absurd (c.in_err-dev.ensures.found r.dev ((λ i. (dev.0 i, dev.1 i)) ∙ (λ i. dev_rank (dev_of (p.round_trips.no_min i) r.dev))))

pub returns-in_err-pre-clause-found : goal.returns-in_err-pre-clause-found
returns-in_err-pre-clause-found c r rest p e =
    let stage = c.in_ok-stage.ensures.found (stage_rank (key r).stage).0 (stage_rank (key r).stage).1 _ (stage_small (key r).stage) (stage_fits r.min r.pre r.dev r.post r.max p.valid.pre) (suffix_in_turn c.args.bytes.now r rest e) in
    let post = c.in_ok-post_rank.ensures.found (post_rank (key r).post).0 (post_rank (key r).post).1 _ (post_small (key r).post) (post_fits r.max r.post p.valid.max p.valid.post) stage.2 in
    let dev = c.in_ok-dev_rank.ensures.found (dev_rank (key r).dev).0 (dev_rank (key r).dev).1 _ (dev_small (key r).dev) (dev_fits r.min r.dev p.valid.min p.valid.dev) post.2 in
    let post_is = c.in_ok-post.ensures.found r.post ((λ i. (post.0 i, post.1 i)) ∙ (λ i. post_rank (post_of (p.round_trips.no_max i) r.post))) in
    let dev_is = c.in_ok-dev.ensures.found r.dev ((λ i. (dev.0 i, dev.1 i)) ∙ (λ i. dev_rank (dev_of (p.round_trips.no_min i) r.dev))) in
    absurd (c.in_err-pre.ensures.found r.pre ((λ i. (stage.0 i, stage.1 i)) ∙ (λ i. stage_rank (stage_of (p.round_trips.no_min i) r.pre (sym dev_is i) (sym post_is i) (p.round_trips.no_max i)))))

pub returns-clause-found : goal.returns-clause-found
returns-clause-found c r rest p e =
    let stage = c.in_ok-stage.ensures.found (stage_rank (key r).stage).0 (stage_rank (key r).stage).1 _ (stage_small (key r).stage) (stage_fits r.min r.pre r.dev r.post r.max p.valid.pre) (suffix_in_turn c.args.bytes.now r rest e) in
    let post = c.in_ok-post_rank.ensures.found (post_rank (key r).post).0 (post_rank (key r).post).1 _ (post_small (key r).post) (post_fits r.max r.post p.valid.max p.valid.post) stage.2 in
    let dev = c.in_ok-dev_rank.ensures.found (dev_rank (key r).dev).0 (dev_rank (key r).dev).1 _ (dev_small (key r).dev) (dev_fits r.min r.dev p.valid.min p.valid.dev) post.2 in
    let post_is = c.in_ok-post.ensures.found r.post ((λ i. (post.0 i, post.1 i)) ∙ (λ i. post_rank (post_of (p.round_trips.no_max i) r.post))) in
    let dev_is = c.in_ok-dev.ensures.found r.dev ((λ i. (dev.0 i, dev.1 i)) ∙ (λ i. dev_rank (dev_of (p.round_trips.no_min i) r.dev))) in
    (c.in_ok-pre.ensures.found r.pre ((λ i. (stage.0 i, stage.1 i)) ∙ (λ i. stage_rank (stage_of (p.round_trips.no_min i) r.pre (sym dev_is i) (sym post_is i) (p.round_trips.no_max i)))), post_is, dev_is, dev.2)

pub returns-clause-exact : goal.returns-clause-exact
returns-clause-exact c =
    let stage = rank_bytes (stage_rank (stage_of None c.in_ok-pre.pre c.in_ok-dev.dev c.in_ok-post.post None)) in
    let post = rank_bytes (post_rank (post_of None c.in_ok-post.post)) in
    let dev = rank_bytes (dev_rank (dev_of None c.in_ok-dev.dev)) in
    three_again c.args.bytes.now stage c.in_ok-stage.rest.now post c.in_ok-post_rank.rest.now dev c.in_ok-dev_rank.rest.now
    (c.in_ok-stage.ensures.exact ∙ ap (λ q. rank_bytes q ++ c.in_ok-stage.rest.now) c.in_ok-pre.ensures.exact)
    (c.in_ok-post_rank.ensures.exact ∙ ap (λ q. rank_bytes q ++ c.in_ok-post_rank.rest.now) c.in_ok-post.ensures.exact)
    (c.in_ok-dev_rank.ensures.exact ∙ ap (λ q. rank_bytes q ++ c.in_ok-dev_rank.rest.now) c.in_ok-dev.ensures.exact)
