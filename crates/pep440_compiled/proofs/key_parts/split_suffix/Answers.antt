use Rattle.std.proofs.Common.{◌∙◌, ◌==◌, ◌||◌, ◌-◌, ap, arith, length, rules, sym, take, nat_lt}
use Rattle.std.specs.Prelude.{drop}
use Rattle.std.proofs.lemmas.Bool.{le-ltb, lt-ltb}
use Rattle.pep440_compiled.proofs.key_parts.split_suffix.Goals.{else-stage-lt5, then-stage-lt5}
use Rattle.pep440_compiled.proofs.Suffixes.{by_three, dev_small, early_is, final_parts, in_turn, post_is, post_small, stage_small}
use Rattle.pep440_compiled.proofs.key_parts.split_suffix.Goals as goal
use Rattle.pep440_version.specs.Key.{dev_rank, key, stage_rank}

pub returns-in-80-clause-found : goal.returns-in-80-clause-found
returns-in-80-clause-found c r rest p e =
    let bytes = c.args.bytes.now in
    let front = by_three bytes (omega (arith, c.in-80.len_at_least)) (search rules) (search rules) (search rules) in
    final_parts r bytes (take (length bytes - 3) (drop 3 bytes)) rest p front (e ∙ in_turn r rest)

pub returns-in_err-stage-clause-found : goal.returns-in_err-stage-clause-found
returns-in_err-stage-clause-found c r rest p e = absurd (c.in_err-stage.ensures.found _ _ _ (stage_small (key r).stage) (e ∙ in_turn r rest))

pub returns-in_err-post-clause-found : goal.returns-in_err-post-clause-found
returns-in_err-post-clause-found c r rest p e =
    let stage = c.in_ok-stage.ensures.found _ _ _ (stage_small (key r).stage) (e ∙ in_turn r rest) in
    absurd (c.in_err-post.ensures.found _ _ _ (post_small (key r).post) stage.1)

pub returns-in_err-dev-clause-found : goal.returns-in_err-dev-clause-found
returns-in_err-dev-clause-found c r rest p e =
    let stage = c.in_ok-stage.ensures.found _ _ _ (stage_small (key r).stage) (e ∙ in_turn r rest) in
    let post = c.in_ok-post.ensures.found _ _ _ (post_small (key r).post) stage.1 in
    absurd (c.in_err-dev.ensures.found _ _ _ (dev_small (key r).dev) post.1)

pub returns-clause-found : goal.returns-clause-found
returns-clause-found c r rest p e =
    let stage = c.in_ok-stage.ensures.found _ _ _ (stage_small (key r).stage) (e ∙ in_turn r rest) in
    let post = c.in_ok-post.ensures.found _ _ _ (post_small (key r).post) stage.1 in
    let dev = c.in_ok-dev.ensures.found _ _ _ (dev_small (key r).dev) post.1 in
    let flag = early_is r p in (
      elim c.if-stage-lt5.branch [
        | then-stage-lt5 w ↦ w.suffix-is ∙ lt-ltb c.in_ok-stage.stage 5 (omega (arith, w.if-stage-lt5.true)) ∙ sym (ap (λ b. b || ((dev_rank (key r).dev).0 == 0)) (lt-ltb (stage_rank (key r).stage).0 5 (omega (arith, w.if-stage-lt5.true, stage.0)))) ∙ flag
        | else-stage-lt5 w ↦ w.suffix-is ∙ ap (λ n. n == 0) dev.0 ∙ sym (ap (λ b. b || ((dev_rank (key r).dev).0 == 0)) (le-ltb (stage_rank (key r).stage).0 5 (omega (arith, w.if-stage-lt5.false, stage.0)))) ∙ flag
      ],
      ap (λ n. nat_lt 0 n) post.0 ∙ post_is r p,
      dev.1,
    )
