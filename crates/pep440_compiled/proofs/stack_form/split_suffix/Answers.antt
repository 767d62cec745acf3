use Rattle.std.proofs.Common.{[], refl, sym}
use Rattle.pep440_compiled.proofs.PrintedParts.{after_post, dev_no_post, local_ends, local_no_dev, only_local, post_ends}
use Rattle.pep440_compiled.proofs.stack_form.split_suffix.Goals as goal
use Rattle.pep440_version.proofs.Reading.NormalParts.{dev_part, post_part}
use Rattle.pep440_version.specs.Print.{local_text}

pub returns-then-begins_local-clause-suffix : goal.returns-then-begins_local-clause-suffix
returns-then-begins_local-clause-suffix c = let text = c.args.text.now in (text, text, ([], refl, refl), ([], refl, refl), ([], refl, refl))

pub returns-clause-suffix : goal.returns-clause-suffix
returns-clause-suffix c =
    (c.in_ok-pre.after_pre.now, c.in_ok-post.after_post.now, c.in_ok-pre.ensures.pre, post_part _ _ c.in_ok-post.post (c.in_ok-post.ensures.suffix 6 refl), dev_part _ _ c.in_ok-dev.dev (c.in_ok-dev.ensures.suffix 1 refl))

pub returns-then-begins_local-clause-printed : goal.returns-then-begins_local-clause-printed
returns-then-begins_local-clause-printed c = λ pre post dev local fit_pre fit_post fit_dev e.
    let none = only_local pre post dev local e (c.begins_local.ensures c.if-begins_local.true) in
    (sym none.0, sym none.1, sym none.2, none.3)

pub returns-in_err-pre-clause-printed : goal.returns-in_err-pre-clause-printed
returns-in_err-pre-clause-printed c = λ pre post dev local fit_pre fit_post fit_dev e. absurd (c.in_err-pre.ensures.printed pre post dev local fit_pre e)

pub returns-in_err-post-clause-printed : goal.returns-in_err-post-clause-printed
returns-in_err-post-clause-printed c = λ pre post dev local fit_pre fit_post fit_dev e.
    let first = c.in_ok-pre.ensures.printed pre post dev local fit_pre e in
    absurd (c.in_err-post.ensures.printed post (after_post dev local) fit_post (post_ends dev local).0.0 (dev_no_post dev local) first.1)

pub returns-in_err-dev-clause-printed : goal.returns-in_err-dev-clause-printed
returns-in_err-dev-clause-printed c = λ pre post dev local fit_pre fit_post fit_dev e.
    let first = c.in_ok-pre.ensures.printed pre post dev local fit_pre e in
    let second = c.in_ok-post.ensures.printed post (after_post dev local) fit_post (post_ends dev local).0.0 (dev_no_post dev local) first.1 in
    absurd (c.in_err-dev.ensures.printed dev (local_text local) fit_dev (local_ends local).0.0 (local_no_dev local) second.1)

pub returns-clause-printed : goal.returns-clause-printed
returns-clause-printed c = λ pre post dev local fit_pre fit_post fit_dev e.
    let first = c.in_ok-pre.ensures.printed pre post dev local fit_pre e in
    let second = c.in_ok-post.ensures.printed post (after_post dev local) fit_post (post_ends dev local).0.0 (dev_no_post dev local) first.1 in
    let third = c.in_ok-dev.ensures.printed dev (local_text local) fit_dev (local_ends local).0.0 (local_no_dev local) second.1 in
    (first.0, second.0, third.0, third.1)
