use Rattle.std.proofs.Common.{refl}
use Rattle.std.proofs.Output.{has_written_styled_append, has_written_styled_of_eq}
use Rattle.pep440_version.proofs.print.write_version.Goals as goal

pub returns : goal.returns
returns g c = λ flush ok.
    let epoch = c.in_ok-write_epoch.ensures flush refl in
    let release = c.in_ok-write_release.ensures epoch.flush refl in
    let pre = c.in_ok-write_pre.ensures release.flush refl in
    let post = c.in_ok-write_labelled.ensures pre.flush refl in
    let dev = c.in_ok-write_labelled-2.ensures post.flush refl in
    has_written_styled_of_eq _ _ _ _ _ (rw (c.epoch.ensures, c.release.ensures.value, c.pre.ensures, c.post.ensures, c.dev.ensures, c.local.ensures) refl)
    (has_written_styled_append _ _ _ _ _ _ epoch (has_written_styled_append _ _ _ _ _ _ release (has_written_styled_append _ _ _ _ _ _ pre
    (has_written_styled_append _ _ _ _ _ _ post (has_written_styled_append _ _ _ _ _ _ dev (c.write_local.ensures dev.flush ok))))))
