use Rattle.std.proofs.Common.{◌≡◌, ◌∷◌, ◌++◌, ◌∙◌, [], Some, ap, inl, inr, rules, subst, sym}
use Rattle.pyver_commands.proofs.InputOutput.{found_more, kept_more}
use Rattle.pyver_commands.specs.NewestOutcomes.{NewestLine}
use Rattle.pyver_commands.specs.Sources.VersionLines.{VersionLine}
use Rattle.pyver_commands.proofs.newest_lines.keep_newer.Goals.{else-is_newer-via-then-is_newer+in_ok-matches_literally+else-branch, else-is_newer-via-else-is_newer}
use Rattle.pyver_commands.proofs.newest_lines.keep_newer.Goals as goal

pub returns-in_ok-extend_from_slice : goal.returns-in_ok-extend_from_slice
returns-in_ok-extend_from_slice c =
    let line : VersionLine = record { text = c.args.text.now; version = c.args.version.now } in
    let same : c.in_ok-version.version ≡ c.args.version.now = search rules in
    let text : c.extend_from_slice.new.self.items ≡ c.args.text.now = c.in_ok-extend_from_slice.ensures.items ∙ ap (λ t. t ++ c.args.text.now) c.new-kept.ensures.items in
    λ lines n. subst (λ x. NewestLine c.args.takes c.args.list.now (lines ++ line ∷ []) (Some x)) (sym (λ i. record { text = text i; version = same i }))
    (found_more c.args.takes c.args.list.now lines line c.args.newest.now n (sym c.is_newer.ensures ∙ c.if-is_newer.true) (sym c.in_ok-matches_literally.ensures.value ∙ c.if-branch.true))

pub returns-else-is_newer : goal.returns-else-is_newer
returns-else-is_newer c =
    let line : VersionLine = record { text = c.args.text.now; version = c.args.version.now } in
    elim c.else-is_newer.branch [
      | else-is_newer-via-then-is_newer+in_ok-matches_literally+else-branch w ↦
          λ lines n. kept_more c.args.takes c.args.list.now lines line c.args.newest.now n (inr (sym w.in_ok-matches_literally.ensures.value ∙ w.if-branch.false))
      | else-is_newer-via-else-is_newer w ↦
          λ lines n. kept_more c.args.takes c.args.list.now lines line c.args.newest.now n (inl (sym c.is_newer.ensures ∙ w.if-is_newer.false))
    ]
