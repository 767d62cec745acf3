use Rattle.std.proofs.Common.{◌∷◌, ◌∙◌, ◌-◌, [], drop, length, map, string_bytes, subst, take}
use Rattle.std.proofs.lemmas.Result.{err_from_is_err_and}
use Rattle.pyver_tool.proofs.RunEnds.{continues_more, continues_stop, first_group}
use Rattle.pyver_tool.specs.TaskViews.{check_result_of}
use Rattle.pyver_tool.specs.Checks.{ChecksGroup, FailsInGroup}
use Rattle.pyver_commands.specs.Sources.{source_names}
use Rattle.pyver_tool.proofs.check.CheckResult.check_each.Goals as goal

pub returns-in_err-check_group-clause-stopped : goal.returns-in_err-check_group-clause-stopped
returns-in_err-check_group-clause-stopped g c =
    let p = err_from_is_err_and c.from_residual.result c.from_residual.ensures.1 in
    let known = g.F.Files.known c.args.files.now in
    let paths = g.F.Files.path c.args.files.now in
    let here = c.loop-rest in
    let first = source_names (map string_bytes (take 1 here.rest.now)) in
    let stops = subst (λ k. FailsInGroup c.args.options k (g.F.Files.path here.files) g.R.Read.remaining first here.input c.check_group.new.input c.in_err-check_group.field-0.0) here.invariant.1 c.in_err-check_group.ensures.stopped in
    rw (p.1, p.2) (continues_stop c.args.options known paths g.R.Read.remaining _ _ (map (λ word. word ∷ []) (map string_bytes (take (length here.rest.now - 1) (drop 1 here.rest.now)))) first (check_result_of c.args.self.now) (check_result_of here.self) c.args.input.now here.input
    (first_group string_bytes here.rest.now c.in-len1-up.len_at_least) here.invariant.0 _ c.check_group.new.input
    (subst (λ q. FailsInGroup c.args.options known q g.R.Read.remaining first here.input c.check_group.new.input c.in_err-check_group.field-0.0) here.invariant.2 stops))

pub loop-rest-preserved : goal.loop-rest-preserved
loop-rest-preserved g c =
    let known = g.F.Files.known c.args.files.now in
    let paths = g.F.Files.path c.args.files.now in
    let here = c.loop-rest in
    let new = check_result_of c.check_group.new.self in
    let first = source_names (map string_bytes (take 1 here.rest.now)) in
    let step = subst (λ k. ChecksGroup c.args.options k (g.F.Files.path here.files) g.R.Read.remaining first (check_result_of here.self) new here.input c.check_group.new.input) here.invariant.1 c.in_ok-check_group.ensures.checked in (
      continues_more c.args.options known paths g.R.Read.remaining _ _ (map (λ word. word ∷ []) (map string_bytes (take (length here.rest.now - 1) (drop 1 here.rest.now)))) first (check_result_of c.args.self.now) (check_result_of here.self) c.args.input.now here.input
          (first_group string_bytes here.rest.now c.in-len1-up.len_at_least) here.invariant.0 new c.check_group.new.input
          (subst (λ q. ChecksGroup c.args.options known q g.R.Read.remaining first (check_result_of here.self) new here.input c.check_group.new.input) here.invariant.2 step),
      c.in_ok-check_group.ensures.kept ∙ here.invariant.1,
      c.in_ok-check_group.ensures.kept_paths ∙ here.invariant.2,
    )
