use Rattle.std.proofs.Common.{◌∙◌, ◌++◌, ◌-◌, ap, arith, drop, map, take}
use Rattle.std.proofs.lemmas.List.{take_rest}
use Rattle.pyver_tool.proofs.RunEnds.{names_all, names_more}
use Rattle.pyver_tool.specs.RequirementFiles.{name_between}
use Rattle.pyver_tool.proofs.lock_search.list_names.Goals as goal

pub loop-end-preserved : goal.loop-end-preserved
loop-end-preserved c =
    let path = c.args.path.now in
    let lock = c.args.lock.now in
    let here = c.loop-end in (
      names_more (λ n. name_between lock (take n path) (drop n path)) (map (λ name. name.items) here.names.items) (map (λ name. name.items) c.push_name.new.names.items) _ here.end c.loop-end-test.true here.invariant.0
          (c.in_ok-push_name.ensures ∙ ap (λ rest. map (λ name. name.items) here.names.items ++ name_between lock (take (here.end - 1) path) rest) (take_rest path (here.end - 1))),
      omega (arith, here.invariant.1),
    )

pub returns : goal.returns
returns c =
    let path = c.args.path.now in
    names_all (λ n. name_between c.args.lock.now (take n path) (drop n path)) (map (λ name. name.items) c.loop-end.names.items) _ c.loop-end.end c.loop-end-test.false c.loop-end.invariant.0
