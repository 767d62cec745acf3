use Rattle.pyver_projects.proofs.Walks.{level_end, level_step}
use Rattle.pyver_projects.specs.ProjectStrings.{has_key, inclusions_of}
use Rattle.pyver_projects.proofs.inclusions.next_groups.Goals as goal

pub loop-group-preserved : goal.loop-group-preserved
loop-group-preserved c = record {
  names = λ q. level_step (inclusions_of c.args.index.now) (λ m. m.now) q c.args.groups.now c.loop-group.group-index _ (has_key c.loop-group.names q) (has_key c.push_of_group.new.names q) _ c.loop-group-test.true (c.in_ok-push_of_group.ensures.names q)
      (c.loop-group.invariant.names q);
  found = c.in_ok-push_of_group.ensures.found (has_key c.args.names.now) c.loop-group.invariant.found;
}

pub returns-clause-names : goal.returns-clause-names
returns-clause-names c = λ q. level_end (inclusions_of c.args.index.now) (λ m. m.now) q c.args.groups.now c.loop-group.group-index (has_key c.loop-group.names q) _ c.loop-group-test.false (c.loop-group.invariant.names q)
