use Rattle.std.proofs.Common.{◌≡◌, ◌++◌, map}
use Rattle.std.specs.List.{flat_map}
use Rattle.std.specs.Vec.Iter.{into_iter_items}
use Rattle.pyver_locks.specs.LockContents.{locked_extra_of, requirement_of}
use Rattle.pyver_locks.specs.Locks.{asked_requirement, other_extra}
use Rattle.pyver_projects.specs.ProjectStrings.{has_key}
use Rattle.pyver_locks.proofs.package_extras.push_each_requirement.Given as goal

abbrev pub invariant-loop-extra : goal.invariant-loop-extra
invariant-loop-extra l = record {
  asked : map requirement_of l.requirements.items ++ flat_map (asked_requirement (has_key l.keys)) (map locked_extra_of (into_iter_items l.extra-iterator))
      ≡ map requirement_of l.initial.requirements.items ++ flat_map (asked_requirement (has_key l.keys)) (map locked_extra_of (into_iter_items l.initial.extra-iterator));
  others : map locked_extra_of l.optional.items ++ flat_map (other_extra (has_key l.keys)) (map locked_extra_of (into_iter_items l.extra-iterator))
      ≡ map locked_extra_of l.initial.optional.items ++ flat_map (other_extra (has_key l.keys)) (map locked_extra_of (into_iter_items l.initial.extra-iterator));
}
