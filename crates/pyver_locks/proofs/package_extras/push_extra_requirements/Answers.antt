use Rattle.std.proofs.Common.{◌≡◌, ◌++◌, ◌∙◌, Bool, List, [], ap, map, subst, ℕ}
use Rattle.std.specs.List.{flat_map}
use Rattle.pyver_locks.specs.LockContents.{locked_extra_of, requirement_of}
use Rattle.pyver_locks.specs.Locks.{asked_requirement, is_asked, lock_asks, other_extra}
use Rattle.pyver_projects.specs.ProjectStrings.{Inclusion, includes, has_key, inclusion_of, inclusions_of}
use Rattle.pyver_locks.proofs.package_extras.push_extra_requirements.Goals as goal

pub returns : goal.returns
returns c =
    let qs = map requirement_of c.args.requirements.now.items in
    let os = map locked_extra_of c.args.extras.items in
    let asked : inclusions_of c.in_ok-index.index ≡ lock_asks qs os =
    c.in_ok-index.ensures.inclusions ∙ ap (map inclusion_of) c.as_slice-3.ensures.value ∙ c.in_ok-asks.ensures ∙ (λ j. lock_asks (map requirement_of (c.as_slice.ensures.value j)) (map locked_extra_of (c.as_slice-2.ensures.value j))) in
    let has : has_key c.in_ok-keys.keys ≡ is_asked qs os = λ j q. (c.in_ok-keys.ensures q ∙ ap (λ (is : List Inclusion). includes is [] q) asked) j in
    record {
      asked = subst (λ (p : List ℕ → Bool). map requirement_of c.push_each_requirement.new.requirements.items ≡ qs ++ flat_map (asked_requirement p) os) has c.in_ok-push_each_requirement.ensures.asked;
      others = c.in_ok-push_each_requirement.ensures.others ∙ (λ j. map locked_extra_of (c.new-optional.ensures.items j) ++ flat_map (other_extra (has j)) os);
    }
