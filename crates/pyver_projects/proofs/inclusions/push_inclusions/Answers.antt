use Rattle.std.proofs.Common.{◌||◌, ◌∙◌, Bor, ap, bytes_eq}
use Rattle.pyver_projects.proofs.Walks.{push_step}
use Rattle.pyver_projects.specs.ProjectStrings.{Inclusion, has_key, inclusion_of}
use Rattle.pyver_projects.specs.declared.inclusions.Inclusion.{Inclusion as InclusionValue}
use Rattle.pyver_projects.proofs.inclusions.push_inclusions.Goals as goal

pub loop-inclusion-preserved : goal.loop-inclusion-preserved
loop-inclusion-preserved c = record {
  names = λ q. push_step (λ (i : Inclusion). bytes_eq q i.included) (λ (i : Bor InclusionValue). inclusion_of i.now) c.args.inclusions.now c.loop-inclusion.inclusion-index c.inclusion-item.result (has_key c.loop-inclusion.names q)
      (has_key c.push_new.new.names q) _ c.loop-inclusion-test.true c.inclusion-item.is (c.in_ok-push_new.ensures.names q ∙ ap (λ n. has_key c.loop-inclusion.names q || bytes_eq q n) c.as_slice.ensures.value) (c.loop-inclusion.invariant.names q);
  found = λ before was. c.in_ok-push_new.ensures.found before (c.loop-inclusion.invariant.found before was);
}
