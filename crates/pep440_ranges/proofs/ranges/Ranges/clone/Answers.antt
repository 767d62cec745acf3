use Rattle.std.proofs.Common.{◌∙◌, sym, subst}
use Rattle.pep440_ranges.specs.Clones.{ClonesBoundValues}
use Rattle.pep440_ranges.proofs.Laws.{clones_each}
use Rattle.pep440_ranges.proofs.ranges.Ranges.clone.Goals as goal

pub clone_segments-requires : goal.clone_segments-requires
clone_segments-requires g c = clones_each g.V.Clone.is_clone _ (subst (ClonesBoundValues g.V.Clone.is_clone) (sym (c.deref.ensures.value ∙ c.self.view_is)) c.requires)
