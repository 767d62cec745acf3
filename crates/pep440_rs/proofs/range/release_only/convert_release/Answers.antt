use Rattle.pep440_ranges.specs.Clones.{clones_bound_values}
use Rattle.pep440_rs.proofs.range.release_only.convert_release.Goals as goal

pub complement-requires : goal.complement-requires
complement-requires c = clones_bound_values _ (λ x y same. same) c.in_ok-inside-in-NotEqualStar.inside
