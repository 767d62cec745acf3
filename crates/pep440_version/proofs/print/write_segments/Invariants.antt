use Rattle.std.proofs.Common.{take, ◌++◌, ◌∷◌, []}
use Rattle.std.specs.List.{flat_map}
use Rattle.std.specs.Fmt.{HasWrittenStyled, IsFlush}
use Rattle.pep440_version.specs.Print.{print_segment}
use Rattle.pep440_version.specs.Segments.{segment}
use Rattle.pep440_version.proofs.print.write_segments.Given as goal

abbrev pub invariant-loop-local_segment : goal.invariant-loop-local_segment
invariant-loop-local_segment g l =
    IsFlush l.initial.f → HasWrittenStyled g.W.Write.write_str_gives l.initial.f (flat_map (λ s. 46 ∷ [] ++ print_segment (segment s)) (take l.local_segment-index l.segments)) l.f
