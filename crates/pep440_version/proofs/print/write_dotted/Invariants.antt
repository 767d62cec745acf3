use Rattle.std.proofs.Common.{take, ◌++◌, ◌∷◌, []}
use Rattle.std.specs.List.{flat_map}
use Rattle.std.specs.Fmt.{HasWrittenStyled, IsFlush, decimal}
use Rattle.pep440_version.proofs.print.write_dotted.Given as goal

abbrev pub invariant-loop-n : goal.invariant-loop-n
invariant-loop-n g l = IsFlush l.initial.f → HasWrittenStyled g.W.Write.write_str_gives l.initial.f (flat_map (λ n. 46 ∷ [] ++ decimal n) (take l.n-index l.numbers)) l.f
