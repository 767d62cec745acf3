use Rattle.std.proofs.Common.{take}
use Rattle.std.specs.List.{flat_map}
use Rattle.std.specs.Fmt.{HasWrittenStyled, IsFlush}
use Rattle.pep440_version.specs.Print.{print}
use Rattle.pep440_tool.specs.Answers.{line}
use Rattle.pep440_tool.proofs.filter_lines.write_lines.Given as goal

abbrev pub invariant-loop-version : goal.invariant-loop-version
invariant-loop-version g l =
    IsFlush l.initial.f → HasWrittenStyled g.W.Write.write_str_gives l.initial.f (flat_map (λ v. line (print v)) (take l.version-index l.versions)) l.f
