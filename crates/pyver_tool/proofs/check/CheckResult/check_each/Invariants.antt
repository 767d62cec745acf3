use Rattle.std.proofs.Common.{◌≡◌, ◌∷◌, [], length, map, string_bytes}
use Rattle.pyver_tool.proofs.RunEnds.{Continues}
use Rattle.pyver_tool.specs.TaskViews.{check_result_of}
use Rattle.pyver_tool.proofs.check.CheckResult.check_each.Given as goal

abbrev pub invariant-loop-rest : goal.invariant-loop-rest
invariant-loop-rest g l =
    Continues l.options (g.F.Files.known l.initial.files) (g.F.Files.path l.initial.files) g.R.Read.remaining (map (λ word. word ∷ []) (map string_bytes l.words)) (map (λ word. word ∷ []) (map string_bytes l.rest))
    (check_result_of l.initial.self) (check_result_of l.self) l.initial.input l.input
    × (g.F.Files.known l.files ≡ g.F.Files.known l.initial.files) × (g.F.Files.path l.files ≡ g.F.Files.path l.initial.files)

abbrev pub decreases-loop-rest : goal.decreases-loop-rest
decreases-loop-rest g l = length l.rest
