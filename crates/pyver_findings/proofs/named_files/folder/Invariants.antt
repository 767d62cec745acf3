use Rattle.std.proofs.Common.{◌≡◌, length}
use Rattle.pyver_findings.specs.NamedFiles.{folder}
use Rattle.pyver_findings.proofs.named_files.folder.Given as goal

abbrev pub invariant-loop-front : goal.invariant-loop-front
invariant-loop-front l = folder l.name ≡ folder l.front

abbrev pub decreases-loop-front : goal.decreases-loop-front
decreases-loop-front l = length l.front
