use Rattle.std.proofs.Common.{◌+◌, length}
use Rattle.pep440_compiled.proofs.SetMerging.{Merging}
use Rattle.pep440_compiled.proofs.set_operations.push_overlaps.Given as goal
use Rattle.pep440_compiled.specs.SetForms.{IsBytesOf}
use Rattle.pep440_rs.specs.Bounds.{Segments}

-- what both share is what is written and what is shared by what is left
abbrev pub invariant-loop-left_rest : goal.invariant-loop-left_rest
invariant-loop-left_rest l = (s t : Segments) → IsBytesOf l.left s → IsBytesOf l.right t → Merging s t l.fn.out.items l.out.items l.left_rest l.right_rest

abbrev pub decreases-loop-left_rest : goal.decreases-loop-left_rest
decreases-loop-left_rest l = length l.left_rest + length l.right_rest
