use Rattle.std.proofs.Common.{◌≡◌, length, map}
use Rattle.pyver_documents.specs.DocumentViews.{string_reading_of}
use Rattle.pyver_documents.specs.Together.{project_python}
use Rattle.pyver_documents.proofs.together.project_python.Given as goal

abbrev pub invariant-loop-rest : goal.invariant-loop-rest
invariant-loop-rest l = project_python (map string_reading_of l.rest) ≡ project_python (map string_reading_of l.fn.strings)

abbrev pub decreases-loop-rest : goal.decreases-loop-rest
decreases-loop-rest l = length l.rest
