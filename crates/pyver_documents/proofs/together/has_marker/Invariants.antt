use Rattle.std.proofs.Common.{◌≡◌, length, map}
use Rattle.std.specs.List.{list_any}
use Rattle.pyver_documents.specs.DocumentViews.{string_reading_of}
use Rattle.pyver_documents.specs.Together.{all_demands, is_marked}
use Rattle.pyver_documents.proofs.together.has_marker.Given as goal

abbrev pub invariant-loop-rest : goal.invariant-loop-rest
invariant-loop-rest l = list_any is_marked (all_demands (map string_reading_of l.rest)) ≡ list_any is_marked (all_demands (map string_reading_of l.fn.strings))

abbrev pub decreases-loop-rest : goal.decreases-loop-rest
decreases-loop-rest l = length l.rest
