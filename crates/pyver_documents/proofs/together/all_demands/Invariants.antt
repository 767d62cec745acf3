use Rattle.std.proofs.Common.{◌≡◌, ◌++◌, drop, map}
use Rattle.pyver_documents.specs.DocumentViews.{string_reading_of}
use Rattle.pyver_documents.specs.Together.{all_demands}
use Rattle.pyver_findings.specs.Views.{demand_of}
use Rattle.pyver_documents.proofs.together.all_demands.Given as goal

abbrev pub invariant-loop-string : goal.invariant-loop-string
invariant-loop-string l = map demand_of l.demands.items ++ all_demands (map string_reading_of (drop l.string-index l.strings)) ≡ all_demands (map string_reading_of l.strings)
