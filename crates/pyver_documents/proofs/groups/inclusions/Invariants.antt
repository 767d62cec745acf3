use Rattle.std.proofs.Common.{◌≡◌, ◌++◌, drop, map}
use Rattle.pyver_documents.specs.DocumentViews.{string_reading_of}
use Rattle.pyver_documents.specs.Meanings.{inclusions}
use Rattle.pyver_documents.specs.Together.{sections}
use Rattle.pyver_projects.specs.ProjectStrings.{inclusion_of}
use Rattle.pyver_documents.proofs.groups.inclusions.Given as goal

abbrev pub invariant-loop-string : goal.invariant-loop-string
invariant-loop-string l =
    map inclusion_of l.inclusions.items ++ inclusions (sections (map string_reading_of (drop l.string-index l.strings))) ≡ inclusions (sections (map string_reading_of l.strings))
