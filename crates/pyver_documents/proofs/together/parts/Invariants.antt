use Rattle.std.proofs.Common.{◌≡◌, drop, map}
use Rattle.pyver_documents.specs.DocumentViews.{string_reading_of}
use Rattle.pyver_documents.specs.Together.{parts, same_part, section_part, sections, with_new}
use Rattle.pyver_projects.specs.ProjectStrings.{section_of}
use Rattle.pyver_documents.proofs.together.parts.Given as goal

abbrev pub invariant-loop-string : goal.invariant-loop-string
invariant-loop-string l =
    with_new same_part (map section_of l.found.items) (map section_part (sections (map string_reading_of (drop l.string-index l.strings)))) ≡ parts (map string_reading_of l.strings)
