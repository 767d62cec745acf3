use Rattle.std.proofs.Common.{map, take}
use Rattle.std.specs.List.{AllZip}
use Rattle.pyver_documents.specs.DocumentViews.{groups_of, string_reading_of}
use Rattle.pyver_documents.specs.Meanings.{IsStringReading}
use Rattle.pyver_projects.specs.ProjectStrings.{project_string_of}
use Rattle.pyver_documents.proofs.document_reading.read_strings.Given as goal

abbrev pub invariant-loop-string : goal.invariant-loop-string
invariant-loop-string l = AllZip (IsStringReading (groups_of l.groups) (record { name = l.name; text = l.places.quoted.text.now })) (map project_string_of (take l.string-index l.strings)) (map string_reading_of l.readings.items)
