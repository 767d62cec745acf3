use Rattle.pyver_documents.proofs.Walks.{read_all, read_more}
use Rattle.pyver_documents.specs.DocumentViews.{groups_of, string_reading_of}
use Rattle.pyver_documents.specs.Meanings.{IsStringReading}
use Rattle.pyver_projects.specs.ProjectStrings.{project_string_of}
use Rattle.pyver_documents.proofs.document_reading.read_strings.Goals as goal

pub loop-string-preserved : goal.loop-string-preserved
loop-string-preserved c =
    read_more project_string_of string_reading_of (IsStringReading (groups_of c.args.groups.now) (record { name = c.args.name.now; text = c.args.places.now.quoted.text.now })) c.args.strings.now c.loop-string.string-index c.string-item.result c.loop-string.readings.items c.push.new.self.items c.in_ok-read_string.field-0
    c.loop-string-test.true c.string-item.is c.in_ok-push.ensures.items c.in_ok-read_string.ensures c.loop-string.invariant

pub returns : goal.returns
returns c = read_all project_string_of string_reading_of (IsStringReading (groups_of c.args.groups.now) (record { name = c.args.name.now; text = c.args.places.now.quoted.text.now })) c.args.strings.now c.loop-string.string-index c.loop-string.readings.items c.loop-string-test.false c.loop-string.invariant
