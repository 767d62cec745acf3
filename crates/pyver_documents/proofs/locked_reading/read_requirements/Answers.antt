use Rattle.pyver_documents.proofs.Walks.{read_all, read_more}
use Rattle.pyver_documents.specs.Meanings.{IsRequirementReading}
use Rattle.pyver_findings.specs.Views.{line_meaning_of}
use Rattle.pyver_locks.specs.LockContents.{requirement_of}
use Rattle.pyver_documents.proofs.locked_reading.read_requirements.Goals as goal

pub loop-requirement-preserved : goal.loop-requirement-preserved
loop-requirement-preserved c =
    read_more requirement_of line_meaning_of (IsRequirementReading c.args.file.now) c.args.requirements.now c.loop-requirement.requirement-index c.requirement-item.result c.loop-requirement.readings.items c.push.new.self.items
    c.in_ok-read_requirement.field-0 c.loop-requirement-test.true c.requirement-item.is c.in_ok-push.ensures.items c.in_ok-read_requirement.ensures c.loop-requirement.invariant

pub returns : goal.returns
returns c =
    read_all requirement_of line_meaning_of (IsRequirementReading c.args.file.now) c.args.requirements.now c.loop-requirement.requirement-index c.loop-requirement.readings.items c.loop-requirement-test.false c.loop-requirement.invariant
