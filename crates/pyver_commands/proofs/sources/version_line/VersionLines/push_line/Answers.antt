use Rattle.std.proofs.Common.{◌∙◌, refl, sym}
use Rattle.pyver_commands.proofs.SourceReads.{keeps_blank, keeps_line, one_fault}
use Rattle.pyver_commands.specs.AnswerViews.{reading_of}
use Rattle.pyver_commands.specs.Sources.ReadLines.{Entry, Header}
use Rattle.pyver_commands.specs.Sources.SourceViews.{origin_of}
use Rattle.pyver_commands.proofs.sources.version_line.VersionLines.push_line.Goals as goal

pub returns-then-is_blank-clause-lines : goal.returns-then-is_blank-clause-lines
returns-then-is_blank-clause-lines c =
    keeps_blank c.args.options (origin_of c.args.origin) _ c.args.line.now c.line_text-text.result.now c.args.self.now _ c.line_text-text.ensures (sym c.is_blank.ensures ∙ c.if-is_blank.true)
    (record { header = refl; versions = refl; invalid = refl; fault_count = refl; errors = refl })

pub returns-then-is_header-clause-lines : goal.returns-then-is_header-clause-lines
returns-then-is_header-clause-lines c =
    keeps_line c.args.options (origin_of c.args.origin) _ c.args.line.now c.line_text-text.result.now Header c.args.self.now _ c.push_header.new.self c.line_text-text.ensures (sym c.is_blank.ensures ∙ c.if-is_blank.false)
    (sym c.is_header.ensures ∙ c.if-is_header.true) (record { header = refl; versions = refl; invalid = refl; fault_count = refl; errors = refl }) c.in_ok-push_header.ensures

pub returns-then-is_header-clause-count : goal.returns-then-is_header-clause-count
returns-then-is_header-clause-count c = c.in_ok-push_header.ensures.line_count

pub returns-then-is_header-clause-faults : goal.returns-then-is_header-clause-faults
returns-then-is_header-clause-faults c = one_fault c.args.options _ Header _ c.push_header.new.self c.in_ok-push_header.ensures

pub returns-clause-lines : goal.returns-clause-lines
returns-clause-lines c =
    keeps_line c.args.options (origin_of c.args.origin) _ c.args.line.now c.line_text-text.result.now (Entry (reading_of c.in_ok-reading.reading)) c.args.self.now _ c.push_reading.new.self c.line_text-text.ensures
    (sym c.is_blank.ensures ∙ c.if-is_blank.false) (sym c.is_header.ensures ∙ c.if-is_header.false, c.in_ok-reading.ensures)
    (record { header = refl; versions = refl; invalid = refl; fault_count = refl; errors = refl }) c.in_ok-push_reading.ensures

pub returns-clause-count : goal.returns-clause-count
returns-clause-count c = c.in_ok-push_reading.ensures.line_count

pub returns-clause-faults : goal.returns-clause-faults
returns-clause-faults c = one_fault c.args.options _ (Entry (reading_of c.in_ok-reading.reading)) _ c.push_reading.new.self c.in_ok-push_reading.ensures
