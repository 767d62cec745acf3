use Rattle.std.proofs.Common.{◌∙◌, refl, sym}
use Rattle.pyver_commands.proofs.Filtering.{steps_blank, steps_line}
use Rattle.pyver_commands.specs.AnswerViews.{reading_of}
use Rattle.pyver_commands.specs.Sources.ReadLines.{Entry, Header}
use Rattle.pyver_commands.specs.Sources.SourceViews.{origin_of}
use Rattle.pyver_commands.proofs.filter.FilterState.push_line.Goals as goal

pub returns-then-is_blank : goal.returns-then-is_blank
returns-then-is_blank c =
    steps_blank c.args.rule.now (origin_of c.args.origin) c.args.line.now c.args.self.now _ c.line_text-text.result.now c.line_text-text.ensures (sym c.is_blank.ensures ∙ c.if-is_blank.true) refl refl refl refl refl refl

pub returns-then-is_header : goal.returns-then-is_header
returns-then-is_header c =
    steps_line c.args.rule.now (origin_of c.args.origin) c.args.line.now c.args.self.now _ c.push_header.new.self c.line_text-text.result.now Header c.line_text-text.ensures (sym c.is_blank.ensures ∙ c.if-is_blank.false)
    (sym c.is_header.ensures ∙ c.if-is_header.true) refl refl refl refl refl refl c.in_ok-push_header.ensures

pub returns : goal.returns
returns c =
    steps_line c.args.rule.now (origin_of c.args.origin) c.args.line.now c.args.self.now _ c.push_reading.new.self c.line_text-text.result.now (Entry (reading_of c.in_ok-reading.reading)) c.line_text-text.ensures (sym c.is_blank.ensures ∙ c.if-is_blank.false)
    (sym c.is_header.ensures ∙ c.if-is_header.false, c.in_ok-reading.ensures) refl refl refl refl refl refl c.in_ok-push_reading.ensures
