use Rattle.std.proofs.Common.{◌∙◌, ◌++◌, ◌∷◌, [], ap, map, rules}
use Rattle.pyver_requirements.proofs.Lines.{line, push_end}
use Rattle.pyver_requirements.specs.LineKinds.{logical_line_of}
use Rattle.pyver_requirements.specs.LogicalLines.{filled}
use Rattle.pyver_requirements.proofs.logical_line.LineJoiner.push.Goals as goal

pub returns-in_ok-complete-clause-lines : goal.returns-in_ok-complete-clause-lines
returns-in_ok-complete-clause-lines c =
    push_end c.args.self.now c.complete.new.self c.args.line.now (search rules)
    (c.in_ok-complete.ensures.lines
    ∙ ap (λ t. map logical_line_of c.args.self.now.lines.items ++ filled (line c.args.self.now.first t ∷ []))
    (c.in_ok-extend_from_slice.ensures.items ∙ ap (λ t. c.args.self.now.text.items ++ t) c.split_continuation-continues.ensures.added))
    c.in_ok-complete.ensures.text c.in_ok-complete.ensures.first c.in_ok-complete.ensures.next
