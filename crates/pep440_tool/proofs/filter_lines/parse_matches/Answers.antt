use Rattle.std.proofs.Common.{◌≡◌, ◌∷◌, ◌++◌, ◌∙◌, [], List, ap, sym}
use Rattle.std.proofs.lemmas.List.Elements.{filter-append}
use Rattle.std.specs.List.{filter}
use Rattle.pep440_rs.specs.Matching.{list_matches}
use Rattle.pep440_version.specs.Grammar.{Derives}
use Rattle.pep440_version.specs.Record.{Record}
use Rattle.pep440_version.specs.Rejections.{Rejects}
use Rattle.pep440_tool.specs.Answers.{RejectsFirst}
use Rattle.pep440_tool.specs.Lines.{LineDenotes, RejectsLine, numbered_lines, shown_version_error}
use Rattle.pep440_tool.specs.LinesLeft.{left}
use Rattle.pep440_tool.proofs.Runs.{found_more, found_rejected, stopped}
use Rattle.pep440_tool.proofs.filter_lines.parse_matches.Goals as goal

pub returns-in_err-version : goal.returns-in_err-version
returns-in_err-version c =
    stopped _ (RejectsLine Rejects shown_version_error (c.in-Some.line.number, c.in-Some.line.bytes.now)) (RejectsFirst (LineDenotes Derives) (RejectsLine Rejects shown_version_error) (numbered_lines c.args.input.now))
    (λ a why. found_rejected (LineDenotes Derives) (RejectsLine Rejects shown_version_error) _ _ (left c.in-Some.later) _ (c.in-Some.line.number, c.in-Some.line.bytes.now) a c.in-Some.ensures.next why c.loop-line.invariant)
    c.in_err-version.field-0.0 c.in_err-version.ensures c.from_residual.result c.from_residual.ensures.1

pub loop-line-preserved : goal.loop-line-preserved
loop-line-preserved c =
    found_more (LineDenotes Derives) _ _ (left c.in-Some.later) (λ found. c.loop-line.versions.items ≡ filter (list_matches c.args.list.now) found) (λ found. c.push_match.new.versions.items ≡ filter (list_matches c.args.list.now) found)
    (c.in-Some.line.number, c.in-Some.line.bytes.now) c.in_ok-version.version c.in-Some.ensures.next c.in_ok-version.ensures
    (λ xs is. c.in_ok-push_match.ensures ∙ ap (λ (l : List Record). l ++ filter (list_matches c.args.list.now) (c.in_ok-version.version ∷ [])) is ∙ sym (filter-append (list_matches c.args.list.now) xs (c.in_ok-version.version ∷ []))) c.loop-line.invariant
