use Rattle.std.proofs.Common.{◌&&◌, ◌∙◌, ◌||◌, List, ap, bytes_eq, map, not, take_all, ℕ}
use Rattle.std.specs.List.{list_any}
use Rattle.pyver_findings.proofs.LackedHashes.{named_more}
use Rattle.pyver_findings.specs.FileLines.{FileLine}
use Rattle.pyver_findings.specs.Hashes.{is_known_name, is_hashing, wants_hashes}
use Rattle.pyver_findings.specs.Views.{file_line_of}
use Rattle.pyver_findings.proofs.hashes.hashed_files.Goals as goal

pub loop-line-preserved : goal.loop-line-preserved
loop-line-preserved c =
    let all = map file_line_of c.args.lines.now in
    let line = c.line-item.result in
    let names = ap (λ ns. map (λ n. n.items) ns) c.as_slice.ensures.value ∙ c.in_ok-constraints.ensures in
    let holds = c.is_hashing-holds.ensures ∙ ap (λ (ns : List (List ℕ)). wants_hashes (file_line_of line) && not (list_any (bytes_eq (file_line_of line).file) ns)) names in
    λ q. named_more file_line_of (λ (x : FileLine). bytes_eq q x.file && is_hashing all x) c.args.lines.now c.loop-line.line-index line _ _ c.loop-line-test.true c.line-item.is
    (c.in_ok-insert_if.ensures q ∙ (λ j. is_known_name c.loop-line.names q || (bytes_eq q (c.as_slice-in-loop-line.ensures.value j) && holds j)))
    (c.loop-line.invariant q)

pub returns : goal.returns
returns c =
    let all = map file_line_of c.args.lines.now in
    λ q. c.loop-line.invariant q
    ∙ ap (λ xs. list_any (λ (x : FileLine). bytes_eq q x.file && is_hashing all x) (map file_line_of xs)) (take_all c.loop-line.line-index c.args.lines.now c.loop-line-test.false)
