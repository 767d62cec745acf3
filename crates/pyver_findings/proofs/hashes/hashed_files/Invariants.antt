use Rattle.std.proofs.Common.{◌≡◌, ◌&&◌, List, bytes_eq, is_some, map, take, ℕ}
use Rattle.std.specs.HashMap.{get_by}
use Rattle.std.specs.List.{list_any}
use Rattle.pyver_findings.specs.FileLines.{FileLine}
use Rattle.pyver_findings.specs.Hashes.{is_hashing}
use Rattle.pyver_findings.specs.Views.{file_line_of}
use Rattle.pyver_findings.proofs.hashes.hashed_files.Given as goal

abbrev pub invariant-loop-line : goal.invariant-loop-line
invariant-loop-line l =
    (q : List ℕ) → is_some (get_by (λ k. bytes_eq q k.now) l.names)
    ≡ list_any (λ (x : FileLine). bytes_eq q x.file && is_hashing (map file_line_of l.lines) x) (map file_line_of (take l.line-index l.lines))
