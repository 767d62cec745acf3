use Rattle.std.proofs.Common.{◌≡◌, ℕ, List, drop, map}
use Rattle.pep440_version.specs.Suffixes.{spelled}
use Rattle.pep440_version.proofs.parse.suffix.parse_spelling.Given as goal

abbrev pub invariant-loop-entry : goal.invariant-loop-entry
invariant-loop-entry g l =
    spelled (map {B = List ℕ × g.row.A.Denot} (λ e. (e.0.now, e.1)) l.table) l.text ≡ spelled (map {B = List ℕ × g.row.A.Denot} (λ e. (e.0.now, e.1)) (drop l.entry-index l.table)) l.text
