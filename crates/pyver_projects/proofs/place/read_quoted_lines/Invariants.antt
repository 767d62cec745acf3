use Rattle.std.proofs.Common.{◌≡◌, List, ℕ, drop, nat_cmp, take}
use Rattle.std.specs.BTreeMap.{get_by}
use Rattle.std.specs.Cmp.Lexicographic.{slice_cmp}
use Rattle.pyver_projects.specs.ProjectStrings.{line_after, line_from}
use Rattle.pyver_projects.proofs.place.read_quoted_lines.Given as goal

abbrev pub invariant-loop-at : goal.invariant-loop-at
invariant-loop-at l = (l.number ≡ line_after (take l.at l.text)) × ((q : List ℕ) → get_by (λ k. slice_cmp nat_cmp q k.now) l.numbers ≡ line_from q l.number (drop l.at l.text))
