-- The lines of a range, segment by segment.
use Rattle.std.proofs.Common.{◌≡◌, List, [], ◌∷◌, ◌++◌, sym, ap, ◌∙◌, append_assoc, append-nil, subst}
use Rattle.std.proofs.lemmas.List.{flat_map_more}
use Rattle.std.specs.List.{flat_map}
use Rattle.std.proofs.Common.{ℕ}
use Rattle.pep440_ranges.specs.RangeSegments.{Segment}
use Rattle.pep440_rs.specs.Bounds.{Segments}
use Rattle.pep440_rs.specs.RangeLines.{segment_line}
use Rattle.pep440_version.specs.Record.{Record}

-- the segments that were written, of which this holds, and those that are left
pub record Wrote (P : List ℕ → Type 0) (range left : Segments) : Type 0 where
  pub before : Segments
  pub split : before ++ left ≡ range
  pub wrote : P (flat_map segment_line before)

pub wrote_more : (P Q : List ℕ → Type 0) (range left later : Segments) (s : Segment Record) → left ≡ s ∷ later → ((text : List ℕ) → P text → Q (text ++ segment_line s)) → Wrote P range left → Wrote Q range later
wrote_more P Q range left later s decomposition next w = record {
  before = w.before ++ s ∷ [];
  split = append_assoc w.before (s ∷ []) later ∙ ap (λ (ss : Segments). w.before ++ ss) (sym decomposition) ∙ w.split;
  wrote = subst Q (flat_map_more segment_line [] w.before s) (next (flat_map segment_line w.before) w.wrote);
}

pub wrote_all : (P : List ℕ → Type 0) (range : Segments) → Wrote P range [] → P (flat_map segment_line range)
wrote_all P range w = subst (λ (ss : Segments). P (flat_map segment_line ss)) (sym (append-nil w.before) ∙ w.split) w.wrote
