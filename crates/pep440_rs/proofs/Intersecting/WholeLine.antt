-- The whole line leaves each range as it is.
use Rattle.std.proofs.Common.{◌≡◌, cond, IsTrue, [], ◌∷◌, Some, refl, sym, ap, ◌∙◌, if◌then◌else◌}
use Rattle.std.proofs.lemmas.List.{append-nil}
use Rattle.std.specs.declared.ops.Bound.{Bound}
use Rattle.std.specs.declared.ops.Bound.TheVariants.{Included, Excluded, Unbounded}
use Rattle.pep440_ranges.specs.BoundOrder.{is_valid, starts_before, ends_before}
use Rattle.pep440_ranges.specs.Intersection.{overlap, overlaps, overlaps_with, is_valid_segment}
use Rattle.pep440_ranges.specs.RangeSegments.{Segment, IsRange, IsRangeAfter}
use Rattle.pep440_rs.specs.Agreement.{ConversionsAreRanges}
use Rattle.pep440_rs.specs.Bounds.{Segments, full}
use Rattle.pep440_rs.specs.Conversions.{converted, IsUnchangedByFull}
use Rattle.pep440_rs.specs.declared.range.list.Conversion.{Conversion}
use Rattle.pep440_rs.specs.declared.range.list.Conversion.TheVariants.{WholeOrder, ReleaseOnly}
use Rattle.pep440_rs.proofs.Intersecting.Associates.{overlaps_assoc}
use Rattle.pep440_rs.proofs.Intersecting.Count.{gives_ranges, gives_release_ranges}
use Rattle.pep440_version.specs.Key.{record_cmp}
use Rattle.pep440_version.specs.Key.KeyLaws.{record_total}
use Rattle.pep440_version.specs.Record.{Record}

starts : (b : Bound Record) → (if starts_before record_cmp Unbounded b then b else Unbounded) ≡ b
starts Unbounded = refl
starts (Included x) = refl
starts (Excluded x) = refl

ends : (b : Bound Record) → (if ends_before record_cmp b Unbounded then b else Unbounded) ≡ b
ends Unbounded = refl
ends (Included x) = refl
ends (Excluded x) = refl

abbrev line : Segment Record
line = (Unbounded, Unbounded)

same : (s : Segment Record) → overlap record_cmp line s ≡ s
same s = λ i. (starts s.0 i, ends s.1 i)

one : (s : Segment Record) (ss : Segments) → IsTrue (is_valid record_cmp s.0 s.1) → overlaps_with record_cmp line ss ≡ ss → overlaps_with record_cmp line (s ∷ ss) ≡ s ∷ ss
one s ss valid rest = (λ i. cond (is_valid_segment record_cmp (same s i)) (same s i ∷ rest i) (rest i)) ∙ ap (λ b. cond b (s ∷ ss) ss) valid

each : (end : Bound Record) (ss : Segments) → IsRangeAfter record_cmp end ss → overlaps_with record_cmp line ss ≡ ss
each end [] h = refl
each end (s ∷ ss) h = one s ss h.1 (each s.1 ss h.2)

pub kept : (range : Segments) → IsRange record_cmp range → IsUnchangedByFull range
kept [] h = refl
kept (s ∷ ss) h = append-nil _ ∙ one s ss h.0 (each s.1 ss h.1)

gives : (c : Conversion) → ConversionsAreRanges (converted c)
gives WholeOrder = gives_ranges
gives ReleaseOnly = gives_release_ranges

-- what a conversion gives
pub converted_kept : (c : Conversion) (op : _) (s : Record) (range : Segments) → converted c op s ≡ Some range → IsUnchangedByFull range
converted_kept c op s range is = kept range (gives c op s range is)

-- what two ranges share
pub shared_kept : (x y both : Segments) → both ≡ overlaps record_cmp x y → IsUnchangedByFull x → IsUnchangedByFull both
shared_kept x y both is h =
    ap (overlaps record_cmp full) is ∙ sym (overlaps_assoc record_total full x y) ∙ ap (λ r. overlaps record_cmp r y) h ∙ sym is
