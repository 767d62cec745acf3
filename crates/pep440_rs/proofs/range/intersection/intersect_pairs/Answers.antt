use Rattle.std.proofs.Common.{◌++◌, ◌∷◌, length, sym, ap, ◌∙◌, subst}
use Rattle.std.proofs.lemmas.List.{append_assoc}
use Rattle.std.proofs.lemmas.List.Elements.{All-head, All-push, All-tail}
use Rattle.std.specs.List.{All}
use Rattle.pep440_rs.specs.Conversions.{IsUnchangedByFull}
use Rattle.pep440_rs.proofs.Intersecting.Neighbours.{fewer, last_alone, met, met_pair}
use Rattle.pep440_rs.proofs.Intersecting.WholeLine.{shared_kept}
use Rattle.pep440_rs.proofs.range.intersection.intersect_pairs.Goals as goal

-- two neighbours are taken away, and what they share is added
pub loop-first-preserved-in-Some-split_first : goal.loop-first-preserved-in-Some-split_first
loop-first-preserved-in-Some-split_first c =
    let pairs = c.loop-first.pairs.items in
    let first = c.in-Some.first.now in
    let second = c.in-Some-split_first.second.now in
    let others = c.in-Some-split_first.others.now in
    record {
      same = λ now.
          ap (λ items. met now (items ++ others)) c.in_ok-push-in-Some-split_first.ensures.items
          ∙ met_pair now first second _ pairs others c.in_ok-intersection-in-Some-split_first.ensures.segments
          ∙ ap (λ rest. met now (pairs ++ first ∷ rest)) (sym c.in-Some-split_first.ensures.cases.0)
          ∙ ap (λ rest. met now (pairs ++ rest)) (sym c.in-Some.ensures.cases.0)
          ∙ c.loop-first.invariant.same now;
      kept = λ all.
          let before = c.loop-first.invariant.kept all in
          let prefix = subst (All IsUnchangedByFull) c.in-Some.ensures.cases.0 before.1 in
          let later = All-tail IsUnchangedByFull first c.in-Some.later.now prefix in (
            subst (All IsUnchangedByFull) (sym c.in_ok-push-in-Some-split_first.ensures.items)
                (All-push IsUnchangedByFull pairs _ before.0 (shared_kept first second _ c.in_ok-intersection-in-Some-split_first.ensures.segments (All-head IsUnchangedByFull first c.in-Some.later.now prefix))),
            All-tail IsUnchangedByFull second others (subst (All IsUnchangedByFull) c.in-Some-split_first.ensures.cases.0 later),
          );
      few = fewer pairs c.push.new.self.items c.loop-first.rest.now c.in-Some.later.now others _ first second (length c.args.ranges.now) c.in-Some.ensures.cases.0 c.in-Some-split_first.ensures.cases.0
          c.in_ok-push-in-Some-split_first.ensures.items c.loop-first.invariant.few;
    }

-- the last range stands alone
pub loop-first-preserved : goal.loop-first-preserved
loop-first-preserved c =
    let pairs = c.loop-first.pairs.items in
    let first = c.in-Some.first.now in
    let later = c.in-Some.later.now in
    record {
      same = λ now.
          ap (λ items. met now (items ++ later)) c.in_ok-push-in-None.ensures.items
          ∙ ap (met now) (append_assoc pairs _ later)
          ∙ ap (λ x. met now (pairs ++ x ∷ later)) c.in_ok-clone-in-None.ensures.segments
          ∙ ap (λ rest. met now (pairs ++ rest)) (sym c.in-Some.ensures.cases.0)
          ∙ c.loop-first.invariant.same now;
      kept = λ all.
          let before = c.loop-first.invariant.kept all in
          let prefix = subst (All IsUnchangedByFull) c.in-Some.ensures.cases.0 before.1 in (
            subst (All IsUnchangedByFull) (sym c.in_ok-push-in-None.ensures.items)
                (All-push IsUnchangedByFull pairs _ before.0 (subst IsUnchangedByFull (sym c.in_ok-clone-in-None.ensures.segments) (All-head IsUnchangedByFull first later prefix))),
            All-tail IsUnchangedByFull first later prefix,
          );
      few = last_alone pairs c.push-in-None.new.self.items c.loop-first.rest.now later _ first (length c.args.ranges.now) c.in-Some.ensures.cases.0 c.in-None.ensures.cases
          c.in_ok-push-in-None.ensures.items c.loop-first.invariant.few;
    }
