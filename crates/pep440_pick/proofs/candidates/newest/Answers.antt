use Rattle.std.proofs.Common.{◌≡◌, ◌+◌, ◌++◌, ◌∷◌, ◌∙◌, [], List, Some, ap, arith, refl, subst, sym, take}
use Rattle.std.proofs.lemmas.Bool.{both_ways}
use Rattle.std.proofs.lemmas.List.{length-take-le, take_more}
use Rattle.pep440_version.specs.Key.{record_cmp}
use Rattle.pep440_version.specs.Key.KeyLaws.{record_total}
use Rattle.pep440_version.specs.Record.{Record}
use Rattle.pep440_pick.specs.Newest.{Greatest, is_above, IsContained, all_contain, positioned}
use Rattle.pep440_pick.proofs.Choosing.{found_more, kept_more}
use Rattle.pep440_pick.proofs.Once.{only_candidate}
use Rattle.pep440_pick.proofs.candidates.newest.Goals as goal
use Rattle.pep440_pick.proofs.candidates.newest.Goals.{then-is_above+in_ok-all_contain+then-branch, else-is_above, else-is_above-via-then-is_above+in_ok-all_contain+else-branch, else-is_above-via-else-is_above}

pub loop-position-preserved : goal.loop-position-preserved
loop-position-preserved c =
    let lists = c.args.lists.now in
    let candidates = c.args.candidates.now in
    let i = c.loop-position.position in
    let v : Record = c.index-candidates-position.result in
    let seen = take i candidates in
    let more : take (i + 1) candidates ≡ seen ++ v ∷ [] = take_more candidates i v c.loop-position-test.true ∙ ap (λ (x : Record). seen ++ x ∷ []) (sym c.index-candidates-position.is) in
    let newest = positioned c.loop-position.newest in
    subst (λ (l : List Record). Greatest (IsContained lists) record_cmp l (positioned c.if-is_above.newest)) (sym more)
    (elim c.if-is_above.branch [
      | then-is_above+in_ok-all_contain+then-branch w ↦
          subst (λ n. Greatest (IsContained lists) record_cmp (seen ++ v ∷ []) (positioned n)) (sym w.newest-is)
          (subst (λ k. Greatest (IsContained lists) record_cmp (seen ++ v ∷ []) (Some (k, v))) (length-take-le i candidates (omega (arith, c.loop-position-test.true)))
          (found_more (IsContained lists) (only_candidate lists) record_cmp record_total seen v v newest c.loop-position.invariant (refl, sym w.in_ok-all_contain.ensures.value ∙ w.if-branch.true) (sym c.is_above.ensures ∙ w.if-is_above.true)))
      | else-is_above w ↦
          subst (λ n. Greatest (IsContained lists) record_cmp (seen ++ v ∷ []) (positioned n)) (sym w.newest-is)
          (kept_more (IsContained lists) (only_candidate lists) record_cmp record_total seen v newest c.loop-position.invariant (λ k h.
          elim w.else-is_above.branch [
            | else-is_above-via-then-is_above+in_ok-all_contain+else-branch u ↦
                absurd (both_ways (all_contain lists k) (ap (all_contain lists) (sym h.0) ∙ sym u.in_ok-all_contain.ensures.value ∙ u.if-branch.false) h.1)
            | else-is_above-via-else-is_above u ↦ ap (is_above record_cmp newest) (sym h.0) ∙ sym c.is_above.ensures ∙ u.if-is_above.false
          ]))
    ])
