use Rattle.std.proofs.Common.{◌++◌, ◌∙◌, map, sym}
use Rattle.std.proofs.lemmas.List.{take-append-drop}
use Rattle.std.proofs.lemmas.Result.{IfOk-weaker}
use Rattle.pyver_markers.proofs.Versions.{both_hold, is_denoted, one_holds}
use Rattle.pyver_markers.specs.Conditions.{HoldsVersionsOf, Narrows}
use Rattle.pyver_markers.specs.Extents.{condition_of}
use Rattle.pyver_markers.proofs.version_condition.+variable_set.Goals as goal

pub returns-then-conditions-gt1 : goal.returns-then-conditions-gt1
returns-then-conditions-gt1 t c =
    let name = c.args.name.now in
    let all = c.args.conditions.now in
    let split = sym (take-append-drop _ all) ∙ (λ j. sym c.split_at.ensures.front j ++ sym c.split_at.ensures.back j) in
    IfOk-weaker c.intersection-then-conditions-gt1.result _ (HoldsVersionsOf name (map condition_of all))
    (λ both joined. both_hold condition_of name all c.split_at.result.0.now c.split_at.result.1.now c.in_ok-set.set c.in_ok-variable_set.field-0 both split c.in_ok-set.ensures c.in_ok-variable_set.ensures joined)
    c.intersection-then-conditions-gt1.ensures

pub returns-in-Some : goal.returns-in-Some
returns-in-Some t c =
    let name = c.args.name.now in
    let all = c.args.conditions.now in
    let condition = c.in-Some.condition.now in
    let set = c.in_ok-set-2.set in
    IfOk-weaker c.narrow.result (Narrows name (condition_of condition) set) (HoldsVersionsOf name (map condition_of all))
    (λ narrowed narrows_it. one_holds condition_of name all c.in-Some.field-0-1.now condition set narrowed c.in-Some.ensures.cases.0 (λ v d. c.in_ok-set-2.ensures v d) narrows_it)
    c.narrow.ensures

pub returns-in-None : goal.returns-in-None
returns-in-None t c e x v has reads is = c.in_ok-set-2.ensures v (is_denoted x v reads)
