use Rattle.std.proofs.Common.{◌≡◌, ◌++◌, ◌∷◌, [], Bor, Some, map, refl}
use Rattle.std.proofs.lemmas.Result.{IfOk-weaker}
use Rattle.pyver_findings.proofs.MarkedConflicts.{decided_apart, decided_together, decided_unknown}
use Rattle.pyver_findings.specs.Conflicts.{of_all}
use Rattle.pyver_findings.specs.MarkedConflicts.{FindsDecided}
use Rattle.pyver_findings.specs.Views.{AddsFindings, AddsFound, demand_of}
use Rattle.pyver_requirements.specs.declared.cause.Cause.TheVariants as cause
use Rattle.pyver_findings.specs.declared.demand.Demand.{Demand as DemandValue}
use Rattle.pyver_findings.proofs.marked_conflicts.push_by_decision.Goals as goal

pub returns-in-Together : goal.returns-in-Together
returns-in-Together c =
    let lines = map (λ (x : Bor DemandValue). demand_of x.now) c.args.together.now in
    let old = c.args.findings.now.items in
    let new = c.push_of_all.new.findings.items in
    let left = c.args.left_out.now.items in
    let environment = c.in-Together.environment in
    IfOk-weaker c.push_of_all.result (λ _. AddsFindings old new (of_all (Some environment.items) lines)) (λ _. AddsFound (FindsDecided c.args.decision lines) old new left left)
    (λ _ adds. decided_together lines old new left left environment c.args.decision c.in-Together.is adds refl) c.push_of_all.ensures

pub returns-in-Apart : goal.returns-in-Apart
returns-in-Apart c = decided_apart (map (λ (x : Bor DemandValue). demand_of x.now) c.args.together.now) _ _ _ _ c.args.decision c.in-Apart.is refl refl

pub returns-in-Unknown : goal.returns-in-Unknown
returns-in-Unknown c =
    let lines = map (λ (x : Bor DemandValue). demand_of x.now) c.args.together.now in
    let old = c.args.findings.now.items in
    let before = c.args.left_out.now.items in
    let after = c.push_undecided_cause.new.left_out.items in
    IfOk-weaker c.push_undecided_cause.result (λ _. after ≡ before ++ cause.Undecided ∷ []) (λ _. AddsFound (FindsDecided c.args.decision lines) old old before after)
    (λ _ also. decided_unknown lines old old before after c.args.decision c.in-Unknown.is c.requires.none refl also) c.push_undecided_cause.ensures
