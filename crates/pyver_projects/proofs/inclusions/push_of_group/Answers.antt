use Rattle.std.proofs.Common.{◌≡◌, ◌&&◌, ◌||◌, ◌∙◌, Bor, List, ap, bytes_eq, false, map, sym, ℕ}
use Rattle.std.proofs.lemmas.Result.{IfOk-weaker}
use Rattle.std.specs.List.{list_any}
use Rattle.pyver_projects.proofs.Walks.{of_group, or_false}
use Rattle.pyver_projects.specs.ProjectStrings.{Inclusion, has_key, inclusions_of, inclusion_of}
use Rattle.pyver_projects.specs.declared.inclusions.Inclusion.{Inclusion as InclusionValue}
use Rattle.pyver_projects.proofs.inclusions.push_of_group.Goals as goal

pub returns-in-Some-clause-names : goal.returns-in-Some-clause-names
returns-in-Some-clause-names c =
    let view = λ (i : Bor InclusionValue). inclusion_of i.now in
    let group = c.args.group.now in
    let is = inclusions_of c.args.index.now in
    let old = c.args.names.now in
    let same : (q : List ℕ) → list_any (λ (i : Inclusion). bytes_eq q i.included) (map view c.as_slice.result.now) ≡ list_any (λ (i : Inclusion). bytes_eq q i.included && bytes_eq group i.group) is =
    λ q. ap (λ xs. list_any (λ (i : Inclusion). bytes_eq q i.included) (map view xs)) c.as_slice.ensures.value ∙ ap (list_any (λ (i : Inclusion). bytes_eq q i.included)) c.in-Some.ensures ∙ of_group q group is in
    IfOk-weaker c.push_inclusions.result _ _ (λ _ e q. e q ∙ ap (λ b. has_key old q || b) (same q)) c.push_inclusions.ensures.names

pub returns-in-None-clause-names : goal.returns-in-None-clause-names
returns-in-None-clause-names c =
    let group = c.args.group.now in
    let is = inclusions_of c.args.index.now in
    let old = c.args.names.now in
    let none : (q : List ℕ) → false ≡ list_any (λ (i : Inclusion). bytes_eq q i.included && bytes_eq group i.group) is =
    λ q. ap (list_any (λ (i : Inclusion). bytes_eq q i.included)) c.in-None.ensures ∙ of_group q group is in
    λ q. sym (or_false (has_key old q)) ∙ ap (λ b. has_key old q || b) (none q)
