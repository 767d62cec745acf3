use Rattle.std.proofs.Common.{◌≡◌, ◌++◌, ◌∙◌, IfOk, ap, codes, map, subst}
use Rattle.pyver_locks.specs.KnownEnvironments.{cpython_variables, python_text, with_names}
use Rattle.pyver_markers.specs.Environments.{Environment, assigned}
use Rattle.pyver_markers.specs.MarkerValues.{value}
use Rattle.pyver_locks.proofs.known_environment.evaluate_in.Goals as goal

pub returns : goal.returns
returns c = λ m is.
    let system = c.args.environment.system in
    let minor = c.args.environment.minor in
    let extras = ap (map (λ n. n.now)) c.as_slice-4.ensures.value ∙ c.in_ok-extras.ensures ∙ ap (map (λ n. n.items)) c.as_slice-2.ensures.value in
    let groups = ap (map (λ n. n.now)) c.as_slice-5.ensures.value ∙ c.in_ok-groups.ensures ∙ ap (map (λ n. n.items)) c.as_slice-3.ensures.value in
    let short : c.as_slice-6.result.now ≡ python_text minor = c.as_slice-6.ensures.value ∙ c.in_ok-short.ensures in
    let before : c.in_ok-full.full.items ≡ python_text minor = c.in_ok-full.ensures.items ∙ c.as_slice.ensures.value ∙ c.in_ok-short.ensures in
    let full : c.as_slice-7.result.now ≡ python_text minor ++ codes ".0" = c.as_slice-7.ensures.value ∙ c.in_ok-extend_from_slice.ensures.items ∙ ap (λ t. t ++ codes ".0") before in
    subst (λ (e : Environment). IfOk c.evaluate_with.result (λ v. v ≡ value e m)) (λ i. with_names (extras i) (groups i) (assigned (cpython_variables system (short i) (full i)))) (c.evaluate_with.ensures m is)
