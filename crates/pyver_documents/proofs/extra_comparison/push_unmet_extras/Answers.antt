use Rattle.std.proofs.Common.{◌≡◌, ◌++◌, ◌∙◌, Bool, IfOk, List, [], ap, map, subst, ℕ}
use Rattle.std.specs.List.{flat_map}
use Rattle.pyver_documents.specs.Comparing.{project_asks, unmet_extra}
use Rattle.pyver_documents.specs.DocumentViews.{excuses, extra_reading_of, index_parts, packages_of, string_reading_of}
use Rattle.pyver_findings.specs.Views.{finding_of}
use Rattle.pyver_projects.specs.ProjectStrings.{Inclusion, includes, has_key, inclusion_of, inclusions_of}
use Rattle.pyver_documents.proofs.extra_comparison.push_unmet_extras.Goals as goal

pub returns : goal.returns
returns c =
    let lock = c.args.lock.now in
    let parts = index_parts lock.packages in
    let excused = excuses lock.projects.now in
    let os = map extra_reading_of c.args.extras.now in
    let asks = project_asks lock.kind parts excused lock.near (map string_reading_of c.args.strings.now) os in
    let known : inclusions_of c.in_ok-index.index ≡ asks = c.in_ok-index.ensures.inclusions ∙ ap (map inclusion_of) c.as_slice.ensures.value ∙ c.in_ok-asks.ensures in
    let has : has_key c.in_ok-keys.keys ≡ includes asks [] = λ j q. (c.in_ok-keys.ensures q ∙ ap (λ (is : List Inclusion). includes is [] q) known) j in
    subst (λ (p : List ℕ → Bool). IfOk c.push_all_unmet_extras.result (λ x. map finding_of c.push_all_unmet_extras.new.findings.items ≡ map finding_of c.args.findings.now.items ++ flat_map (unmet_extra lock.kind parts excused lock.near p (packages_of lock.packages)) os))
    has c.push_all_unmet_extras.ensures
