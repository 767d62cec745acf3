use Rattle.std.proofs.Common.{◌≡◌, ◌++◌, ◌∙◌, Bor, IfOk, List, None, Some, ap, map, subst, sym}
use Rattle.std.proofs.lemmas.List.{append-nil}
use Rattle.std.specs.List.{filter}
use Rattle.pyver_documents.proofs.LockedPackages.{none_taken}
use Rattle.pyver_documents.proofs.Walks.{named}
use Rattle.pyver_documents.specs.Comparing.{lack_without_marker, may_take}
use Rattle.pyver_documents.specs.DocumentViews.{index_parts, locked_reading_of}
use Rattle.pyver_documents.specs.declared.locked_reading.LockedReading.{LockedReading as LockedReadingValue}
use Rattle.pyver_findings.specs.FileLines.{Finding}
use Rattle.pyver_findings.specs.Views.{demand_of, finding_of}
use Rattle.pyver_documents.proofs.lock_comparison.push_lack_of_name.Goals as goal

pub returns-in-Some : goal.returns-in-Some
returns-in-Some c =
    let view = λ (y : Bor LockedReadingValue). locked_reading_of y.now in
    let asked = demand_of c.args.demand.now in
    let parts = index_parts c.args.packages.now in
    let group = named view _ _ _ _ (Some c.in-Some.group) c.of_name.ensures c.as_slice.ensures.value c.in-Some.is in
    subst (λ (found : List Finding). IfOk c.push_lack_of_group.result (λ _. map finding_of c.push_lack_of_group.new.findings.items ≡ map finding_of c.args.findings.now.items ++ found))
    (ap (λ g. lack_without_marker parts asked (filter (may_take asked.specifiers) (map view g))) c.as_slice-in-Some.ensures.value ∙ ap (λ g. lack_without_marker parts asked (filter (may_take asked.specifiers) g)) group) c.push_lack_of_group.ensures

pub returns-in-None : goal.returns-in-None
returns-in-None c =
    let view = λ (y : Bor LockedReadingValue). locked_reading_of y.now in
    let asked = demand_of c.args.demand.now in
    let parts = index_parts c.args.packages.now in
    let found = map finding_of c.args.findings.now.items in
    sym (append-nil found) ∙ ap (λ more. found ++ more) (sym (none_taken parts asked) ∙ ap (λ g. lack_without_marker parts asked (filter (may_take asked.specifiers) g)) (named view _ _ _ _ None c.of_name.ensures c.as_slice.ensures.value c.in-None.is))
