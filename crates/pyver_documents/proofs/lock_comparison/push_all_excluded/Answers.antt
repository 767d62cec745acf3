use Rattle.std.proofs.Common.{◌≡◌, ◌++◌, ◌∙◌, [], Bor, IfOk, List, None, Some, ap, if◌then◌else◌, map, subst, sym}
use Rattle.std.proofs.lemmas.List.{append-nil}
use Rattle.std.specs.List.{flat_map, list_any}
use Rattle.pyver_documents.proofs.Walks.{excluded_of, named}
use Rattle.pyver_documents.specs.Comparing.{accepts_version, locked_line, outside}
use Rattle.pyver_documents.specs.DocumentViews.{packages_of, locked_reading_of}
use Rattle.pyver_documents.specs.declared.locked_reading.LockedReading.{LockedReading as LockedReadingValue}
use Rattle.pyver_findings.specs.FileLines.{Finding}
use Rattle.pyver_findings.specs.Views.{demand_of, finding_of}
use Rattle.pyver_documents.proofs.lock_comparison.push_all_excluded.Goals as goal

pub returns-in-Some : goal.returns-in-Some
returns-in-Some c =
    let view = λ (y : Bor LockedReadingValue). locked_reading_of y.now in
    let asked = demand_of c.args.demand.now in
    let group : _ = excluded_of view asked (packages_of c.args.packages.now) c.in-Some.group.now.items (named view _ _ _ _ (Some c.in-Some.group) c.of_name.ensures c.as_slice.ensures.value c.in-Some.is) in
    subst (λ (found : List Finding). IfOk c.push_excluded.result (λ _. map finding_of c.push_excluded.new.findings.items ≡ map finding_of c.args.findings.now.items ++ found))
    (ap (λ g. if list_any (λ y. accepts_version asked.specifiers y.version) (map view g) then [] else outside asked.line (flat_map locked_line (map view g))) c.as_slice-in-Some.ensures.value ∙ group) c.push_excluded.ensures

pub returns-in-None : goal.returns-in-None
returns-in-None c =
    let view = λ (y : Bor LockedReadingValue). locked_reading_of y.now in
    let found = map finding_of c.args.findings.now.items in
    sym (append-nil found) ∙ ap (λ more. found ++ more) (excluded_of view (demand_of c.args.demand.now) (packages_of c.args.packages.now) [] (named view _ _ _ _ None c.of_name.ensures c.as_slice.ensures.value c.in-None.is))
