use Rattle.std.proofs.Common.{◌==◌, ◌∙◌, [], Bor, None, Some, ap, length, refl}
use Rattle.pyver_documents.proofs.Walks.{has_some, named}
use Rattle.pyver_documents.specs.DocumentViews.{packages_of, locked_reading_of}
use Rattle.pyver_documents.specs.declared.locked_reading.LockedReading.{LockedReading as LockedReadingValue}
use Rattle.pyver_findings.specs.Views.{demand_of}
use Rattle.pyver_documents.proofs.lock_comparison.has_package.Goals as goal

pub returns-in-Some : goal.returns-in-Some
returns-in-Some c =
    let view = λ (y : Bor LockedReadingValue). locked_reading_of y.now in
    has_some view (demand_of c.args.demand.now) (packages_of c.args.packages.now) c.in-Some.group.now.items (named view _ _ _ _ (Some c.in-Some.group) c.of_name.ensures c.as_slice.ensures.value c.in-Some.is) _ (c.is_empty.ensures ∙ ap (λ g. length g == 0) c.as_slice-in-Some.ensures.value)

pub returns-in-None : goal.returns-in-None
returns-in-None c =
    let view = λ (y : Bor LockedReadingValue). locked_reading_of y.now in
    has_some view (demand_of c.args.demand.now) (packages_of c.args.packages.now) [] (named view _ _ _ _ None c.of_name.ensures c.as_slice.ensures.value c.in-None.is) _ refl
