use Rattle.std.proofs.Common.{◌∙◌, [], Bor, ap, map}
use Rattle.std.specs.Option.{option_map_or}
use Rattle.pyver_documents.specs.DocumentViews.{locked_reading_of}
use Rattle.pyver_documents.specs.declared.locked_reading.LockedReading.{LockedReading as LockedReadingValue}
use Rattle.pyver_projects.proofs.Walks.{copied}
use Rattle.pyver_documents.proofs.lock_comparison.PackageIndex.of_name.Goals as goal

pub returns : goal.returns
returns c =
    let view = λ (y : Bor LockedReadingValue). locked_reading_of y.now in
    ap (map view) (copied c.get.result ∙ ap (λ g. option_map_or (λ v. v.items) g []) c.get.ensures.value) ∙ c.requires c.args.name.now
