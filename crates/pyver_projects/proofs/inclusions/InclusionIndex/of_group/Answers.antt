use Rattle.std.proofs.Common.{◌∙◌, [], Bor, ap, map}
use Rattle.std.specs.Option.{option_map_or}
use Rattle.pyver_projects.proofs.Walks.{copied}
use Rattle.pyver_projects.specs.ProjectStrings.{inclusion_of}
use Rattle.pyver_projects.specs.declared.inclusions.Inclusion.{Inclusion as InclusionValue}
use Rattle.pyver_projects.proofs.inclusions.InclusionIndex.of_group.Goals as goal

pub returns : goal.returns
returns c =
    let view = λ (y : Bor InclusionValue). inclusion_of y.now in
    ap (map view) (copied c.get.result ∙ ap (λ g. option_map_or (λ v. v.items) g []) c.get.ensures.value) ∙ c.requires c.args.name.now
