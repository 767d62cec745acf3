use Rattle.std.proofs.Common.{◌∙◌, [], ap}
use Rattle.std.specs.Option.{option_map_or}
use Rattle.pep440_sets.specs.Common.{common_version}
use Rattle.pep440_version.specs.Print.{print}
use Rattle.pep440_calls.proofs.one_list.find_in.Goals as goal

pub returns : goal.returns
returns c =
    (c.in_ok-specifiers.specifiers, c.in_ok-specifiers.ensures, c.in_ok-text.ensures ∙ ap (λ o. option_map_or print o []) (c.in_ok-found.ensures.value ∙ ap common_version c.as_slice.ensures.value))
