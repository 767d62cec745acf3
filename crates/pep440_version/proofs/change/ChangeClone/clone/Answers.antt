use Rattle.std.proofs.Common.{◌≡◌, ◌∙◌, ap, sym, map}
use Rattle.pep440_version.specs.Changes.{Local, edit}
use Rattle.pep440_version.specs.Segments.{segment}
use Rattle.pep440_version.proofs.Meaning.NumbersFit.{same_segments}
use Rattle.pep440_version.proofs.change.ChangeClone.clone.Goals as goal

pub returns-in_ok-clone-in-Local : goal.returns-in_ok-clone-in-Local
returns-in_ok-clone-in-Local c =
    let segments : map segment c.in_ok-clone-in-Local.field-0.items ≡ map segment c.in-Local.local.items = same_segments c.in-Local.local.items c.in_ok-clone-in-Local.field-0.items c.in_ok-clone-in-Local.ensures.cases.0 in
    record { cases = ap Local segments ∙ ap edit (sym c.in-Local.is) }
