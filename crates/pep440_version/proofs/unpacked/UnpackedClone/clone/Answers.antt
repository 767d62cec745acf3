use Rattle.std.proofs.Common.{◌≡◌, map, refl}
use Rattle.pep440_version.specs.Segments.{segment}
use Rattle.pep440_version.proofs.Meaning.NumbersFit.{same_segments}
use Rattle.pep440_version.proofs.unpacked.UnpackedClone.clone.Goals as goal

pub returns : goal.returns
returns c =
    let segments : map segment c.in_ok-clone-2.field-0.items ≡ map segment c.args.self.now.local.items = same_segments c.args.self.now.local.items c.in_ok-clone-2.field-0.items c.in_ok-clone-2.ensures.cases.0 in
    record { cases = rw (c.in_ok-clone.ensures.cases, segments) refl }
