use Rattle.std.proofs.Common.{◌∙◌, sym}
use Rattle.pyver_markers.proofs.FoundEnvironments.{text_there}
use Rattle.pyver_markers.specs.Extents.{found_environment}
use Rattle.pyver_markers.specs.Environments.{system}
use Rattle.pyver_markers.proofs.found_environment.has_system.Goals as goal

pub returns : goal.returns
returns c is =
    let e = found_environment c.args.found.now in (
      system c.in-Some.os.now c.in-Some-find_by_name.sys.now c.in-Some-find_by_name-2.platform.now,
      record {
        os = text_there _ e _ _ _ _ c.as_bytes.ensures.value c.in-Some.is c.find_by_name.ensures;
        sys = text_there _ e _ _ _ _ c.as_bytes-2.ensures.value c.in-Some-find_by_name.is c.find_by_name-2.ensures;
        platform = text_there _ e _ _ _ _ c.as_bytes-3.ensures.value c.in-Some-find_by_name-2.is c.find_by_name-3.ensures;
      },
      sym c.is_system.ensures ∙ is,
    )
