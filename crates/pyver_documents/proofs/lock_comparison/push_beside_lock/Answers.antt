use Rattle.std.proofs.Common.{◌≡◌, ◌++◌, ◌∙◌, IfOk, List, ap, map, option_map, option_to_list, subst}
use Rattle.std.specs.List.{flat_map}
use Rattle.pyver_documents.specs.Comparing.{compared, unmet_extras}
use Rattle.pyver_documents.specs.DocumentViews.{excuses, extra_reading_of, locked_reading_of, string_reading_of}
use Rattle.pyver_documents.specs.Meanings.{ExtraReading, LockedReading, StringReading}
use Rattle.pyver_findings.specs.Views.{finding_of}
use Rattle.pyver_locks.specs.LockContents.{LockParts}
use Rattle.pyver_documents.proofs.lock_comparison.push_beside_lock.Goals as goal

pub returns : goal.returns
returns c =
    let names = option_to_list (option_map (λ n. n.items) c.args.project.now.name) in
    let excused = excuses c.args.projects.now in
    subst (λ (p : LockParts × List LockedReading × List StringReading × List ExtraReading). IfOk c.push_compared_strings.result (λ x. map finding_of c.push_compared_strings.new.findings.items
    ≡ map finding_of c.args.findings.now.items ++ (flat_map (compared c.args.kind p.0 names excused c.args.near p.1) p.2 ++ unmet_extras c.args.kind p.0 excused c.args.near p.1 p.3 p.2)))
    (λ j. (
      c.in_ok-packages.ensures.parts j,
      (c.in_ok-packages.ensures.packages ∙ ap (map locked_reading_of) c.as_slice-found.ensures.value) j,
      map string_reading_of (c.as_slice-strings.ensures.value j),
      map extra_reading_of (c.as_slice-optional.ensures.value j),
    )) c.push_compared_strings.ensures
