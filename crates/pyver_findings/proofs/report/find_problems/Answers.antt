use Rattle.std.proofs.Common.{◌≡◌, ◌∙◌, List, ap, length, map, subst, sym}
use Rattle.std.proofs.lemmas.List.{length-map}
use Rattle.std.proofs.lemmas.List.Elements.{All-same}
use Rattle.pyver_findings.proofs.Complete.{is_report, readings_sound}
use Rattle.pyver_findings.specs.Demands.{IsSound}
use Rattle.pyver_findings.specs.FileLines.{Finding, all_lines}
use Rattle.pyver_findings.specs.Hashes.{lacks_hashes}
use Rattle.pyver_findings.specs.MarkedConflicts.{FindsOfNames, everywhere}
use Rattle.pyver_findings.specs.Views.{AddsFindings, AddsFound, KeepsReadings, demand_of, file_line_of, file_of, finding_of}
use Rattle.pyver_findings.proofs.report.find_problems.Goals as goal

pub push_constraint_findings-requires : goal.push_constraint_findings-requires
push_constraint_findings-requires c = ap (map file_line_of) c.as_slice-2.ensures.value ∙ c.in_ok-lines.ensures

pub push_conflicts-requires : goal.push_conflicts-requires
push_conflicts-requires c =
    let kept = c.in_ok-readings.readings in
    All-same IsSound (map demand_of c.as_slice-5.result.now) (map demand_of kept.demands.items) (ap (map demand_of) c.as_slice-5.ensures.value) (readings_sound _ kept c.in_ok-readings.ensures)

pub returns : goal.returns
returns c =
    let kept = c.in_ok-readings.readings in
    let files = map file_of c.args.files.now in
    let same = ap (map file_line_of) c.as_slice.ensures.value ∙ c.in_ok-lines.ensures in
    let lines : c.len.result ≡ length (all_lines files) = c.len.ensures ∙ sym c.as_slice.ensures.len ∙ sym (length-map c.as_slice.result.now file_line_of) ∙ ap length same in
    let count : length c.args.files.now ≡ length files = sym (length-map c.args.files.now file_of) in
    is_report files kept c.push_constraint_findings.new.findings.items c.push_hash_findings.new.findings.items c.push_conflicts.new.findings.items c.push_conflicts.new.left_out.items _
    (subst (λ l. KeepsReadings l kept) same c.in_ok-readings.ensures) c.in_ok-push_constraint_findings.ensures
    (subst (λ (f : List Finding). AddsFindings c.push_constraint_findings.new.findings.items c.push_hash_findings.new.findings.items f)
    (λ j. lacks_hashes ((ap (map file_line_of) c.as_slice-3.ensures.value ∙ c.in_ok-lines.ensures) j) (map demand_of (c.as_slice-4.ensures.value j))) c.in_ok-push_hash_findings.ensures)
    (subst (λ l. AddsFound (FindsOfNames everywhere (map demand_of l)) c.push_hash_findings.new.findings.items c.push_conflicts.new.findings.items kept.left_out.items c.push_conflicts.new.left_out.items) c.as_slice-5.ensures.value c.in_ok-push_conflicts.ensures)
    (λ j. record { findings = map finding_of c.push_conflicts.new.findings.items; ignored = map finding_of (c.new.ensures.items j); lines = lines j; files = count j; left_out = c.push_conflicts.new.left_out.items })
