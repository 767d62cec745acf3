use Rattle.std.proofs.Common.{◌++◌, ◌≡◌, ◌∙◌, [], IfOk, List, ap, map, subst, sym}
use Rattle.std.proofs.lemmas.List.{append-nil}
use Rattle.pyver_findings.proofs.LackedHashes.{lacks_of, none_lacks, same_lacking, waived}
use Rattle.pyver_requirements.proofs.Grouped.{any_viewed}
use Rattle.pyver_findings.specs.FileLines.{Finding}
use Rattle.pyver_findings.specs.Hashes.{is_known_name, has_pin, is_hashed, may_be_hashed, waives_hashes, wants_hashes}
use Rattle.pyver_findings.specs.Views.{AddsFindings, demand_of, file_line_of, finding_of}
use Rattle.pyver_findings.proofs.hashes.push_hash_findings.Goals as goal
use Rattle.pyver_findings.proofs.hashes.push_hash_findings.Goals.{then-not-want_hashes-via-then-not-want_hashes, then-not-want_hashes-via-else-not-want_hashes+then-waive_hashes}

pub returns-then-not-want_hashes : goal.returns-then-not-want_hashes
returns-then-not-want_hashes c =
    let lines = map file_line_of c.args.lines.now in
    let demands = map demand_of c.args.demands.now in
    let findings = map finding_of c.args.findings.now.items in
    let nothing = λ (fs : List Finding). λ (none : fs ≡ []). sym (append-nil findings) ∙ ap (λ gs. findings ++ gs) (sym none) in
    elim c.then-not-want_hashes.branch [
      | then-not-want_hashes-via-then-not-want_hashes w ↦ nothing _ (none_lacks lines demands (any_viewed wants_hashes file_line_of c.args.lines.now ∙ sym c.want_hashes.ensures ∙ w.if-not-want_hashes.true))
      | then-not-want_hashes-via-else-not-want_hashes+then-waive_hashes w ↦ nothing _ (waived lines demands (any_viewed waives_hashes file_line_of c.args.lines.now ∙ sym w.waive_hashes.ensures ∙ w.if-waive_hashes.true))
    ]

pub returns : goal.returns
returns c =
    let lines = map file_line_of c.args.lines.now in
    let demands = map demand_of c.args.demands.now in
    let names = c.in_ok-names.names in
    subst (λ fs. IfOk c.push_lacking_of_lines.result (λ x. AddsFindings c.args.findings.now.items c.push_lacking_of_lines.new.findings.items fs))
    (lacks_of lines demands _ (any_viewed waives_hashes file_line_of c.args.lines.now ∙ sym c.waive_hashes.ensures ∙ c.if-waive_hashes.false)
    (same_lacking (is_known_name c.in_ok-files.files) (is_hashed lines) (is_known_name names.pinned) (has_pin demands) (is_known_name names.hashed) (may_be_hashed demands)
    (λ q. c.in_ok-files.ensures q) (λ q. c.in_ok-names.ensures.pinned q) (λ q. c.in_ok-names.ensures.hashed q) demands))
    c.push_lacking_of_lines.ensures
