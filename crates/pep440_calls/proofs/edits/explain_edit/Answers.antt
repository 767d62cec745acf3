use Rattle.std.proofs.Common.{List, ℕ, map, subst, sym}
use Rattle.pep440_calls.proofs.Placed.{TellsEdit, no_change_told, no_edit_told, nothing_told, version_told}
use Rattle.pep440_calls.proofs.edits.explain_edit.Goals as goal
use Rattle.pep440_calls.proofs.edits.explain_edit.Goals.{in-Ok, in-Err-InvalidVersion, in-Err-NotAChange+in_ok-explain_no_change-in-Err-NotAChange, in-Err-Change+in_ok-to_string-in-Err-Change, in-Err-OutOfMemory}

pub returns : goal.returns
returns c =
    let text = c.args.bytes.now in
    let words : List (List ℕ) = map (λ t. t.now) c.args.words.now in
    elim c.match-change.branch [
      | in-Ok w ↦ subst (TellsEdit text words) (sym w.result-is) (nothing_told text words w.new.result w.in-Ok.field-0 w.in-Ok.ensures w.new.ensures.bytes)
      | in-Err-InvalidVersion w ↦ subst (TellsEdit text words) (sym w.result-is)
          (version_told text words w.in-Err-InvalidVersion.field-0 w.explain_version.result w.in-Err-InvalidVersion.field-0-is w.in-Err-InvalidVersion.ensures w.explain_version.ensures)
      | in-Err-NotAChange+in_ok-explain_no_change-in-Err-NotAChange w ↦ subst (TellsEdit text words) (sym w.result-is)
          (no_change_told text words (w.in_ok-explain_no_change-in-Err-NotAChange).field-0 w.in-Err-NotAChange.field-0 w.in-Err-NotAChange.number w.in-Err-NotAChange.field-0-is w.in-Err-NotAChange.ensures
          (w.in_ok-explain_no_change-in-Err-NotAChange).ensures)
      | in-Err-Change+in_ok-to_string-in-Err-Change w ↦ subst (TellsEdit text words) (sym w.result-is)
          (no_edit_told text words (w.in_ok-to_string-in-Err-Change).field-0 w.in-Err-Change.field-0 w.in-Err-Change.error w.in-Err-Change.field-0-is w.in-Err-Change.ensures
          (w.in_ok-to_string-in-Err-Change).ensures.ok)
      | in-Err-OutOfMemory w ↦ subst (TellsEdit text words) (sym w.result-is) tt
    ]
