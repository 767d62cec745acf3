use Rattle.std.proofs.Common.{◌≡◌, ◌∙◌, ◌+◌, IfSome, List, Option, None, Some, length, option_map, string_bytes, subst, ℕ}
use Rattle.std.proofs.lemmas.Result.{IfOk-weaker}
use Rattle.pep440_pick.specs.Names.{normal}
use Rattle.pep440_version.specs.ErrorTexts.{error_text, rejection_text}
use Rattle.pep440_version.specs.Errors.{error_rejection}
use Rattle.pep440_version.specs.Rejections.{Rejection}
use Rattle.pyver_documents.proofs.Walks.{refusal, version_reason_is}
use Rattle.pyver_documents.specs.DocumentViews.{locked_reading_of}
use Rattle.pyver_findings.specs.FileLines.{NoRequirement}
use Rattle.pyver_findings.specs.Views.{file_line_of}
use Rattle.pyver_locks.specs.LockContents.{locked_of}
use Rattle.pyver_locks.specs.KnownEnvironments.{read_condition_of}
use Rattle.pyver_documents.proofs.locked_reading.reject_version.Goals as goal

pub returns : goal.returns
returns c =
    let e = c.args.error.now in
    let l = file_line_of c.args.line in
    let p = locked_of c.args.locked.now in
    let k = option_map read_condition_of c.args.condition in
    let s = string_bytes c.in_ok-reason.reason in
    let f = refusal (error_rejection e) c.in_ok-reason.ensures.memory in
    let told : error_text (Some f.0) ≡ Some (rejection_text f.0) = subst (λ (o : Option Rejection). IfSome o (λ g. error_text o ≡ Some (rejection_text g))) f.1 c.requires in
    let why : s ≡ rejection_text f.0 = version_reason_is f.0 s told (subst (λ (o : Option Rejection). IfSome (error_text o) (λ (t : List ℕ). s ≡ t)) f.1 c.in_ok-reason.ensures.text) in
    IfOk-weaker c.reject.result (λ y. locked_reading_of y ≡ record { line = l; name = normal p.name; condition = k; version = None; invalid = Some (NoRequirement l s (length p.name + 1)) }) (λ y. (g : Rejection) × (error_rejection e ≡ Some g) × (locked_reading_of y ≡ record { line = l; name = normal p.name; condition = k; version = None; invalid = Some (NoRequirement l (rejection_text g) (length p.name + 1)) })) (λ x is. (f.0, f.1, is ∙ (λ j. record { line = l; name = normal p.name; condition = k; version = None; invalid = Some (NoRequirement l (why j) (length p.name + 1)) }))) c.reject.ensures
