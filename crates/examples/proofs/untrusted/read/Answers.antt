use Rattle.std.proofs.Common.{◌≡◌, ◌∙◌, ℕ, List, Option, Some, None, IfSome, is_none, false, string_bytes, sym}
use Rattle.pep440_version.specs.Errors.{error_rejection}
use Rattle.pep440_version.specs.ErrorTexts.{error_text, rejection_text}
use Rattle.pep440_version.specs.Rejections.{Rejection, Rejects}
use Rattle.examples.proofs.untrusted.read.Goals as goal

-- an error that says something of the text has the text of that
told : (text reason : List ℕ) (o : Option Rejection) (said : Option (List ℕ)) → is_none o ≡ false → IfSome o (Rejects text) → IfSome o (λ f. said ≡ Some (rejection_text f)) → IfSome said (λ bytes. reason ≡ bytes)
    → (f : Rejection) × Rejects text f × (reason ≡ rejection_text f)
told text reason None said some why is shown = cc some
told text reason (Some f) said some why is shown = (f, why, rw is at shown)

pub returns-in_ok-reason-in-Err : goal.returns-in_ok-reason-in-Err
returns-in_ok-reason-in-Err c =
    told c.args.text.now (string_bytes c.in_ok-reason-in-Err.reason) (error_rejection c.in-Err.error) (error_text (error_rejection c.in-Err.error))
    (sym c.is_out_of_memory.ensures ∙ c.if-is_out_of_memory.false) c.in-Err.ensures.refused c.in-Err.ensures.message c.in_ok-reason-in-Err.ensures.ok
