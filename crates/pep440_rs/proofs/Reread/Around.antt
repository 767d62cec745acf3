-- A text that may be unknown, between two that are known.
use Rattle.std.proofs.Common.{List, ℕ, ◌++◌, Option, Some, None, Result, option_map}
use Rattle.std.proofs.Output.{has_written_styled_append}
use Rattle.std.specs.Fmt.{DisplaysStyledOnOk, HasWrittenStyled, IsFlush}
use Rattle.std.specs.Prelude.{IsOk}
use Rattle.std.specs.declared.fmt.Error.{Error}
use Rattle.std.specs.declared.fmt.Formatter.{Formatter}

pub around : {W : Type 0} {took : W → List ℕ → W → Type 0} {f g h i : Formatter W} {a b : List ℕ} (o : Option (List ℕ)) (r s : Result (Unit {0}) Error)
    → (IsFlush f → HasWrittenStyled took f a g) → IsOk r → DisplaysStyledOnOk took g r o h → (IsFlush h → IsOk s → HasWrittenStyled took h b i)
    → DisplaysStyledOnOk took f s (option_map (λ t. a ++ (t ++ b)) o) i
around None r s first done told last = tt
around (Some t) r s first done told last = λ flush ok.
    let before = first flush in
    let text = told before.flush done in
    has_written_styled_append _ _ _ _ _ _ before (has_written_styled_append _ _ _ _ _ _ text (last text.flush ok))
