use Rattle.std.proofs.Common.{◌≡◌, ℕ, List, IfErr, IfSome, Result, Ok, Err, subst, sym}
use Rattle.std.specs.Result.{IsErrAnd}
use Rattle.pep440_version.specs.Errors.{error_rejection}
use Rattle.pep440_version.specs.Rejections.{Rejects}
use Rattle.pep440_version.specs.declared.error.VersionParseError.{VersionParseError}
use Rattle.pep440_rs.specs.Lists.ListGrammar.{DerivesList}
use Rattle.pep440_rs.specs.Specifiers.{Spec}
use Rattle.examples.specs.Lock.{IsFault, IsShort, list_part, version_part}
use Rattle.examples.specs.declared.lock.LockEntry.{LockEntry}
use Rattle.examples.specs.declared.lock.LockError.{LockError}
use Rattle.examples.specs.declared.lock.LockError.TheVariants.{Version}
use Rattle.examples.proofs.lock.LockEntry.from_line.Goals as goal

-- an error of the third part is the fault of a line whose second part is a list
third : (line text : List ℕ) (list : List Spec) (e : VersionParseError) (r : Result LockEntry LockError) → text ≡ version_part line → ¬ IsShort line → DerivesList (list_part line) list → IsErrAnd r (λ of. of ≡ Version e)
    → IfSome (error_rejection e) (Rejects text) → IfErr r (IsFault line)
third line text list e (Ok locked) is long derived made why = absurd made
third line text list e (Err of) is long derived made why =
    subst (IsFault line) (sym made) (long, (list, derived), subst (λ (t : List ℕ). IfSome (error_rejection e) (Rejects t)) is why)

pub returns-in_err-from_str-3-clause-refused : goal.returns-in_err-from_str-3-clause-refused
returns-in_err-from_str-3-clause-refused c =
    third c.args.line.now c.in-Some.version.now c.in_ok-from_str-2.field-0 c.in_err-from_str-3.field-0.0 c.from_residual-in_err-from_str-3.result c.in-Some.ensures.version c.in-Some.ensures.long
    (subst (λ (t : List ℕ). DerivesList t c.in_ok-from_str-2.field-0) c.in-Some.ensures.list c.in_ok-from_str-2.ensures.found) c.from_residual-in_err-from_str-3.ensures.1
    c.in_err-from_str-3.ensures.refused
