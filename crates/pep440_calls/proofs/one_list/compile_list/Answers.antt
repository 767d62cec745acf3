use Rattle.std.proofs.Common.{◌≡◌, refl, subst, sym}
use Rattle.std.proofs.lemmas.Result.{err_from_is_err_and}
use Rattle.pep440_compiled.specs.declared.error.CompileError.{CompileError}
use Rattle.pep440_compiled.specs.declared.error.CompileError.TheVariants.{NotParsed, OutOfMemory}
use Rattle.pep440_calls.proofs.Forms.{members_parsed}
use Rattle.pep440_calls.proofs.one_list.compile_list.Goals as goal
use Rattle.pep440_calls.specs.CallerBytes.{ListFaults}
use Rattle.pep440_calls.specs.Statuses.{fault_of_compile}
use Rattle.pep440_calls.specs.declared.fault.Fault.{Fault}
use Rattle.pep440_calls.specs.declared.fault.Fault.TheVariants as fault

only_memory : (Cause : Fault → Type 0) (f : Fault) (e : CompileError) → Cause fault.OutOfMemory → f ≡ fault_of_compile e → (e ≡ NotParsed → ⊥) → Cause f
only_memory Cause f NotParsed memory is never = absurd (never refl)
only_memory Cause f OutOfMemory memory is never = subst Cause (sym is) memory

pub returns-in_err-compile_list : goal.returns-in_err-compile_list
returns-in_err-compile_list c =
    let p = err_from_is_err_and c.from_residual-in_err-compile_list.result c.from_residual-in_err-compile_list.ensures.1 in
    rw p.1 (only_memory (ListFaults ⊥ c.args.list.now ⊥) p.0 _ tt p.2 (λ is. c.in_err-compile_list.ensures.err is (members_parsed _ _ c.in_ok-list.ensures)))
