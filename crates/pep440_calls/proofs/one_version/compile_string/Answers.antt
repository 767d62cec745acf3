use Rattle.std.proofs.lemmas.Result.{err_from_is_err_and}
use Rattle.pep440_calls.proofs.Forms.{string_compiled, string_fault}
use Rattle.pep440_calls.proofs.one_version.compile_string.Goals as goal

pub returns-in_err-compile-clause-found : goal.returns-in_err-compile-clause-found
returns-in_err-compile-clause-found c =
    let p = err_from_is_err_and c.from_residual.result c.from_residual.ensures.1 in
    rw p.1 (string_fault c.args.text.now p.0 _ c.requires p.2 c.in_err-compile.ensures.rejected)

pub returns-clause-found : goal.returns-clause-found
returns-clause-found c = string_compiled c.args.text.now c.in_ok-compile.field-0.now c.in_ok-compile.ensures.found
