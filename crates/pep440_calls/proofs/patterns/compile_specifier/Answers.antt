use Rattle.std.proofs.Common.{◌∷◌, [], subst, sym}
use Rattle.std.proofs.lemmas.List.Elements.{All-from_recursion}
use Rattle.std.proofs.lemmas.Result.{err_from_is_err_and}
use Rattle.std.specs.List.{All, AllByRecursion}
use Rattle.pep440_calls.proofs.Forms.{IsParsedSpec, only_memory, specifier_parsed}
use Rattle.pep440_calls.proofs.patterns.compile_specifier.Goals as goal

pub returns-in_err-compile_list : goal.returns-in_err-compile_list
returns-in_err-compile_list c =
    let p = err_from_is_err_and c.from_residual-in_err-compile_list.result c.from_residual-in_err-compile_list.ensures.1 in
    let parsed = specifier_parsed c.in_ok-specifier.specifier (c.args.bytes.now, c.in_ok-specifier.ensures.1) in
    let all : AllByRecursion IsParsedSpec (c.in_ok-specifier.specifier ∷ []) = (parsed, tt) in
    rw p.1 (only_memory _ _ _ p.0 _ p.2 (λ is. c.in_err-compile_list.ensures.err is (subst (All IsParsedSpec) (sym c.in_ok-list.ensures) (All-from_recursion IsParsedSpec (c.in_ok-specifier.specifier ∷ []) all))))
