use Rattle.std.proofs.Common.{◌∙◌, ◌++◌, ◌∷◌, [], arith, append_assoc, sym}
use Rattle.std.specs.List.{flat_map}
use Rattle.pep440_compiled.proofs.Loops.{up_to}
use Rattle.pep440_compiled.proofs.key_parts.split_release.Goals as goal
use Rattle.pep440_compiled.specs.KeyParts.{base_bytes}
use Rattle.pep440_keys.specs.SortKeys.{number_bytes}
use Rattle.pep440_version.specs.Key.Trim.{trim}

pub returns-in_err-numbers-clause-found : goal.returns-in_err-numbers-clause-found
returns-in_err-numbers-clause-found c epoch numbers rest e =
    absurd (c.in_err-numbers.ensures.found 0 epoch (flat_map (number_bytes 1) (trim numbers) ++ 0 ∷ rest) (omega arith) (e ∙ append_assoc (number_bytes 0 epoch) _ (0 ∷ rest)))

pub returns-in_err-rest-clause-found : goal.returns-in_err-rest-clause-found
returns-in_err-rest-clause-found c epoch numbers rest e =
    let later = c.in_ok-numbers.ensures.found 0 epoch (flat_map (number_bytes 1) (trim numbers) ++ 0 ∷ rest) (omega arith) (e ∙ append_assoc (number_bytes 0 epoch) _ (0 ∷ rest)) in
    absurd (c.in_err-rest.ensures.found (trim numbers) rest later.1)

pub returns-clause-found : goal.returns-clause-found
returns-clause-found c epoch numbers rest e =
    let later = c.in_ok-numbers.ensures.found 0 epoch (flat_map (number_bytes 1) (trim numbers) ++ 0 ∷ rest) (omega arith) (e ∙ append_assoc (number_bytes 0 epoch) _ (0 ∷ rest)) in
    let found = c.in_ok-rest.ensures.found (trim numbers) rest later.1 in
    (up_to c.args.bytes.now (base_bytes epoch numbers ++ 0 ∷ []) rest c.in_ok-rest.rest.now (e ∙ sym (append_assoc (base_bytes epoch numbers) (0 ∷ []) rest)) found, found)
