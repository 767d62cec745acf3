use Rattle.std.proofs.Common.{◌≡◌, [], ◌∷◌, ◌+◌, arith, length, subst}
use Rattle.std.proofs.lemmas.Grind.{common_steps}
use Rattle.pep440_keys.specs.SortKeys.{number_bytes}
use Rattle.pep440_keys.proofs.Bytes.{one_byte, zero_bytes}
use Rattle.pep440_keys.proofs.number_bytes.push_number.Goals as goal

pub returns-in-0-clause-appended : goal.returns-in-0-clause-appended
returns-in-0-clause-appended g c =
    let bytes : number_bytes c.args.base c.args.number ≡ c.args.base ∷ [] = zero_bytes c.args.base c.args.number c.in-0.is in
    grind (arith, common_steps)

pub returns-in-0-clause-fits : goal.returns-in-0-clause-fits
returns-in-0-clause-fits g c = λ more capacity.
    let bytes = zero_bytes c.args.base c.args.number c.in-0.is in
    c.append.ensures.fits more (subst (λ bytes. g.K.KeySink.has_capacity c.args.key.now (length bytes + more)) bytes capacity)

pub returns-in-1-to-255-clause-appended : goal.returns-in-1-to-255-clause-appended
returns-in-1-to-255-clause-appended g c =
    let bytes : number_bytes c.args.base c.args.number ≡ (c.args.base + 1) ∷ c.args.number ∷ [] = one_byte c.args.base c.args.number (omega arith) (omega arith) in
    grind (arith, common_steps)

pub returns-in-1-to-255-clause-fits : goal.returns-in-1-to-255-clause-fits
returns-in-1-to-255-clause-fits g c = λ more capacity.
    let bytes = one_byte c.args.base c.args.number (omega arith) (omega arith) in
    c.append-in-1-to-255.ensures.fits more (subst (λ bytes. g.K.KeySink.has_capacity c.args.key.now (length bytes + more)) bytes capacity)
