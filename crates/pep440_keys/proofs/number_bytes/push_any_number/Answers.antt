use Rattle.std.proofs.Common.{◌≡◌, ◌∙◌, [], ◌∷◌, ◌+◌, ap, arith, append_assoc, length, subst, sym}
use Rattle.std.proofs.lemmas.Bool.{false≢true}
use Rattle.std.proofs.lemmas.Grind.{common_steps}
use Rattle.pep440_keys.specs.SortKeys.{needed_bytes, number_bytes}
use Rattle.pep440_keys.proofs.Bytes.{four_bytes, needed_is, two_bytes, capacity_for_two}
use Rattle.pep440_keys.proofs.number_bytes.push_any_number.Goals as goal

pub returns-in-256-to-65535-clause-appended : goal.returns-in-256-to-65535-clause-appended
returns-in-256-to-65535-clause-appended g c =
    let bytes : number_bytes c.args.base c.args.number ≡ (c.args.base + 2) ∷ c.to_be_bytes-bytes.result =
    two_bytes c.args.base c.args.number (omega arith) (omega arith) ∙ ap (λ l. (c.args.base + 2) ∷ l) (sym c.to_be_bytes-bytes.ensures) in
    grind (arith, common_steps)

pub returns-in-256-to-65535-clause-fits : goal.returns-in-256-to-65535-clause-fits
returns-in-256-to-65535-clause-fits g c = λ more capacity.
    let bytes = two_bytes c.args.base c.args.number (omega arith) (omega arith) in
    c.append.ensures.fits more (subst (λ bytes. g.K.KeySink.has_capacity c.args.key.now (length bytes + more)) bytes capacity)

pub returns-in-16777216-to-4294967295-clause-appended : goal.returns-in-16777216-to-4294967295-clause-appended
returns-in-16777216-to-4294967295-clause-appended g c =
    let bytes : number_bytes c.args.base c.args.number ≡ (c.args.base + 4) ∷ c.to_be_bytes-bytes-in-16777216-to-4294967295.result =
    four_bytes c.args.base c.args.number (omega arith) (omega arith) ∙ ap (λ l. (c.args.base + 4) ∷ l) (sym c.to_be_bytes-bytes-in-16777216-to-4294967295.ensures) in
    grind (arith, common_steps)

pub returns-in-16777216-to-4294967295-clause-fits : goal.returns-in-16777216-to-4294967295-clause-fits
returns-in-16777216-to-4294967295-clause-fits g c = λ more capacity.
    let bytes = four_bytes c.args.base c.args.number (omega arith) (omega arith) in
    c.append-in-16777216-to-4294967295.ensures.fits more (subst (λ bytes. g.K.KeySink.has_capacity c.args.key.now (length bytes + more)) bytes capacity)

pub returns-in_ok-append-in_default-clause-appended : goal.returns-in_ok-append-in_default-clause-appended
returns-in_ok-append-in_default-clause-appended g c =
    let needed : c.skip_leading_zeros-bytes.result.now ≡ needed_bytes c.args.number = c.skip_leading_zeros-bytes.ensures.value ∙ needed_is c.args.number _ c.to_be_bytes-padded.ensures in
    grind (arith, common_steps, append_assoc)

pub returns-in_err-append-in_default-clause-fits : goal.returns-in_err-append-in_default-clause-fits
returns-in_err-append-in_default-clause-fits g c = λ more capacity.
    let two = capacity_for_two (g.K.KeySink.has_capacity c.args.key.now) (c.args.base ∷ []) (needed_bytes c.args.number) more capacity in
    absurd (false≢true (c.in_err-append-in_default.ensures.fits _ two).0)

pub returns-in_ok-append-in_default-clause-fits : goal.returns-in_ok-append-in_default-clause-fits
returns-in_ok-append-in_default-clause-fits g c = λ more capacity.
    let needed = c.skip_leading_zeros-bytes.ensures.value ∙ needed_is c.args.number _ c.to_be_bytes-padded.ensures in
    let two = capacity_for_two (g.K.KeySink.has_capacity c.args.key.now) (c.args.base ∷ []) (needed_bytes c.args.number) more capacity in
    let second = (c.append-in_default.ensures.fits _ two).1 in
    c.append-in_default-2.ensures.fits more (subst (λ bytes. g.K.KeySink.has_capacity c.append-in_default.new.self (length bytes + more)) (sym needed) second)
