use Rattle.std.proofs.Common.{sym, true≢false}
use Rattle.pep440_compiled.proofs.set_forms.view_fronts.Goals as goal

pub returns-in_err-keys-clause-some : goal.returns-in_err-keys-clause-some
returns-in_err-keys-clause-some c s h few = absurd (c.in_err-keys.ensures.found s h)

pub returns-in_err-ranges-clause-some : goal.returns-in_err-ranges-clause-some
returns-in_err-ranges-clause-some c s h few =
    let keys = c.in_ok-keys.ensures.found s h in
    absurd (true≢false (sym (c.in_err-ranges.ensures.some s keys.sizes keys.same few.few few.long)))

pub returns-clause-fronts : goal.returns-clause-fronts
returns-clause-fronts c s h =
    let keys = c.in_ok-keys.ensures.found s h in
    record { valid = keys.valid; keys = c.in_ok-ranges.ensures.fronts s keys.sizes keys.same }
