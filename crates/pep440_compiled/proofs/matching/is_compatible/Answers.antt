use Rattle.std.proofs.Common.{◌≡◌, ◌∙◌, ◌-◌, ◌++◌, ap, arith, suc, sym}
use Rattle.pep440_compiled.proofs.Fronts.{numbers_code, without_last_fits, zero_taken}
use Rattle.pep440_compiled.proofs.matching.is_compatible.Goals as goal
use Rattle.pep440_compiled.specs.KeyParts.{ending_zeros}
use Rattle.pep440_keys.specs.SortKeys.{number_bytes}
use Rattle.pep440_rs.specs.Matching.{without_last}

pub returns-then-zeros-gt0 : goal.returns-then-zeros-gt0
returns-then-zeros-gt0 c s v parts some q e =
    let zeros = c.args.specifier.now.version.zeros in
    let ends : ending_zeros s.release ≡ suc (zeros - 1) = omega (arith, parts.version.zeros, c.if-zeros-gt0.true) in
    let taken = zero_taken s.release (zeros - 1) ends in
    c.has_prefix.ensures s.epoch (without_last s.release) v parts.version.parsed.valid.epoch (without_last_fits s.release parts.version.parsed.valid.release) q
    (c.base.ensures s.epoch s.release parts.release ∙ ap (λ l. number_bytes 0 s.epoch ++ numbers_code l) (sym taken.0)) (sym taken.1) e

pub returns-in-Some : goal.returns-in-Some
returns-in-Some c s v parts some q e =
    let none : ending_zeros s.release ≡ 0 = omega (arith, parts.version.zeros, c.if-zeros-gt0.false) in
    let shorter = c.in-Some.ensures s.epoch s.release (omega (arith, some)) parts.version.parsed.valid.release none (c.base-2.ensures s.epoch s.release parts.release) in
    c.has_prefix-in-Some.ensures s.epoch (without_last s.release) v parts.version.parsed.valid.epoch (without_last_fits s.release parts.version.parsed.valid.release) q shorter.0 shorter.1 e

pub returns-in-None : goal.returns-in-None
returns-in-None c s v parts some q e =
    let none : ending_zeros s.release ≡ 0 = omega (arith, parts.version.zeros, c.if-zeros-gt0.false) in
    absurd (c.in-None.ensures s.epoch s.release (omega (arith, some)) parts.version.parsed.valid.release none (c.base-2.ensures s.epoch s.release parts.release))
