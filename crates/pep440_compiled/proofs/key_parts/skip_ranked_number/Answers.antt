use Rattle.std.proofs.Common.{◌≡◌, ◌∙◌, ◌+◌, ◌*◌, ◌++◌, ap, arith, get_or, sym, length}
use Rattle.std.specs.Prelude.{drop}
use Rattle.pep440_compiled.proofs.Loops.{behind}
use Rattle.pep440_compiled.proofs.key_parts.skip_ranked_number.Goals as goal
use Rattle.pep440_keys.proofs.Bytes.{needed_le}
use Rattle.pep440_keys.specs.SortKeys.{needed_bytes}

pub returns-clause-found : goal.returns-clause-found
returns-clause-found c rank n rest few e =
    let both = sym c.in_ok-first.ensures.cases.0 ∙ e in
    let first : c.in_ok-first.first.now ≡ 16 * rank + length (needed_bytes n) = ap (λ l. get_or l 0 0) both in
    let tail : c.in_ok-first.rest.now ≡ needed_bytes n ++ rest = ap (drop 1) both in
    (omega (arith, first, needed_le n), behind c.from.result c.in_ok-first.rest.now c.in_ok-rest.field-0-0.now c.in_ok-rest.rest.now (needed_bytes n) rest (omega (arith, first, needed_le n)) tail c.in_ok-rest.ensures.cases.2)
