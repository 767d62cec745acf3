use Rattle.std.proofs.Common.{◌∙◌, ◌++◌, ap, append_assoc, length, sym}
use Rattle.std.specs.Prelude.{drop}
use Rattle.pep440_compiled.proofs.ByteOrder.{key_first, shared_cmp}
use Rattle.pep440_compiled.proofs.list_members.compare_member.Goals as goal
use Rattle.pep440_compiled.specs.Version.{zero_bytes}
use Rattle.pep440_keys.specs.SortKeys.{key_bytes}
use Rattle.pep440_rs.specs.Matching.{matches}
use Rattle.pep440_version.specs.Key.Trim.{trim}

pub returns-then-branch-clause-found : goal.returns-then-branch-clause-found
returns-then-branch-clause-found c s v rest first p k o e =
    let split = e ∙ append_assoc (key_bytes s.version) (zero_bytes s.version.release) rest in
    let order = c.cmp_common-order.ensures ∙ (λ i. shared_cmp (k.key i) (split i)) ∙ key_first v s.version k.parsed p (zero_bytes s.version.release ++ rest) in
    let found = c.in_ok-rest.ensures.found s.version v (zero_bytes s.version.release ++ rest) p k order split in
    let is = c.in_ok-matches_order.ensures s.version v found.1 in (
      ap (λ operator. matches operator s.version v) (sym (c.in_ok-operator.ensures s.operator first)) ∙ sym is ∙ c.if-branch.true,
      c.skip_zeros.ensures.found (drop (length (trim s.version.release)) s.version.release) rest o found.0,
    )

pub returns-else-branch-clause-found : goal.returns-else-branch-clause-found
returns-else-branch-clause-found c s v rest first p k o e =
    let split = e ∙ append_assoc (key_bytes s.version) (zero_bytes s.version.release) rest in
    let order = c.cmp_common-order.ensures ∙ (λ i. shared_cmp (k.key i) (split i)) ∙ key_first v s.version k.parsed p (zero_bytes s.version.release ++ rest) in
    let found = c.in_ok-rest.ensures.found s.version v (zero_bytes s.version.release ++ rest) p k order split in
    let is = c.in_ok-matches_order.ensures s.version v found.1 in
    ap (λ operator. matches operator s.version v) (sym (c.in_ok-operator.ensures s.operator first)) ∙ sym is ∙ c.if-branch.false
