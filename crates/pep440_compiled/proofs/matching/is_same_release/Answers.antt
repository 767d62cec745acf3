use Rattle.std.proofs.Common.{◌∙◌, nat_eq}
use Rattle.std.specs.Cmp.Lexicographic.{pointwise}
use Rattle.pep440_compiled.proofs.Comparing.{release_test}
use Rattle.pep440_compiled.proofs.matching.is_same_release.Goals as goal

pub returns : goal.returns
returns c s v parts other =
    c.eq.ensures ∙ (λ i. pointwise nat_eq (other.release i) (parts.release i)) ∙ release_test s v parts.version.parsed other.version.parsed
