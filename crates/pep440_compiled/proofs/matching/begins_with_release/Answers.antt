use Rattle.std.proofs.Common.{◌∙◌, nat_eq}
use Rattle.std.specs.List.{starts_with}
use Rattle.pep440_compiled.proofs.Comparing.{begins_by_base, key_front}
use Rattle.pep440_compiled.proofs.matching.begins_with_release.Goals as goal

pub returns : goal.returns
returns c s v p q none k e =
    c.starts_with.ensures.value
    ∙ (λ i. starts_with nat_eq ((k ∙ key_front v) i) (c.base.ensures s.epoch s.release e i))
    ∙ begins_by_base s v p q none _
