use Rattle.std.proofs.Common.{◌∙◌, ap, subst, sym}
use Rattle.pep440_compiled.proofs.Fronts.{one_denoted}
use Rattle.pep440_compiled.proofs.laws.versions_are_exact.Goals as goal
use Rattle.pep440_compiled.specs.Version.{DenotesVersion, compiled_bytes}

pub returns-clause-one : goal.returns-clause-one
returns-clause-one c = one_denoted

pub returns-clause-same : goal.returns-clause-same
returns-clause-same c a b r q d e = (λ same. one_denoted b r q (subst (λ x. DenotesVersion x r) same d) e, λ same. d.same ∙ ap compiled_bytes same ∙ sym e.same)
