use Rattle.std.proofs.Common.{◌∙◌, sym, true≢false}
use Rattle.std.proofs.lemmas.Bool.{not-true}
use Rattle.std.specs.Cmp.Lexicographic.{slice_cmp}
use Rattle.std.specs.Ordering.{nat_cmp}
use Rattle.pep440_compiled.proofs.Comparing.{no_locals, with_local, without_local, without_locals}
use Rattle.pep440_compiled.proofs.matching.cmp_candidate.Goals.{else-specifier, then-specifier}
use Rattle.pep440_compiled.proofs.matching.cmp_candidate.Goals as goal

pub returns-then-not-version : goal.returns-then-not-version
returns-then-not-version c s v parts other =
    c.cmp_bytes.ensures
    ∙ (λ i. slice_cmp nat_cmp (other.version.key i) (parts.version.key i))
    ∙ elim c.if-specifier.branch [
      | then-specifier w ↦ with_local s v parts.version.parsed other.version.parsed (sym parts.has_local ∙ w.if-specifier.true)
      | else-specifier w ↦ no_locals s v parts.version.parsed other.version.parsed (sym other.has_local ∙ not-true _ (sym w.value-is ∙ c.if-not-version.true))
    ]

pub returns-else-not-version : goal.returns-else-not-version
returns-else-not-version c s v parts other =
    c.cmp_bytes-else-not-version.ensures
    ∙ (λ i. slice_cmp nat_cmp (other.public i) (parts.public i))
    ∙ without_locals v s other.version.parsed parts.version.parsed
    ∙ elim c.if-specifier.branch [
      | then-specifier w ↦ absurd (true≢false (sym w.if-specifier.true ∙ sym w.value-is ∙ c.if-not-version.false))
      | else-specifier w ↦ without_local s v (sym parts.has_local ∙ w.if-specifier.false)
    ]
