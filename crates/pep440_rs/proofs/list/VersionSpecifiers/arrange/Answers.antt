use Rattle.std.proofs.Common.{rules}
use Rattle.std.proofs.lemmas.List.Sorted.{answers_always, ranks_by}
use Rattle.std.specs.Ordering.{is_lt}
use Rattle.pep440_version.specs.Key.KeyLaws.{record_total}
use Rattle.pep440_rs.specs.Arrangement.{version_cmp}
use Rattle.pep440_rs.specs.Specifiers.{Spec}
use Rattle.pep440_rs.proofs.list.VersionSpecifiers.arrange.Goals as goal

pub invariant_of-result : goal.invariant_of-result
invariant_of-result c =
    c.in_ok-sort_by.ensures.sorted (λ (x y : Spec). is_lt (version_cmp x y)) (ranks_by record_total (λ (s : Spec). s.version)) (answers_always _ _ _ (λ f a r q k. search rules))

pub returns : goal.returns
returns c = record {
  same = c.in_ok-sort_by.ensures.permutation;
  rises = invariant_of-result c;
  stable = c.in_ok-sort_by.ensures.stable (λ (x y : Spec). is_lt (version_cmp x y)) (ranks_by record_total (λ (s : Spec). s.version)) (answers_always _ _ _ (λ f a r q k. search rules));
}
