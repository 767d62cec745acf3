use Rattle.std.proofs.Common.{rules}
use Rattle.std.proofs.lemmas.List.Sorted.{answers_always}
use Rattle.std.specs.Ordering.{is_lt}
use Rattle.pep440_rs.specs.Specifiers.{Spec}
use Rattle.pyver_commands.proofs.CommandLaws.{length_weak}
use Rattle.pyver_commands.specs.CommonRanges.{length_cmp}
use Rattle.pyver_commands.proofs.common_range.arrange_members.Goals as goal

pub returns : goal.returns
returns c =
    let lt = λ (x y : Spec). is_lt (length_cmp x y) in (
      c.sort_by.new.self.items,
      record {
        same = c.in_ok-sort_by.ensures.permutation;
        rises = c.in_ok-sort_by.ensures.sorted lt length_weak (answers_always _ _ _ (λ f a r q k. search rules));
        stable = c.in_ok-sort_by.ensures.stable lt length_weak (answers_always _ _ _ (λ f a r q k. search rules));
      },
      c.in_ok-list.ensures.value,
    )
