use Rattle.std.proofs.Common.{false, rules, sym, subst, true}
use Rattle.std.proofs.lemmas.List.Sorted.{answers_always}
use Rattle.std.specs.Ordering.{is_lt}
use Rattle.pep440_rs.specs.Arrangement.{ArrangesBy}
use Rattle.pyver_commands.proofs.InputOutput.{order_weak}
use Rattle.pyver_commands.specs.Sources.VersionLineViews.{version_line_order}
use Rattle.pyver_commands.specs.declared.sources.version_line.VersionLine.{VersionLine}
use Rattle.pyver_commands.proofs.sort.sort_lines.Goals as goal

pub returns-then-reversed : goal.returns-then-reversed
returns-then-reversed c =
    let lt = λ (x y : VersionLine). is_lt (version_line_order true x y) in
    let weak = order_weak (λ (x : VersionLine). x.version) true in
    subst (λ b. ArrangesBy (version_line_order b) c.args.lines.items c.sort_by.new.self.items) (sym c.if-reversed.true) (record {
      same = c.in_ok-sort_by.ensures.permutation;
      rises = c.in_ok-sort_by.ensures.sorted lt weak (answers_always _ _ _ (λ f a r q k. search rules));
      stable = c.in_ok-sort_by.ensures.stable lt weak (answers_always _ _ _ (λ f a r q k. search rules));
    })

pub returns : goal.returns
returns c =
    let lt = λ (x y : VersionLine). is_lt (version_line_order false x y) in
    let weak = order_weak (λ (x : VersionLine). x.version) false in
    subst (λ b. ArrangesBy (version_line_order b) c.args.lines.items c.sort_by-2.new.self.items) (sym c.if-reversed.false) (record {
      same = c.in_ok-sort_by-2.ensures.permutation;
      rises = c.in_ok-sort_by-2.ensures.sorted lt weak (answers_always _ _ _ (λ f a r q k. search rules));
      stable = c.in_ok-sort_by-2.ensures.stable lt weak (answers_always _ _ _ (λ f a r q k. search rules));
    })
