use Rattle.std.proofs.Common.{◌≡◌, map, rules, subst, sym}
use Rattle.std.proofs.lemmas.Result.{IfOk-weaker}
use Rattle.pep440_keys.proofs.Order.{in_range}
use Rattle.pep440_keys.specs.RangeKeys.{HoldsKeys, segment_interval}
use Rattle.pep440_keys.proofs.range_intervals.range_keys.Goals as goal

pub returns-clause-holds : goal.returns-clause-holds
returns-clause-holds c = λ keyed.
    IfOk-weaker c.collect_intervals.result (λ v. v.items ≡ map segment_interval c.args.range.now) (λ v. HoldsKeys c.args.range.now v.items)
    (λ v is. subst (HoldsKeys c.args.range.now) (sym is) (in_range c.args.range.now keyed)) (search rules)
