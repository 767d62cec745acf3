use Rattle.std.proofs.Common.{◌∙◌, ◌==◌, ◌&&◌, ap, length, rules, sym, take, tests}
use Rattle.std.proofs.lemmas.Bool.{le-leb}
use Rattle.std.proofs.lemmas.Iterator.{YieldsList-from_slice}
use Rattle.std.proofs.lemmas.Iterator.Search.{all_from_yields_List}
use Rattle.std.specs.List.{list_all}
use Rattle.pep440_compiled.proofs.matching.begins_with_zeros.Goals as goal

pub returns-then-zeros-bytes : goal.returns-then-zeros-bytes
returns-then-zeros-bytes c =
    all_from_yields_List (λ n. n == 1) _ _ c.all.result c.all.ensures.ran (YieldsList-from_slice (take c.args.zeros c.args.bytes.now) cc) (λ x b q k. search (rules, tests))
    ∙ sym (ap (λ b. b && list_all (λ n. n == 1) (take c.args.zeros c.args.bytes.now)) (le-leb c.args.zeros (length c.args.bytes.now) c.if-zeros-bytes.true))
