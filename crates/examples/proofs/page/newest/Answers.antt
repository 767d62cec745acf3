use Rattle.std.proofs.Common.{◌≡◌, ◌∙◌, List, ap, length, subst, sym}
use Rattle.std.proofs.lemmas.Iterator.Adapters.{YieldsList-from_vec}
use Rattle.std.proofs.lemmas.Iterator.Consumers.{reduce_from_yields_List}
use Rattle.pep440_version.specs.Record.{Record}
use Rattle.examples.specs.Versions.{LastGreatest, collect_matches}
use Rattle.examples.proofs.Newest.{newer, newest_of_all}
use Rattle.examples.proofs.page.newest.Goals as goal

pub returns : goal.returns
returns c =
    let all : List Record = collect_matches c.args.wanted.now c.args.page.items in
    let is : c.in_ok-versions.versions.items ≡ all = c.in_ok-versions.ensures in
    let yields = YieldsList-from_vec all (c.into_iter.ensures.rest ∙ is) (c.into_iter.ensures.len ∙ c.in_ok-versions.versions.ok.0 ∙ ap length is) in
    subst (LastGreatest all) (sym (reduce_from_yields_List newer c.into_iter.result c.max.result c.max.ensures.ran yields)) (newest_of_all all)
