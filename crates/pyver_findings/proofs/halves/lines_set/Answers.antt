use Rattle.std.proofs.Common.{arith, ◌≡◌, Bor, map}
use Rattle.std.proofs.lemmas.List.Elements.{All-same}
use Rattle.pep440_rs.specs.Denoted.{IsDenotable}
use Rattle.pyver_findings.specs.Conflicts.{specifiers_of}
use Rattle.pyver_findings.specs.Views.{demand_of}
use Rattle.pyver_findings.specs.declared.demand.Demand.{Demand as DemandValue}
use Rattle.pyver_findings.proofs.SmallestLists.{sound_members}
use Rattle.pyver_findings.proofs.halves.lines_set.Goals as goal

pub from_specifiers-requires : goal.from_specifiers-requires
from_specifiers-requires c =
    let lines = map (λ (x : Bor DemandValue). demand_of x.now) c.args.lines.now in
    let same : c.as_slice.result.now ≡ specifiers_of lines = grind arith in
    All-same IsDenotable c.as_slice.result.now (specifiers_of lines) same (sound_members lines c.requires)
