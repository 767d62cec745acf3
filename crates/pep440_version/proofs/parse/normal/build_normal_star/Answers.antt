use Rattle.std.proofs.Common.{rules, ◌∙◌, subst, sym, take}
use Rattle.pep440_version.specs.Form.{record_in}
use Rattle.pep440_version.specs.Patterns.{DerivesStar}
use Rattle.pep440_version.specs.Reading.{skip_v}
use Rattle.pep440_version.specs.Record.{IsRecord}
use Rattle.pep440_version.proofs.Reading.NormalParts.{by_two, starred}
use Rattle.pep440_version.proofs.Reading.ReadIsDerived.{v_takes}
use Rattle.pep440_version.proofs.RoundTrip.PrintIsRead.{derived_record}
use Rattle.pep440_version.proofs.parse.normal.build_normal_star.Goals as goal

pub from_packed-requires-clause-valid : goal.from_packed-requires-clause-valid
from_packed-requires-clause-valid c =
    let text = c.args.text.now in
    let v = v_takes text in
    let r = c.requires.1 in
    let rest = c.args.rest.now in
    let ns = take c.args.count c.args.numbers in
    let is = starred text v.0 (skip_v text) r.0 rest ns v.2 v.1 r.2 r.1 (by_two 46 42 rest (search rules) (search rules) (search rules)) in
    subst IsRecord (sym c.in_ok-packed.ensures.some.1) (derived_record is.0 (record_in ns 5 0) is.1)

pub returns : goal.returns
returns c =
    let text = c.args.text.now in
    let v = v_takes text in
    let r = c.requires.1 in
    let rest = c.args.rest.now in
    let ns = take c.args.count c.args.numbers in
    let is = starred text v.0 (skip_v text) r.0 rest ns v.2 v.1 r.2 r.1 (by_two 46 42 rest (search rules) (search rules) (search rules)) in
    subst (DerivesStar text) (sym (c.from_packed.ensures ∙ c.in_ok-packed.ensures.some.1)) is
