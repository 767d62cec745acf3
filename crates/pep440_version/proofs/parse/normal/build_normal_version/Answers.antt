use Rattle.std.proofs.Common.{◌∙◌, subst, sym, take}
use Rattle.pep440_version.specs.Form.{record_in}
use Rattle.pep440_version.specs.Grammar.{Derives}
use Rattle.pep440_version.specs.Reading.{skip_v}
use Rattle.pep440_version.specs.Record.{IsRecord}
use Rattle.pep440_version.proofs.Reading.NormalParts.{normal}
use Rattle.pep440_version.proofs.Reading.ReadIsDerived.{v_takes}
use Rattle.pep440_version.proofs.RoundTrip.PrintIsRead.{derived_record}
use Rattle.pep440_version.proofs.parse.normal.build_normal_version.Goals as goal

pub from_packed-requires-clause-valid : goal.from_packed-requires-clause-valid
from_packed-requires-clause-valid c =
    let text = c.args.text.now in
    let v = v_takes text in
    let r = c.requires.1 in
    let ns = take c.args.count c.args.numbers in
    let is = normal text v.0 (skip_v text) r.0 c.args.rest.now ns c.in_ok-class.class c.in_ok-class.number v.2 v.1 r.2 r.1 c.in_ok-class.ensures.0 in
    subst IsRecord (sym c.in_ok-packed.ensures.some.1) (derived_record text (record_in ns c.in_ok-class.class c.in_ok-class.number) is)

pub returns : goal.returns
returns c =
    let text = c.args.text.now in
    let v = v_takes text in
    let r = c.requires.1 in
    let ns = take c.args.count c.args.numbers in
    let is = normal text v.0 (skip_v text) r.0 c.args.rest.now ns c.in_ok-class.class c.in_ok-class.number v.2 v.1 r.2 r.1 c.in_ok-class.ensures.0 in
    subst (Derives text) (sym (c.from_packed.ensures ∙ c.in_ok-packed.ensures.some.1)) is
