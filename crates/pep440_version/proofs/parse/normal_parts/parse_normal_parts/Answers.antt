use Rattle.std.proofs.Common.{◌≡◌, ◌∙◌, [], ap, eqb-true, subst, sym, take}
use Rattle.std.proofs.lemmas.List.{nil_from_length}
use Rattle.pep440_version.specs.Grammar.{Derives}
use Rattle.pep440_version.specs.Reading.{skip_v}
use Rattle.pep440_version.specs.Record.{from_parts}
use Rattle.pep440_version.proofs.Reading.NormalParts.{dev_part, parts_derive, post_part}
use Rattle.pep440_version.proofs.Reading.ReadIsDerived.{v_takes}
use Rattle.pep440_version.proofs.parse.normal_parts.parse_normal_parts.Goals as goal

pub returns : goal.returns
returns c =
    let text = c.args.text.now in
    let v = v_takes text in
    let e = c.parse_normal_epoch-epoch.ensures in
    let none : c.parse_suffix_of-dev.result.1.now ≡ [] = nil_from_length c.parse_suffix_of-dev.result.1.now (eqb-true _ 0 (sym c.is_empty.ensures ∙ c.if-not-is_empty.false)) in
    let is = parts_derive text v.0 _ _ _ _ _ _ (take c.in_ok-numbers.count c.in_ok-numbers.numbers) c.parse_normal_epoch-epoch.result.0 c.parse_normal_pre-pre.result.0 c.parse_suffix_of-post.result.0 c.parse_suffix_of-dev.result.0 [] v.2 v.1
    (e.0, e.1, sym (c.skip_letter.ensures ∙ ap skip_v c.as_bytes.ensures.value) ∙ e.2) c.in_ok-numbers.ensures.1 c.parse_normal_pre-pre.ensures (post_part _ _ _ c.parse_suffix_of-post.ensures) (dev_part _ _ _ c.parse_suffix_of-dev.ensures) none in
    subst (λ ns. Derives text (from_parts c.parse_normal_epoch-epoch.result.0 ns c.parse_normal_pre-pre.result.0 c.parse_suffix_of-post.result.0 c.parse_suffix_of-dev.result.0 [])) (sym c.from_array.ensures) is
