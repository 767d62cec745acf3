use Rattle.std.proofs.Common.{◌∙◌, ap, arith, sym, Some, None}
use Rattle.std.proofs.lemmas.Str.Pattern.{split_parts}
use Rattle.pep440_pick.specs.Names.{is_name}
use Rattle.pep440_rs.proofs.Reading.Pieces.{after_comma}
use Rattle.pep440_pick.proofs.Extras.{last_name, names_after, no_name_before}
use Rattle.pep440_pick.proofs.requirement_parts.are_names.Goals as goal

pub returns-then-not-is_name : goal.returns-then-not-is_name
returns-then-not-is_name c =
    let parts = split_parts 44 c.loop-part.rest.now (Some (c.in-Some.part, c.in-Some.later)) c.in-Some.ensures.cases (omega arith) in
    sym (c.loop-part.invariant.same ∙ no_name_before c.loop-part.rest.now c.in-Some.part.now c.in-Some.later.now parts.0 parts.1 (ap is_name (sym c.trim_blanks.ensures) ∙ sym c.is_name.ensures ∙ c.if-not-is_name.true))

pub loop-part-preserved : goal.loop-part-preserved
loop-part-preserved c =
    let parts = split_parts 44 c.loop-part.rest.now (Some (c.in-Some.part, c.in-Some.later)) c.in-Some.ensures.cases (omega arith) in
    record {
      utf8 = after_comma c.loop-part.rest.now c.in-Some.part.now c.in-Some.later.now c.loop-part.invariant.utf8 parts.0;
      same = c.loop-part.invariant.same ∙ names_after c.loop-part.rest.now c.in-Some.part.now c.in-Some.later.now parts.0 parts.1
          (ap is_name (sym c.trim_blanks.ensures) ∙ sym c.is_name.ensures ∙ c.if-not-is_name.false);
    }

pub returns : goal.returns
returns c =
    let none = split_parts 44 c.loop-part.rest.now None c.in_default.ensures.cases (omega arith) in
    cc (c.loop-part.invariant.same, last_name c.loop-part.rest.now none)
