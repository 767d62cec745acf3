use Rattle.std.proofs.Common.{◌∙◌, arith, map, string_bytes, sym, Some, None}
use Rattle.std.proofs.lemmas.Str.Pattern.{split_parts}
use Rattle.pep440_rs.proofs.Reading.Pieces.{after_comma}
use Rattle.pep440_pick.proofs.Extras.{copied_last, copied_more, listed}
use Rattle.pep440_pick.proofs.requirement_parts.copy_extras.Goals as goal

pub loop-part-preserved : goal.loop-part-preserved
loop-part-preserved c =
    let parts = split_parts 44 c.loop-part.rest.now (Some (c.in-Some.part, c.in-Some.later)) c.in-Some.ensures.cases (omega arith) in
    record {
      utf8 = after_comma c.loop-part.rest.now c.in-Some.part.now c.in-Some.later.now c.loop-part.invariant.utf8 parts.0;
      copied = copied_more (map string_bytes c.loop-part.extras.items) _ c.loop-part.rest.now c.in-Some.part.now c.in-Some.later.now c.args.inside.now parts.0 parts.1 c.in_ok-push_extra.ensures
          c.loop-part.invariant.copied;
    }

pub returns : goal.returns
returns c =
    let none = split_parts 44 c.loop-part.rest.now None c.in_default.ensures.cases (omega arith) in
    listed c.args.inside.now _ (sym c.are_blanks.ensures ∙ c.if-are_blanks.false) (copied_last (map string_bytes c.loop-part.extras.items) _ c.loop-part.rest.now c.args.inside.now none c.in_ok-push_extra-2.ensures c.loop-part.invariant.copied)
