use Rattle.std.proofs.Common.{◌++◌, ◌-◌, ◌∙◌, ◌∷◌, [], ap, arith, length, sym, Ok}
use Rattle.std.proofs.lemmas.List.{append_assoc, length-append}
use Rattle.pep440_version.proofs.Reading.Endings.{ends_then}
use Rattle.std.specs.Prelude.{IfErr}
use Rattle.pep440_rs.specs.Lists.ListErrors.{IsSpan, ParsesMembers}
use Rattle.pep440_rs.specs.Lists.ListGrammar.{pieces}
use Rattle.pep440_rs.specs.Lists.ListReading.{read_members, read_pieces}
use Rattle.pep440_rs.specs.Specifiers.SpecifierReading.{read_specifier}
use Rattle.pep440_rs.proofs.Reading.Passed.{passed}
use Rattle.pep440_rs.proofs.Reading.Pieces.{after_comma, ends_here, goes_on, members_from, piece_refused, piece_span, stops_here, with_members}
use Rattle.pep440_rs.proofs.list.read.parse_members.Goals as goal

pub returns-in_err-add_piece-clause-value : goal.returns-in_err-add_piece-clause-value
returns-in_err-add_piece-clause-value c =
    let some = sym c.is_empty.ensures ∙ c.if-is_empty.false in
    let k = length c.args.text.now - length c.loop-members.rest.now in
    passed (λ r. ParsesMembers (λ v. v.items) r (read_members c.args.text.now)) c.from_residual.result c.in_err-add_piece.field-0.0 c.from_residual.ensures.1
    (piece_refused c.in_err-add_piece.field-0.0 k c.split_piece.result.0.now (read_specifier c.split_piece.result.0.now) (read_members c.args.text.now) c.in_err-add_piece.ensures.refused
    (λ f told. members_from c.args.text.now some
    ∙ stops_here c.loop-members.members.items f (read_pieces 0 (pieces c.args.text.now)) k c.loop-members.rest.now c.split_piece.result.0.now _ c.split_piece.ensures.pieces told c.loop-members.invariant.2))

pub returns-in_err-add_piece-clause-span : goal.returns-in_err-add_piece-clause-span
returns-in_err-add_piece-clause-span c =
    passed (λ r. IfErr r (IsSpan c.args.text.now)) c.from_residual.result c.in_err-add_piece.field-0.0 c.from_residual.ensures.1
    (piece_span c.in_err-add_piece.field-0.0 c.args.text.now c.loop-members.rest.now c.split_piece.result.0.now _ (read_specifier c.split_piece.result.0.now)
    c.utf8.text c.loop-members.invariant.0 c.split_piece.ensures.boundary c.loop-members.invariant.1 c.split_piece.ensures.whole c.in_err-add_piece.ensures.refused)

pub loop-members-preserved : goal.loop-members-preserved
loop-members-preserved c =
    let whole = rw c.in-Some.is at c.split_piece.ensures.whole in
    let split = rw c.in-Some.is at c.split_piece.ensures.pieces in
    let added = c.in_ok-add_piece.ensures.added in (
      after_comma c.loop-members.rest.now c.split_piece.result.0.now c.in-Some.later.now c.loop-members.invariant.0 whole,
      ends_then c.args.text.now c.loop-members.rest.now c.in-Some.later.now c.loop-members.invariant.1
          (c.split_piece.result.0.now ++ (44 ∷ []), whole ∙ sym (append_assoc c.split_piece.result.0.now (44 ∷ []) c.in-Some.later.now)),
      goes_on c.loop-members.members.items added.0 (read_pieces 0 (pieces c.args.text.now)) c.args.text.now c.loop-members.rest.now c.split_piece.result.0.now c.in-Some.later.now
          c.loop-members.invariant.1 whole split added.1 c.loop-members.invariant.2
          ∙ ap (λ m. with_members m (read_pieces (length c.args.text.now - length c.in-Some.later.now) (pieces c.in-Some.later.now))) (sym added.2),
    )

pub loop-members-smaller : goal.loop-members-smaller
loop-members-smaller c =
    let whole = rw c.in-Some.is at c.split_piece.ensures.whole in
    let long = ap length whole ∙ length-append c.split_piece.result.0.now (44 ∷ c.in-Some.later.now) in
    omega (arith, long)

pub returns-in-None-clause-value : goal.returns-in-None-clause-value
returns-in-None-clause-value c =
    let split = rw c.in-None.is at c.split_piece.ensures.pieces in
    let some = sym c.is_empty.ensures ∙ c.if-is_empty.false in
    let added = c.in_ok-add_piece.ensures.added in
    members_from c.args.text.now some
    ∙ ends_here c.loop-members.members.items added.0 (read_pieces 0 (pieces c.args.text.now)) (length c.args.text.now - length c.loop-members.rest.now) c.loop-members.rest.now c.split_piece.result.0.now split added.1
    c.loop-members.invariant.2
    ∙ ap Ok (sym added.2)
