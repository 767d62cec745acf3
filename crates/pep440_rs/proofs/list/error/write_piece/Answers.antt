use Rattle.std.proofs.Common.{Ok, refl, subst}
use Rattle.std.specs.Fmt.{DisplaysStyledOnOk}
use Rattle.pep440_rs.specs.Errors.{parse_kind_of, specifier_rejection_of}
use Rattle.pep440_rs.specs.ErrorTexts.{specifier_error_text}
use Rattle.pep440_rs.proofs.Reread.Around.{around}
use Rattle.pep440_rs.proofs.list.error.write_piece.Goals as goal

pub returns : goal.returns
returns g c =
    let told = subst (λ k. DisplaysStyledOnOk g.W.Write.write_str_gives c.write_str.new.self (Ok c.in_ok-write_parse_kind.field-0) (specifier_error_text (specifier_rejection_of k)) c.write_parse_kind.new.f) c.kind.ensures c.in_ok-write_parse_kind.ensures in
    around (specifier_error_text (specifier_rejection_of (parse_kind_of c.args.error.now))) (Ok c.in_ok-write_parse_kind.field-0) c.write_line.result (λ flush. c.in_ok-write_str.ensures.styled flush refl) refl told c.write_line.ensures
