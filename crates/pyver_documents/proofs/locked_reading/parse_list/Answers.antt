use Rattle.std.proofs.Common.{IfSome, Option, subst, sym, ◌∙◌}
use Rattle.pep440_rs.specs.Lists.ListGrammar.{PieceRejection, RejectsList}
use Rattle.pep440_rs.specs.Lists.ListResults.{list_kind_of}
use Rattle.pyver_documents.proofs.Walks.{list_reason}
use Rattle.pyver_documents.proofs.locked_reading.parse_list.Goals as goal

pub returns-in-Err-2 : goal.returns-in-Err-2
returns-in-Err-2 c =
    let f = list_reason (list_kind_of c.in-Err.error) (sym c.is_out_of_memory.ensures ∙ c.if-is_out_of_memory.false) c.in-Err.ensures.lifted in
    (f.0, subst (λ (o : Option PieceRejection). IfSome o (RejectsList c.args.text.now)) f.1 c.in-Err.ensures.refused)
