use Rattle.std.proofs.Common.{refl}
use Rattle.std.proofs.Output.{has_written_styled_append, has_written_styled_of_eq}
use Rattle.pep440_rs.proofs.Reread.Prints.{list_prefix}
use Rattle.pep440_rs.proofs.list.print.write_list.Goals as goal

pub returns-in_ok-write_specifier-in-len1-up : goal.returns-in_ok-write_specifier-in-len1-up
returns-in_ok-write_specifier-in-len1-up g c = λ flush ok.
    let prefix = c.in_ok-write_specifier-in-len1-up.ensures flush refl in
    has_written_styled_of_eq _ _ _ _ _ (list_prefix c.args.members.now c.first-item.result c.first-item.is c.in-len1-up.len_at_least)
    (has_written_styled_append _ _ _ _ _ _ prefix (c.write_members.ensures prefix.flush ok))
