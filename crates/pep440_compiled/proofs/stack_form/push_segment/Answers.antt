use Rattle.std.proofs.Common.{◌∙◌, sym}
use Rattle.pep440_compiled.proofs.PrintedParts.{no_number}
use Rattle.pep440_compiled.proofs.stack_form.push_segment.Goals as goal

pub push_string-requires : goal.push_string-requires
push_string-requires c = λ digits rest n is ended e. no_number c.args.text.now (sym c.begins_number.ensures ∙ c.if-begins_number.false) digits rest n is e
