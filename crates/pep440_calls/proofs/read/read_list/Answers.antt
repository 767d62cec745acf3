use Rattle.std.proofs.Common.{◌∙◌, sym, true≢false}
use Rattle.pep440_calls.proofs.Forms.{compiled_list_read, list_string_read}
use Rattle.pep440_calls.proofs.read.read_list.Goals as goal

pub returns-then-has_list_format : goal.returns-then-has_list_format
returns-then-has_list_format c = compiled_list_read c.args.bytes.now (c.has_list_format.ensures.0 c.if-has_list_format.true) c.read_compiled_list.result c.read_compiled_list.ensures

pub returns : goal.returns
returns c = list_string_read c.args.bytes.now (λ format. true≢false (sym (c.has_list_format.ensures.1 format) ∙ c.if-has_list_format.false)) c.read_list_string.result c.read_list_string.ensures
