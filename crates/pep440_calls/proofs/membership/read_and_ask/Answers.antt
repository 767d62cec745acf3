use Rattle.pep440_calls.proofs.Allowed.{allows_read}
use Rattle.pep440_calls.proofs.membership.read_and_ask.Goals as goal

pub returns : goal.returns
returns c = allows_read c.args.list.now c.args.bytes.now c.args.prereleases c.in_ok-specifiers.specifiers c.in_ok-version.version c.are_taken-taken.result c.in_ok-allows_literally.field-0 c.requires c.in_ok-specifiers.ensures
    c.in_ok-version.ensures c.are_taken-taken.ensures c.in_ok-allows_literally.ensures.value
