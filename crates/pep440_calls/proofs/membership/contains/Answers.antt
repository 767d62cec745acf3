use Rattle.pep440_calls.proofs.Forms.{contains_read, early_read}
use Rattle.pep440_calls.proofs.membership.contains.Goals as goal

pub returns : goal.returns
returns c = (
  contains_read c.args.list.now c.args.bytes.now c.in_ok-specifiers.specifiers c.in_ok-version.version c.in_ok-contained.contained c.in_ok-specifiers.ensures c.in_ok-version.ensures c.in_ok-contained.ensures.value,
  early_read c.args.bytes.now c.in_ok-version.version c.any_prerelease.result c.in_ok-version.ensures c.any_prerelease.ensures,
)
