use Rattle.std.proofs.Common.{arith, append_assoc}
use Rattle.std.proofs.lemmas.Grind.{common_steps}
use Rattle.pep440_keys.proofs.Bytes.{release_only_bytes}
use Rattle.pep440_keys.proofs.key_bytes.push_release_only.Goals as goal

pub returns : goal.returns
returns c = let bytes = release_only_bytes c.args.release.now in grind (arith, common_steps, append_assoc)
